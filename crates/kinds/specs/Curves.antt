-- A curve: when numbers are those of one, what running costs along it, and the least of cost less worth. Assumes nothing.
use Rattle.std.specs.Prelude.{◌≡◌, ℕ, ◌+◌, ◌-◌, ◌<◌, ◌≤◌, Bool, true, cond, ◌&&◌, ℤ, pos, ◌+ℤ◌, ◌-ℤ◌, ◌*ℤ◌, neg_ℤ, ◌≤ℤ◌, ◌<ℤ◌, Some, None, Option, int_le, int_lt, nat_le}
use Rattle.std.specs.Int.{int_min, int_max}
use Rattle.measures.specs.Amounts.{grains}
use Rattle.measures.specs.declared.Grains.{Grains}
use Rattle.market.specs.Scans.{at, Within, UpTo, in_test, all_below}
use Rattle.market.specs.Totals.{total}
use Rattle.kinds.specs.declared.curve_fault.CurveFault.{CurveFault}
use Rattle.kinds.specs.declared.curve_fault.CurveFault.TheVariants.{Count, Range, Order}
use Rattle.kinds.specs.declared.curve_numbers.CurveNumbers.{CurveNumbers}
use Rattle.kinds.specs.Leasts.{least_over}

-- segment i goes from end i to end i + 1, in tenths of a megawatt
abbrev pub end : CurveNumbers → ℕ → ℤ
end c i = at c.ends i

-- in fen
abbrev pub price : CurveNumbers → ℕ → ℤ
price c i = at c.prices i

-- 1 to 10 segments
abbrev pub CountFits : CurveNumbers → Type 0
CountFits c = (1 ≤ c.segments) × (c.segments ≤ 10)

-- every end and every price lies in its range
pub record RangesFit (c : CurveNumbers) : Type 0 where
  pub ends : (i : ℕ) → i < c.segments + 1 → UpTo 20000 (end c i)
  pub prices : (i : ℕ) → i < c.segments → Within 200000 (price c i)

-- each end is above the one before it, and no price is below the one before it
pub record Rises (c : CurveNumbers) : Type 0 where
  pub ends : (i : ℕ) → i < c.segments → end c i <ℤ end c (i + 1)
  pub prices : (i : ℕ) → i + 1 < c.segments → price c i ≤ℤ price c (i + 1)

-- the numbers are those of a curve
pub record Made (c : CurveNumbers) : Type 0 where
  pub count : CountFits c
  pub ranges : RangesFit c
  pub rises : Rises c

-- the same as a test
abbrev pub made_test : CurveNumbers → Bool
made_test c =
    (nat_le 1 c.segments && nat_le c.segments 10)
    && ((all_below (λ i. in_test (pos 0) (pos 20000) (end c i)) (c.segments + 1) && all_below (λ i. in_test (neg_ℤ (pos 200000)) (pos 200000) (price c i)) c.segments)
    && (all_below (λ i. int_lt (end c i) (end c (i + 1))) c.segments && all_below (λ i. int_le (price c i) (price c (i + 1))) (c.segments - 1)))

-- both, for the struct that holds the numbers
pub record Fits (c : CurveNumbers) : Type 0 where
  pub test : made_test c ≡ true
  pub made : Made c

-- the first no, where the numbers are not those of a curve
pub data Refused (c : CurveNumbers) : CurveFault → Type 0 where
  count : (CountFits c → ⊥) → Refused c Count
  ranges : CountFits c → (RangesFit c → ⊥) → Refused c Range
  order : CountFits c → RangesFit c → (Rises c → ⊥) → Refused c Order

-- the part of segment i that lies below p
unfoldable pub below : CurveNumbers → ℕ → ℤ → ℤ
below c i p = int_max (pos 0) (int_min p (end c (i + 1)) -ℤ end c i)

-- a thousand times: the first price up to the first end, and each segment's price on its part below p
unfoldable pub running_cost : CurveNumbers → ℤ → ℤ
running_cost c p = pos 1000 *ℤ (price c 0 *ℤ end c 0 +ℤ total c.segments (λ i. price c i *ℤ below c i p))

-- running cost less worth, where v is what a tenth of a megawatt is worth
abbrev pub net_cost : CurveNumbers → ℤ → ℤ → ℤ
net_cost c v p = running_cost c p -ℤ v *ℤ p

-- the first end and the last
abbrev pub lowest : CurveNumbers → ℤ
lowest c = end c 0

abbrev pub highest : CurveNumbers → ℤ
highest c = end c c.segments

-- a value within ±20,000,000,000, and outputs from low to high on the curve
abbrev pub asked_test : CurveNumbers → ℤ → ℤ → ℤ → Bool
asked_test c v low high = in_test (neg_ℤ (pos 20000000000)) (pos 20000000000) v && (int_le (lowest c) low && (int_le low high && int_le high (highest c)))

-- the least of running cost less worth over low to high, where it can be asked for
abbrev pub least_told : CurveNumbers → ℤ → ℤ → ℤ → Option Grains
least_told c v low high = cond (asked_test c v low high) (Some (grains (least_over low high (net_cost c v)))) None

-- what segment i takes off the cost less worth from low to high, where its tenths take off anything
unfoldable pub fall : CurveNumbers → ℤ → ℤ → ℤ → ℕ → ℤ
fall c v low high i = int_min (pos 0) ((pos 1000 *ℤ price c i -ℤ v) *ℤ (below c i high -ℤ below c i low))
