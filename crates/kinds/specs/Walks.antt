-- The least weight of the periods from one on, as a walk back over them gives it. Assumes nothing.
use Rattle.std.specs.Prelude.{◌≡◌, ℕ, zero, suc, ◌+◌, ◌-◌, ◌≤◌, min, Bool, cond, ℤ, pos, ◌+ℤ◌, ◌-ℤ◌, nat_le}
use Rattle.std.specs.Int.{int_min}
use Rattle.market.specs.Fleet.{RowPrices}
use Rattle.market.specs.Scans.{at, Within, UpTo}
use Rattle.market.specs.Totals.{total}
use Rattle.kinds.specs.declared.thermal_unit.ThermalUnit.{ThermalUnit}
use Rattle.kinds.specs.Thermal.{running, weight_in}

-- the mark b, which has lasted h periods, may change
abbrev pub may_change : ThermalUnit → ℕ → ℕ → Bool
may_change u b h = cond (running b) (nat_le u.least_running h) (nat_le u.least_stopped h)

-- g t b m is what period t weighs at the mark m after the mark b
module _ (u : ThermalUnit) (g : ℕ → ℕ → ℕ → ℤ) where
  -- the least weight of n periods from t on, after the mark b for h periods: the mark stays or, where it may, changes
  abbrev pub best : ℕ → ℕ → ℕ → ℕ → ℤ
  best zero t b h = pos 0
  best (suc n) t b h =
      cond (may_change u b h)
      (int_min (g t b b +ℤ best n (suc t) b (suc h)) (g t b (1 - b) +ℤ best n (suc t) (1 - b) 1))
      (g t b b +ℤ best n (suc t) b (suc h))

-- n is the number of periods of the day
module _ (u : ThermalUnit) (q : RowPrices) (n : ℕ) where
  -- the least weight of period t and those after it, for a unit that runs and may stop
  unfoldable pub on_from : ℕ → ℤ
  on_from t = best u (weight_in u q) (n - t) t 1 u.least_running

  -- the same for a unit that is stopped and may start
  unfoldable pub off_from : ℕ → ℤ
  off_from t = best u (weight_in u q) (n - t) t 0 u.least_stopped

  -- what period t and those after it weigh for a unit that runs in all of them and in the one before
  unfoldable pub run_from : ℕ → ℤ
  run_from t = total (n - t) (λ k. weight_in u q (t + k) 1 1)

-- every price is within its limits; past the end of its list a price is 0
pub record PricesFit (q : RowPrices) : Type 0 where
  pub net : (t : ℕ) → Within 17000000000 (at q.net t)
  pub rise : (t : ℕ) → UpTo 1000000 (at q.rise t)
  pub fall : (t : ℕ) → UpTo 1000000 (at q.fall t)

-- what the periods from one on weigh: for a unit that runs in all of them and in the one before, the least for one that runs and may stop, and
-- the least for one that is stopped and may start
pub record Ahead : Type 0 where
  pub run : ℤ
  pub on : ℤ
  pub off : ℤ

-- from period t on, these are what the walk back gives
pub record Walked (u : ThermalUnit) (q : RowPrices) (n t : ℕ) (ahead : ℕ → Ahead) : Type 0 where
  pub runs : (k : ℕ) → t ≤ k → k ≤ n → (ahead k).run ≡ run_from u q n k
  pub ons : (k : ℕ) → t ≤ k → k ≤ n → (ahead k).on ≡ on_from u q n k
  pub offs : (k : ℕ) → t ≤ k → k ≤ n → (ahead k).off ≡ off_from u q n k

-- no amount of a period is above 96 times what a period can weigh
pub record AheadWithin (a : Ahead) : Type 0 where
  pub run : Within 43430400000000000 a.run
  pub on : Within 43430400000000000 a.on
  pub off : Within 43430400000000000 a.off

-- what it weighs to run from one period up to another, and to be free to stop from there
abbrev pub running_to : Ahead → Ahead → ℤ
running_to from to = from.run -ℤ to.run +ℤ to.on

-- what the walk back says of the whole day: from the state before it, a mark goes on for what it still owes of its least time
abbrev pub from_before : ThermalUnit → ℕ → (ℕ → Ahead) → ℤ
from_before u n ahead =
    cond (running u.mark) (running_to (ahead 0) (ahead (min (u.least_running - u.lasted) n))) (ahead (min (u.least_stopped - u.lasted) n)).off
