-- The numbers of a day, and when they are those of one. Assumes nothing.
use Rattle.std.specs.Prelude.{◌≡◌, ℕ, ◌+◌, ◌*◌, ◌<◌, ◌≤◌, Bool, true, ◌&&◌, List, [], ◌∷◌, length, ℤ, pos, neg_ℤ, ◌==◌, int_le, nat_le}
use Rattle.market.specs.declared.day_fault.DayFault.{DayFault}
use Rattle.market.specs.declared.day_fault.DayFault.TheVariants.{Shape, Lengths, Load, Factor, Lower, Upper, Crossed}
use Rattle.market.specs.declared.numbers.DayNumbers.{DayNumbers}
use Rattle.market.specs.Scans.{at, InBefore, FirstOut, Ordered, FirstCrossed, in_all, all_below}

-- periods T, nodes K and lines L; loads by node and period, factors by line and node, a lower and an upper limit for each line
pub record Numbers : Type 0 where
  pub periods : ℕ
  pub nodes : ℕ
  pub lines : ℕ
  pub loads : List ℤ
  pub factors : List ℤ
  pub lower : List ℤ
  pub upper : List ℤ

abbrev pub numbers_of : DayNumbers → Numbers
numbers_of d = record { periods = d.periods; nodes = d.nodes; lines = d.lines; loads = d.loads.now; factors = d.factors.now; lower = d.lower.now; upper = d.upper.now }

pub record ShapeFits (d : Numbers) : Type 0 where
  pub periods : (1 ≤ d.periods) × (d.periods ≤ 96)
  pub nodes : (1 ≤ d.nodes) × (d.nodes ≤ 16)
  pub lines : d.lines ≤ 16

pub record LengthsFit (d : Numbers) : Type 0 where
  pub loads : length d.loads ≡ d.nodes * d.periods
  pub factors : length d.factors ≡ d.lines * d.nodes
  pub lower : length d.lower ≡ d.lines
  pub upper : length d.upper ≡ d.lines

-- every number before cell i lies in its range
abbrev pub LoadsFit : Numbers → ℕ → Type 0
LoadsFit d i = InBefore (neg_ℤ (pos 40000)) (pos 40000) d.loads i

abbrev pub FactorsFit : Numbers → ℕ → Type 0
FactorsFit d i = InBefore (neg_ℤ (pos 1000)) (pos 1000) d.factors i

abbrev pub LimitsFit : List ℤ → ℕ → Type 0
LimitsFit limits i = InBefore (neg_ℤ (pos 200000)) (pos 200000) limits i

-- the numbers are those of a day
pub record Made (d : Numbers) : Type 0 where
  pub shape : ShapeFits d
  pub lengths : LengthsFit d
  pub loads : LoadsFit d (length d.loads)
  pub factors : FactorsFit d (length d.factors)
  pub lower : LimitsFit d.lower (length d.lower)
  pub upper : LimitsFit d.upper (length d.upper)
  pub ordered : Ordered d.lower d.upper d.lines

-- the same as a test
abbrev pub shape_test : Numbers → Bool
shape_test d = (nat_le 1 d.periods && nat_le d.periods 96) && ((nat_le 1 d.nodes && nat_le d.nodes 16) && nat_le d.lines 16)

abbrev pub lengths_test : Numbers → Bool
lengths_test d =
    (length d.loads == d.nodes * d.periods) && (length d.factors == d.lines * d.nodes && (length d.lower == d.lines && length d.upper == d.lines))

abbrev pub made_test : Numbers → Bool
made_test d =
    shape_test d && (lengths_test d && (in_all (neg_ℤ (pos 40000)) (pos 40000) d.loads && (in_all (neg_ℤ (pos 1000)) (pos 1000) d.factors
    && (in_all (neg_ℤ (pos 200000)) (pos 200000) d.lower && (in_all (neg_ℤ (pos 200000)) (pos 200000) d.upper
    && all_below (λ l. int_le (at d.lower l) (at d.upper l)) d.lines)))))

-- both, for the struct that holds the numbers
pub record Fits (d : Numbers) : Type 0 where
  pub test : made_test d ≡ true
  pub made : Made d

abbrev pub smallest_numbers : Numbers
smallest_numbers = record { periods = 1; nodes = 1; lines = 0; loads = pos 0 ∷ []; factors = []; lower = []; upper = [] }

-- what making a day asks of ranges, in order
pub record UpToLoads (d : Numbers) : Type 0 where
  pub shape : ShapeFits d
  pub lengths : LengthsFit d

pub record UpToFactors (d : Numbers) : Type 0 where
  pub before : UpToLoads d
  pub loads : LoadsFit d (length d.loads)

pub record UpToLower (d : Numbers) : Type 0 where
  pub before : UpToFactors d
  pub factors : FactorsFit d (length d.factors)

pub record UpToUpper (d : Numbers) : Type 0 where
  pub before : UpToLower d
  pub lower : LimitsFit d.lower (length d.lower)

pub record UpToOrder (d : Numbers) : Type 0 where
  pub before : UpToUpper d
  pub upper : LimitsFit d.upper (length d.upper)

-- the first no, where the numbers are not those of a day
pub data Refused (d : Numbers) : DayFault → Type 0 where
  shape : (ShapeFits d → ⊥) → Refused d Shape
  lengths : ShapeFits d → (LengthsFit d → ⊥) → Refused d Lengths
  load : UpToLoads d → (k t : ℕ) → t < d.periods → FirstOut (neg_ℤ (pos 40000)) (pos 40000) d.loads (k * d.periods + t) → Refused d (Load k (t + 1))
  factor : UpToFactors d → (l k : ℕ) → k < d.nodes → FirstOut (neg_ℤ (pos 1000)) (pos 1000) d.factors (l * d.nodes + k) → Refused d (Factor l)
  lower_limit : UpToLower d → (l : ℕ) → FirstOut (neg_ℤ (pos 200000)) (pos 200000) d.lower l → Refused d (Lower l)
  upper_limit : UpToUpper d → (l : ℕ) → FirstOut (neg_ℤ (pos 200000)) (pos 200000) d.upper l → Refused d (Upper l)
  crossed : UpToOrder d → (l : ℕ) → FirstCrossed d.lower d.upper l → Refused d (Crossed l)
