-- The verdict of a row that is asked period by period, as a computation and as what it tells. Assumes nothing.
use Rattle.std.specs.Prelude.{◌≡◌, ℕ, zero, suc, ◌+◌, ◌<◌, ℤ, pos, ◌+ℤ◌, Some, None, Ok, Err, Option, Result}
use Rattle.measures.specs.Amounts.{grains}
use Rattle.measures.specs.declared.Grains.{Grains}
use Rattle.market.specs.Fleet.{broken}
use Rattle.market.specs.Totals.{total}
use Rattle.market.specs.declared.broken.Broken.{Broken}

-- what a period adds to the verdict on those before it: the first rule that it breaks, or its cost
abbrev pub and_then : Result Grains Broken → Option ℕ → ℤ → ℕ → Result Grains Broken
and_then (Err e) rule cost t = Err e
and_then (Ok c) None cost t = Ok (grains (c.0 +ℤ cost))
and_then (Ok c) (Some n) cost t = Err (broken n (t + 1))

-- the verdict on the first n periods: rule t is the first rule that period t breaks, if any, and cost t what it costs.
-- Periods count from 0 here, and from 1 in what is told.
abbrev pub verdict_over : (ℕ → Option ℕ) → (ℕ → ℤ) → ℕ → Result Grains Broken
verdict_over rule cost zero = Ok (grains (pos 0))
verdict_over rule cost (suc n) = and_then (verdict_over rule cost n) (rule n) (cost n) n

-- no period before t breaks a rule
abbrev pub Keeps : (ℕ → Option ℕ) → ℕ → Type 0
Keeps rule t = (s : ℕ) → s < t → rule s ≡ None

-- no period breaks a rule, and c is what they cost together
pub record LawfulAt (rule : ℕ → Option ℕ) (cost : ℕ → ℤ) (n : ℕ) (c : Grains) : Type 0 where
  pub keeps : Keeps rule n
  pub sum : c.0 ≡ total n cost

-- e tells the first period that breaks a rule, and the first rule that it breaks
pub data BreaksFirst (rule : ℕ → Option ℕ) (n : ℕ) : Broken → Type 0 where
  breaks : (t k : ℕ) → t < n → Keeps rule t → rule t ≡ Some k → BreaksFirst rule n (broken k (t + 1))

-- what a verdict tells
abbrev pub Tells : (ℕ → Option ℕ) → (ℕ → ℤ) → ℕ → Result Grains Broken → Type 0
Tells rule cost n (Ok c) = LawfulAt rule cost n c
Tells rule cost n (Err e) = BreaksFirst rule n e

-- a verdict on n periods is the one that is computed, and it alone tells what is so of them
pub record Judged (rule : ℕ → Option ℕ) (cost : ℕ → ℤ) (n : ℕ) (v : Result Grains Broken) : Type 0 where
  pub is : v ≡ verdict_over rule cost n
  pub tells : Tells rule cost n v
  pub alone : (w : Result Grains Broken) → Tells rule cost n w → w ≡ v
