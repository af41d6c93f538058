-- A row that runs in every period: the mark is 1, and the output is one that it may have. Assumes nothing.
use Rattle.std.proofs.Common.{◌≡◌, ℕ, Bool, true, false, cond, ◌⊎◌, Some, None, Option, refl, inl, inr, arith}
use Rattle.market.specs.Fleet.{Reserved}

-- the two tests of a period, passed or failed, as `running_rule` has them
abbrev first_broken : Bool → Bool → Option ℕ
first_broken mark output = cond mark (cond output None (Some 11)) (Some 10)

pub both_kept : (mark output : Bool) → first_broken mark output ≡ None → output ≡ true
both_kept true true e = refl
both_kept true false e = let z : ◌≡◌ {A = ℕ} 0 1 = cc in absurd (omega arith)
both_kept false output e = let z : ◌≡◌ {A = ℕ} 0 1 = cc in absurd (omega arith)

pub which_broken : (mark output : Bool) (k : ℕ) → first_broken mark output ≡ Some k → (k ≡ 10) ⊎ (k ≡ 11)
which_broken true true k e = let z : ◌≡◌ {A = ℕ} 0 1 = cc in absurd (omega arith)
which_broken true false k e = inr cc
which_broken false output k e = inl cc

pub unreserved : (k : ℕ) → (k ≡ 10) ⊎ (k ≡ 11) → Reserved k → ⊥
unreserved k h r = omega arith
