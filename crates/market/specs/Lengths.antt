-- How the question whether lengths are right is answered. Assumes nothing.
use Rattle.std.specs.Prelude.{◌≡◌, Ok, Err, Result}
use Rattle.market.specs.declared.refusal.Refusal.{Refusal}
use Rattle.market.specs.declared.refusal.Refusal.TheVariants.{Lengths}

-- yes where the lengths are right, else 8
abbrev pub LengthsTold : {U : Type 0} → Type 0 → Result U Refusal → Type 0
LengthsTold right (Ok u) = right
LengthsTold right (Err e) = (e ≡ Lengths) × (right → ⊥)
