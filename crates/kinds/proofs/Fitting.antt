-- The smaller of two amounts. Assumes nothing.
use Rattle.std.proofs.Common.{◌≡◌, Bool, true, false, cond, ℤ, refl, ap, ◌∙◌, arith}
use Rattle.std.specs.Int.{int_min}
use Rattle.std.specs.Ordering.{ord_min, int_cmp}
use Rattle.std.proofs.lemmas.Int.{ints}
use Rattle.measures.specs.declared.Grains.{Grains}

chosen : (b : Bool) (x y : Grains) → (cond b x y).0 ≡ cond b x.0 y.0
chosen true x y = refl
chosen false x y = refl

smaller : (x y : ℤ) → ord_min int_cmp x y ≡ int_min y x
smaller x y = grind (arith, ints)

-- the smaller of two amounts, as the library tells it
pub smaller_is : (m x y : Grains) → m ≡ ord_min (λ a b. int_cmp a.0 b.0) x y → m.0 ≡ int_min y.0 x.0
smaller_is m x y e = ap (λ a. a.0) e ∙ chosen _ y x ∙ smaller x.0 y.0
