-- The least over a range. Assumes nothing.
use Rattle.std.proofs.Common.{◌≡◌, ℕ, zero, suc, ◌≤◌, true, false, cond, ◌⊎◌, ℤ, pos, negsuc, ◌+ℤ◌, ◌-ℤ◌, nat_abs, ◌≤ℤ◌, sym, refl, ap, ◌∙◌, subst, inl, inr, arith}
use lib.Signed.{lt_z}
use Rattle.std.specs.Int.{int_min}
use Rattle.std.proofs.lemmas.Int.{ints, clamps}
use Rattle.std.proofs.lemmas.Bool.{cases_eq}
use Rattle.kinds.specs.Leasts.{Least, least_up_to, least_over}

pub min_cases : (a b : ℤ) → (int_min a b ≡ a) ⊎ (int_min a b ≡ b)
min_cases a b = elim (lt_z b a) as (λ t. (cond t b a ≡ a) ⊎ (cond t b a ≡ b)) [ true ↦ inr refl | false ↦ inl refl ]

pub add_le : (a x y z : ℤ) → x ≤ℤ y → z ≡ a +ℤ y → (a +ℤ x) ≤ℤ z
add_le a x y z h e = omega (arith, ints)

up_to_le : (n k : ℕ) (f : ℕ → ℤ) → k ≤ n → least_up_to n f ≤ℤ f k
up_to_le zero k f h = let e : f 0 ≡ f k = ap f (omega arith) in omega (arith, ints)
up_to_le (suc n) k f h =
    elim (cases_eq k (suc n)) [
      | inl e ↦ let d : f k ≡ f (suc n) = ap f e in omega (arith, ints, clamps)
      | inr ne ↦ let l : k ≤ n = omega arith in omega (arith, ints, clamps, up_to_le n k f l)
    ]

up_to_reached : (n : ℕ) (f : ℕ → ℤ) → (k : ℕ) × (k ≤ n) × (least_up_to n f ≡ f k)
up_to_reached zero f = (0, omega arith, refl)
up_to_reached (suc n) f =
    let r = up_to_reached n f in
    elim (min_cases (least_up_to n f) (f (suc n))) [ inl e ↦ (r.0, omega arith, e ∙ r.2) | inr e ↦ (suc n, omega arith, e) ]

-- how far an integer lies above another
apart : (x : ℤ) → pos 0 ≤ℤ x → pos (nat_abs x) ≡ x
apart (pos n) h = refl
apart (negsuc n) h = absurd h.le

reach : (low p : ℤ) → low ≤ℤ p → low +ℤ pos (nat_abs (p -ℤ low)) ≡ p
reach low p h = omega (arith, ints, apart (p -ℤ low) (omega (arith, ints)))

shorter : (low p high : ℤ) → low ≤ℤ p → p ≤ℤ high → nat_abs (p -ℤ low) ≤ nat_abs (high -ℤ low)
shorter low p high h k = omega (arith, ints, apart (p -ℤ low) (omega (arith, ints)), apart (high -ℤ low) (omega (arith, ints)))

inside : (low high : ℤ) (k : ℕ) → low ≤ℤ high → k ≤ nat_abs (high -ℤ low) → (low ≤ℤ (low +ℤ pos k)) × ((low +ℤ pos k) ≤ℤ high)
inside low high k h l = (omega (arith, ints), omega (arith, ints, apart (high -ℤ low) (omega (arith, ints))))

pub least_over_least : (low high : ℤ) (f : ℤ → ℤ) → low ≤ℤ high → Least low high f (least_over low high f)
unfolding least_over
least_over_least low high f h =
    let r = up_to_reached (nat_abs (high -ℤ low)) (λ k. f (low +ℤ pos k)) in
    let i = inside low high r.0 h r.1 in
    record {
      bound = λ p l k. subst (λ x. least_up_to (nat_abs (high -ℤ low)) (λ j. f (low +ℤ pos j)) ≤ℤ f x) (reach low p l) (up_to_le (nat_abs (high -ℤ low)) (nat_abs (p -ℤ low)) (λ j. f (low +ℤ pos j)) (shorter low p high l k));
      reached = (low +ℤ pos r.0, i.0, i.1, r.2);
    }

pub antisym : (a b : ℤ) → a ≤ℤ b → b ≤ℤ a → a ≡ b
antisym a b h k = omega (arith, ints)

-- there is one least
pub least_same : (low high : ℤ) (f : ℤ → ℤ) (y z : ℤ) → Least low high f y → Least low high f z → y ≡ z
least_same low high f y z l m =
    antisym y z (subst (λ x. y ≤ℤ x) (sym m.reached.3) (l.bound m.reached.0 m.reached.1 m.reached.2))
    (subst (λ x. z ≤ℤ x) (sym l.reached.3) (m.bound l.reached.0 l.reached.1 l.reached.2))
