-- Tests on ranges, and what they tell. Assumes nothing.
use Rattle.std.proofs.Common.{◌≡◌, ℕ, Bool, true, false, not, cond, ◌&&◌, ◌||◌, Less, Equal, Greater, Option, T, List, length, ℤ, ◌≤ℤ◌, Decides, sym, refl, ◌∙◌, subst, arith}
use Rattle.std.specs.List.{position}
use Rattle.std.specs.Ordering.{int_cmp, is_lt, is_gt}
use lib.Signed.{le_z, lt_z, le_z_yes}
use Rattle.std.proofs.lemmas.Int.{ints}
use Rattle.std.proofs.lemmas.Bool.{and_parts, and_from}
use Rattle.std.proofs.lemmas.Bool.Decides.{Decides-below_and}
use Rattle.market.specs.Scans.{In, in_test, at, InBefore, all_below, in_all, Ordered, first_out}

-- the test of an order of integers
told : (b : Bool) → T b → b ≡ true
told true t = refl
told false t = absurd t

pub decides_le : (a b : ℤ) → Decides (le_z a b) (a ≤ℤ b)
decides_le a b = (λ e. le_z_yes (subst T (sym e) tt), λ h. told (le_z a b) h.le)

-- the test of a strict order of two numbers that are A and B, passed and failed
pub less_told : {a b A B : ℤ} → a ≡ A → b ≡ B → true ≡ lt_z a b → B ≤ℤ A → ⊥
less_told {a} {b} {A} {B} e f t h = less (λ j. lt_z (sym e j) (sym f j)) t h
  where
    plain : (x y : ℤ) → true ≡ lt_z x y → y ≤ℤ x → ⊥
    plain x y t h = grind (arith, ints)

    less : lt_z A B ≡ lt_z a b → true ≡ lt_z a b → B ≤ℤ A → ⊥
    less same t h = plain A B (t ∙ sym same) h

pub at_most_told : {a b A B : ℤ} → a ≡ A → b ≡ B → false ≡ lt_z a b → B ≤ℤ A
at_most_told {a} {b} {A} {B} e f t = plain A B (t ∙ λ j. lt_z (e j) (f j))
  where
    plain : (x y : ℤ) → false ≡ lt_z x y → y ≤ℤ x
    plain x y t = grind (arith, ints)

pub decides_in : (low high x : ℤ) → Decides (in_test low high x) (In low high x)
decides_in low high x = (
  λ e. let p = and_parts (le_z low x) (le_z x high) e in ((decides_le low x).0 p.0, (decides_le x high).0 p.1),
  λ h. and_from (le_z low x) (le_z x high) ((decides_le low x).1 h.0) ((decides_le x high).1 h.1),
)

pub decides_all : (low high : ℤ) (xs : List ℤ) → Decides (in_all low high xs) (InBefore low high xs (length xs))
decides_all low high xs =
    Decides-below_and (λ k. in_test low high (at xs k)) (λ k. In low high (at xs k)) (all_below (λ k. in_test low high (at xs k))) (λ k. decides_in low high (at xs k)) refl (λ n. refl) (length xs)

pub decides_ordered : (xs ys : List ℤ) (n : ℕ) → Decides (all_below (λ k. le_z (at xs k) (at ys k)) n) (Ordered xs ys n)
decides_ordered xs ys n =
    Decides-below_and (λ k. le_z (at xs k) (at ys k)) (λ k. at xs k ≤ℤ at ys k) (all_below (λ k. le_z (at xs k) (at ys k))) (λ k. decides_le (at xs k) (at ys k)) refl (λ n. refl) n

-- which of two numbers is the smaller, by the order of their type and by tests
smaller : (a b : Bool) → is_lt (cond a Less (cond b Greater Equal)) ≡ a
smaller true b = refl
smaller false true = refl
smaller false false = refl

larger : (x y : ℤ) (a b : Bool) → lt_z x y ≡ a → lt_z y x ≡ b → is_gt (cond a Less (cond b Greater Equal)) ≡ b
larger x y true true e f = absurd (grind (arith, ints))
larger x y true false e f = refl
larger x y false true e f = refl
larger x y false false e f = refl

strict : (x y : ℤ) (a b : Bool) → lt_z x y ≡ a → le_z y x ≡ b → a ≡ not b
strict x y true true e f = absurd (grind (arith, ints))
strict x y true false e f = refl
strict x y false true e f = refl
strict x y false false e f = absurd (grind (arith, ints))

pub lt_is : (x y : ℤ) → is_lt (int_cmp x y) ≡ lt_z x y
lt_is x y = smaller (lt_z x y) (lt_z y x)

pub gt_is : (x y : ℤ) → is_gt (int_cmp x y) ≡ lt_z y x
gt_is x y = larger x y (lt_z x y) (lt_z y x) refl refl

either : (c d : Bool) → (not c || not d) ≡ not (c && d)
either true d = refl
either false d = refl

apart : (low high x : ℤ) → (is_lt (int_cmp x low) || is_gt (int_cmp x high)) ≡ not (in_test low high x)
apart low high x =
    (λ j. (lt_is x low ∙ strict x low (lt_z x low) (le_z low x) refl refl) j || (gt_is x high ∙ strict high x (lt_z high x) (le_z x high) refl refl) j)
    ∙ either (le_z low x) (le_z x high)

-- a scan by the order of the cells' type finds the first cell that is out of its range
abbrev pub scan : ℤ → ℤ → List ℤ → Option ℕ
scan low high xs = position (λ x. is_lt (int_cmp x low) || is_gt (int_cmp x high)) xs

pub scan_is : (low high : ℤ) (xs : List ℤ) → scan low high xs ≡ first_out low high xs
scan_is low high xs = λ j. position (λ x. apart low high x j) xs
