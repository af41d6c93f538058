-- The laws of `total`, the sum of f 0, .., f (n - 1). Assumes nothing.
use Rattle.std.proofs.Common.{◌≡◌, ℕ, zero, suc, ◌+◌, ◌*◌, ◌<◌, ℤ, pos, ◌+ℤ◌, ◌-ℤ◌, ◌*ℤ◌, ◌≤ℤ◌, sym, refl, ap, ◌∙◌, add-one, arith}
use lib.IntN.{*ℤ-zero, zero-*ℤ}
use Rattle.std.proofs.lemmas.Int.{ints}
use Rattle.market.specs.Scans.{Within}
use Rattle.market.specs.Totals.{total}
use Rattle.market.proofs.Ints.{times_add, add_times}

pub total_more : (n : ℕ) (f : ℕ → ℤ) → total (n + 1) f ≡ total n f +ℤ f n
total_more n f = ap (λ k. total k f) (add-one n)

pub total_cong : (n : ℕ) (f g : ℕ → ℤ) → ((i : ℕ) → i < n → f i ≡ g i) → total n f ≡ total n g
total_cong zero f g e = refl
total_cong (suc n) f g e = λ j. total_cong n f g (λ i h. e i (omega arith)) j +ℤ e n (omega arith) j

pub total_mono : (n : ℕ) (f g : ℕ → ℤ) → ((i : ℕ) → i < n → f i ≤ℤ g i) → total n f ≤ℤ total n g
total_mono zero f g h = omega (arith, ints)
total_mono (suc n) f g h = let rest = total_mono n f g (λ i k. h i (omega arith)) in let last = h n (omega arith) in omega (arith, ints)

pub total_zero : (n : ℕ) → total n (λ i. pos 0) ≡ pos 0
total_zero zero = refl
total_zero (suc n) = omega (arith, ints, total_zero n)

pub total_add : (n : ℕ) (f g : ℕ → ℤ) → total n (λ i. f i +ℤ g i) ≡ total n f +ℤ total n g
total_add zero f g = refl
total_add (suc n) f g = omega (arith, ints, total_add n f g)

pub total_sub : (n : ℕ) (f g : ℕ → ℤ) → total n (λ i. f i -ℤ g i) ≡ total n f -ℤ total n g
total_sub zero f g = refl
total_sub (suc n) f g = omega (arith, ints, total_sub n f g)

-- a factor on the left, and on the right
pub total_times : (n : ℕ) (c : ℤ) (f : ℕ → ℤ) → total n (λ i. c *ℤ f i) ≡ c *ℤ total n f
total_times zero c f = sym (*ℤ-zero c)
total_times (suc n) c f = ap (λ x. x +ℤ (c *ℤ f n)) (total_times n c f) ∙ sym (times_add c (total n f) (f n))

pub times_total : (n : ℕ) (f : ℕ → ℤ) (c : ℤ) → total n (λ i. f i *ℤ c) ≡ total n f *ℤ c
times_total zero f c = sym (zero-*ℤ c)
times_total (suc n) f c = ap (λ x. x +ℤ (f n *ℤ c)) (times_total n f c) ∙ sym (add_times (total n f) (f n) c)

pub total_swap : (m n : ℕ) (f : ℕ → ℕ → ℤ) → total m (λ i. total n (λ j. f i j)) ≡ total n (λ j. total m (λ i. f i j))
total_swap zero n f = sym (total_zero n)
total_swap (suc m) n f = ap (λ x. x +ℤ total n (f m)) (total_swap m n f) ∙ sym (total_add n (λ j. total m (λ i. f i j)) (f m))

pub total_within : (n c : ℕ) (f : ℕ → ℤ) → ((i : ℕ) → i < n → Within c (f i)) → Within (n * c) (total n f)
total_within zero c f h = omega (arith, ints)
total_within (suc n) c f h = let rest = total_within n c f (λ i k. h i (omega arith)) in let last = h n (omega arith) in omega (arith, ints)
