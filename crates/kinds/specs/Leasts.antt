-- The least of a function over a range of whole numbers. Assumes nothing.
use Rattle.std.specs.Prelude.{◌≡◌, ℕ, zero, suc, ℤ, pos, ◌+ℤ◌, ◌-ℤ◌, ◌≤ℤ◌, unsigned_abs}
use Rattle.std.specs.Int.{int_min}

-- z is the least of f over low to high: at most f p for every p, and f p for one of them
pub record Least (low high : ℤ) (f : ℤ → ℤ) (z : ℤ) : Type 0 where
  pub bound : (p : ℤ) → low ≤ℤ p → p ≤ℤ high → z ≤ℤ f p
  pub reached : (p : ℤ) × (low ≤ℤ p) × (p ≤ℤ high) × (z ≡ f p)

-- the least of f 0, .., f n
abbrev pub least_up_to : ℕ → (ℕ → ℤ) → ℤ
least_up_to zero f = f 0
least_up_to (suc n) f = int_min (least_up_to n f) (f (suc n))

-- the least of f low, .., f high
unfoldable pub least_over : ℤ → ℤ → (ℤ → ℤ) → ℤ
least_over low high f = least_up_to (unsigned_abs (high -ℤ low)) (λ k. f (low +ℤ pos k))
