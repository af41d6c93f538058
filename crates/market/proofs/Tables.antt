-- A rule of a constant table, shown at all of its entries by one test that antt computes. Assumes nothing.
use Rattle.std.proofs.Common.{◌≡◌, ℕ, zero, suc, ◌+◌, ◌-◌, ◌<◌, ◌≤◌, Bool, true, ◌&&◌, eqb, List, [], ◌∷◌, length, get_or, ap, ◌∙◌, arith}
use Rattle.std.proofs.lemmas.Bool.{and_parts, eqb-true}

-- the entry for n, n + 1 and so on is what f gives
abbrev follows : (ℕ → ℕ) → ℕ → List ℕ → Bool
follows f n [] = true
follows f n (x ∷ xs) = eqb x (f n) && follows f (suc n) xs

entry : (f : ℕ → ℕ) (n : ℕ) (xs : List ℕ) → follows f n xs ≡ true → (k : ℕ) → k < length xs → get_or xs k 0 ≡ f (n + k)
entry f n [] t k h = absurd (omega arith)
entry f n (x ∷ xs) t zero h = eqb-true x (f n) (and_parts (eqb x (f n)) (follows f (suc n) xs) t).0 ∙ ap f (omega arith)
entry f n (x ∷ xs) t (suc k) h = entry f (suc n) xs (and_parts (eqb x (f n)) (follows f (suc n) xs) t).1 k (omega arith) ∙ ap f (omega arith)

-- a table for the numbers from 1 on
pub from_one : (f : ℕ → ℕ) (xs : List ℕ) → follows f 1 xs ≡ true → (t : ℕ) → 1 ≤ t → t ≤ length xs → get_or xs (t - 1) 0 ≡ f t
from_one f xs told t one within = entry f 1 xs told (t - 1) (omega arith) ∙ ap f (omega arith)
