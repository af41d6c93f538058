-- Ranges, and the first cell of a table that is out of its range. Assumes nothing.
use Rattle.std.specs.Prelude.{ℕ, zero, suc, ◌<◌, Bool, true, not, ◌&&◌, List, length, ℤ, pos, neg_ℤ, ◌≤ℤ◌, Some, None, Option, int_le, slice_index_or}
use Rattle.std.specs.List.{position}

-- x lies in low to high
abbrev pub In : ℤ → ℤ → ℤ → Type 0
In low high x = (low ≤ℤ x) × (x ≤ℤ high)

-- x lies within ±limit
abbrev pub Within : ℕ → ℤ → Type 0
Within limit x = In (neg_ℤ (pos limit)) (pos limit) x

-- x lies in 0 to limit
abbrev pub UpTo : ℕ → ℤ → Type 0
UpTo limit x = In (pos 0) (pos limit) x

-- the same as a test
abbrev pub in_test : ℤ → ℤ → ℤ → Bool
in_test low high x = int_le low x && int_le x high

-- the test p passes at every number below n
abbrev pub all_below : (ℕ → Bool) → ℕ → Bool
all_below p zero = true
all_below p (suc n) = p n && all_below p n

-- the number at index i, and 0 past the end
abbrev pub at : List ℤ → ℕ → ℤ
at xs i = slice_index_or xs i (pos 0)

-- every cell before i lies in the range
abbrev pub InBefore : ℤ → ℤ → List ℤ → ℕ → Type 0
InBefore low high xs i = (k : ℕ) → k < i → In low high (at xs k)

abbrev pub in_all : ℤ → ℤ → List ℤ → Bool
in_all low high xs = all_below (λ k. in_test low high (at xs k)) (length xs)

pub record FirstOut (low high : ℤ) (xs : List ℤ) (i : ℕ) : Type 0 where
  pub within : i < length xs
  pub before : InBefore low high xs i
  pub out : In low high (at xs i) → ⊥

-- the same as a function
abbrev pub first_out : ℤ → ℤ → List ℤ → Option ℕ
first_out low high xs = position (λ x. not (in_test low high x)) xs

-- the first cell that does not lie in the range, or none
abbrev pub Outside : ℤ → ℤ → List ℤ → Option ℕ → Type 0
Outside low high xs None = InBefore low high xs (length xs)
Outside low high xs (Some i) = FirstOut low high xs i

-- no number before index i of the one list is above that of the other
abbrev pub Ordered : List ℤ → List ℤ → ℕ → Type 0
Ordered xs ys i = (k : ℕ) → k < i → at xs k ≤ℤ at ys k

pub record FirstCrossed (xs ys : List ℤ) (i : ℕ) : Type 0 where
  pub within : i < length xs
  pub before : Ordered xs ys i
  pub crossed : at xs i ≤ℤ at ys i → ⊥

-- the first place where the one list is above the other, or none
abbrev pub Crossed : List ℤ → List ℤ → Option ℕ → Type 0
Crossed xs ys None = Ordered xs ys (length xs)
Crossed xs ys (Some i) = FirstCrossed xs ys i
