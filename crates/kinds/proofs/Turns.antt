-- A `for` over a slice, or over its chunks, by what is left of it. Assumes nothing.
use Rattle.std.proofs.Common.{◌≡◌, ℕ, suc, ◌+◌, ◌-◌, ◌*◌, ◌<◌, ◌≤◌, List, ◌∷◌, ◌++◌, length, get_or, take, drop, sym, ap, ◌∙◌, ⊎_elim, mul-le-mul_right, arith}
use Rattle.std.proofs.lemmas.Bool.{cases_lt}
use Rattle.std.proofs.lemmas.List.{length-drop, drop-drop, drop_at, drop_more}
use Rattle.std.proofs.Math.Seq.{take-append_seam}
use Rattle.market.specs.Clearing.{part}

-- what is left of a list from k on begins with x: x stands at k, and what follows is left from k + 1 on
pub record Front {A : Type 0} (xs rest : List A) (k : ℕ) (x : A) : Type 0 where
  pub within : k < length xs
  pub at : (d : A) → x ≡ get_or xs k d
  pub left : rest ≡ drop (k + 1) xs

pub front : {A : Type 0} (xs : List A) (k : ℕ) (x : A) (before rest : List A) → before ≡ drop k xs → before ≡ x ∷ rest → Front xs rest k x
front xs k x before rest d e =
    let f : drop k xs ≡ x ∷ rest = sym d ∙ e in
    let more : length xs - k ≡ suc (length rest) = sym (length-drop k xs) ∙ ap length f in
    let within : k < length xs = omega arith in
    record {
      within = within;
      at = λ d. let split = sym f ∙ drop_more xs k d within in cc;
      left = let split = sym f ∙ drop_more xs k x within in cc;
    }

-- nothing is left
pub spent : {A : Type 0} (xs : List A) (k : ℕ) (left : List A) → left ≡ drop k xs → length left ≡ 0 → length xs ≤ k
spent xs k left d e = let none : length xs - k ≡ 0 = sym (length-drop k xs) ∙ sym (ap length d) ∙ e in omega arith

-- what is left from item k on, in items of n cells, begins with x
pub front_part : {A : Type 0} (xs : List A) (n k : ℕ) (x before rest : List A) → before ≡ drop (k * n) xs → before ≡ x ++ rest → length x ≡ n → (x ≡ part n k xs) × (rest ≡ drop ((k + 1) * n) xs)
front_part xs n k x before rest d e long =
    let f : drop (k * n) xs ≡ x ++ rest = sym d ∙ e in
    let next : k * n + n ≡ (k + 1) * n = omega arith in
    (sym (take-append_seam x rest) ∙ (λ j. take (long j) (sym f j)), sym (drop_at x rest n long) ∙ ap (drop n) (sym f) ∙ drop-drop n (k * n) xs ∙ ap (λ m. drop m xs) next)

-- less than an item is left
pub spent_parts : {A : Type 0} (xs : List A) (n size k : ℕ) (left : List A) → length xs ≡ size * n → left ≡ drop (k * n) xs → length left < n → size ≤ k
spent_parts xs n size k left long d few =
    let some : length xs - k * n < n = omega (arith, length-drop (k * n) xs, ap length d) in
    ⊎_elim (λ l. let m : suc k * n ≤ size * n = mul-le-mul_right n l in absurd (omega arith)) (λ l. l) (cases_lt k size)
