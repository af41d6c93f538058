-- A text cut at its first separator, and so on to its last. Assumes nothing.
use Rattle.std.proofs.Common.{◌≡◌, ℕ, zero, suc, ◌+◌, ◌-◌, ◌<◌, eqb, List, [], ◌∷◌, length, get_or, take, drop, sym, refl, ap, ◌∙◌, arith}
use Rattle.std.proofs.lemmas.List.{take_rest}
use Rattle.std.proofs.lemmas.Bool.{eq-eqb, ne_eqb, cond-true, cond-false}
use Rattle.std.specs.List.{onto_first}
use Rattle.vendor.specs.Pieces.{pieces}

-- no separator before n, and one at n
pub cut_here : (sep : ℕ) (bs : List ℕ) (n : ℕ) → n < length bs → ((k : ℕ) → k < n → get_or bs k 0 ≡ sep → ⊥) → get_or bs n 0 ≡ sep → pieces sep bs ≡ take n bs ∷ pieces sep (drop (suc n) bs)
unfolding pieces
cut_here sep [] n within before at = absurd (omega arith)
cut_here sep (b ∷ bs) zero within before at = cond-true (eqb b sep) _ _ (eq-eqb b sep at)
cut_here sep (b ∷ bs) (suc n) within before at =
    cond-false (eqb b sep) _ _ (ne_eqb b sep (before 0 (omega arith)))
    ∙ ap (onto_first b) (cut_here sep bs n (omega arith) (λ k h. before (suc k) (omega arith)) at)

-- no separator at all
pub cut_last : (sep : ℕ) (bs : List ℕ) → ((k : ℕ) → k < length bs → get_or bs k 0 ≡ sep → ⊥) → pieces sep bs ≡ bs ∷ []
unfolding pieces
cut_last sep [] none = refl
cut_last sep (b ∷ bs) none =
    cond-false (eqb b sep) _ _ (ne_eqb b sep (none 0 (omega arith))) ∙ ap (onto_first b) (cut_last sep bs (λ k h. none (suc k) (omega arith)))

-- one field more of a row: its last, or the one before the first semicolon, at place n
pub last_left : (bs : List ℕ) → ((k : ℕ) → k < length bs → get_or bs k 0 ≡ 59 → ⊥) → pieces 59 bs ≡ bs ∷ []
last_left = cut_last 59

pub next_left : (bs : List ℕ) (n : ℕ) → n < length bs → ((k : ℕ) → k < n → get_or bs k 0 ≡ 59 → ⊥) → get_or bs n 0 ≡ 59
    → pieces 59 bs ≡ take n bs ∷ pieces 59 (take (length bs - (n + 1)) (drop (n + 1) bs))
next_left bs n within before at =
    let place : suc n ≡ n + 1 = omega arith in
    cut_here 59 bs n within before at ∙ ap (λ ps. take n bs ∷ pieces 59 ps) (ap (λ k. drop k bs) place ∙ sym (take_rest bs (n + 1)))
