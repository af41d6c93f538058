-- The rows that are left of a file, one after another. Assumes nothing.
use Rattle.std.proofs.Common.{◌≡◌, ℕ, suc, ◌+◌, ◌-◌, ◌<◌, ◌≤◌, true, false, cond, eqb, List, [], ◌∷◌, length, get_or, take, drop, Some, None, Ok, Err, Option, Result, MatchResult, sym, refl, ap, ◌∙◌, subst, arith, length-drop}
use Rattle.std.proofs.lemmas.Bool.{eqb-true}
use Rattle.std.proofs.lemmas.List.{drop-drop, drop_all, take_rest}
use Rattle.vendor.specs.declared.rows.Row.{Row}
use Rattle.vendor.specs.declared.rows.Row.TheVariants as row
use Rattle.vendor.specs.declared.faults.RowFault.{RowFault}
use Rattle.vendor.specs.declared.faults.RowFault.TheVariants.{Unended}
use Rattle.vendor.specs.Files.{lines, lines_of}
use Rattle.std.specs.List.{AllByRecursion, join_with_byte, onto_first}
use Rattle.vendor.specs.Pieces.{pieces, Lacks}
use Rattle.vendor.specs.Rows.{Line, fields_of, first_no}
use Rattle.vendor.specs.Walks.{letter_questions, HandedOn, tail}
use Rattle.vendor.proofs.Cuts.{cut_here, cut_last}
use Rattle.vendor.proofs.Formats.{pieces_between}

-- there is always a first piece
onto_some : (b : ℕ) (ps : List (List ℕ)) → (q : List ℕ) × (qs : List (List ℕ)) × (onto_first b ps ≡ q ∷ qs)
onto_some b [] = (b ∷ [], [], refl)
onto_some b (p ∷ ps) = (b ∷ p, ps, refl)

pub pieces_some : (sep : ℕ) (bs : List ℕ) → (q : List ℕ) × (qs : List (List ℕ)) × (pieces sep bs ≡ q ∷ qs)
unfolding pieces
pieces_some sep [] = ([], [], refl)
pieces_some sep (b ∷ bs) =
    elim (eqb b sep) as (λ t. (q : List ℕ) × (qs : List (List ℕ)) × (cond t ([] ∷ pieces sep bs) (onto_first b (pieces sep bs)) ≡ q ∷ qs))
    [ true ↦ ([], pieces sep bs, refl) | false ↦ onto_some b (pieces sep bs) ]

pub lines_cons : (p : List ℕ) (ps : List (List ℕ)) (q : List ℕ) (qs : List (List ℕ)) → ps ≡ q ∷ qs → lines_of (p ∷ ps) ≡ record { bytes = p; ended = true } ∷ lines_of ps
lines_cons p ps q qs e = subst (λ rs. lines_of (p ∷ rs) ≡ record { bytes = p; ended = true } ∷ lines_of rs) (sym e) refl

-- a row that byte 10 ends
pub lines_cut : (bs : List ℕ) (n : ℕ) → n < length bs → ((k : ℕ) → k < n → get_or bs k 0 ≡ 10 → ⊥) → get_or bs n 0 ≡ 10
    → lines bs ≡ record { bytes = take n bs; ended = true } ∷ lines (drop (suc n) bs)
unfolding lines
lines_cut bs n within before at =
    let s = pieces_some 10 (drop (suc n) bs) in
    ap lines_of (cut_here 10 bs n within before at) ∙ lines_cons (take n bs) (pieces 10 (drop (suc n) bs)) s.0 s.1 s.2

-- the last row, which none ends
pub lines_last : (bs : List ℕ) → 0 < length bs → ((k : ℕ) → k < length bs → get_or bs k 0 ≡ 10 → ⊥) → lines bs ≡ record { bytes = bs; ended = false } ∷ []
unfolding lines
lines_last [] some none = absurd (omega arith)
lines_last (b ∷ bs) some none = ap lines_of (cut_last 10 (b ∷ bs) none)

some_left : (bs : List ℕ) → eqb (length bs) 0 ≡ false → 0 < length bs
some_left [] e = absurd (cc)
some_left (b ∷ bs) e = omega arith

lines_none : lines [] ≡ []
unfolding lines pieces
lines_none = refl

pub no_rows : (file : List ℕ) (at : ℕ) → length file ≤ at → lines (drop at file) ≡ []
no_rows file at past = ap lines (drop_all at file past) ∙ lines_none

-- a row of one of the four kinds has a letter, and as many fields as it asks
kind_known : (r : Row) → first_no (letter_questions (fields_of r)) ≡ None
kind_known (row.Output r t m o) = refl
kind_known (row.System t p) = refl
kind_known (row.Line l t u w) = refl
kind_known (row.Ramp r t x y) = refl

-- what is handed on of the row that begins at `at`, and that the rows after it begin at `next`
pub record Passed (file : List ℕ) (at : ℕ) (r : Result (Option Row) RowFault) (next : ℕ) : Type 0 where
  pub answer : HandedOn (lines (drop at file)) r
  pub rows : lines (drop next file) ≡ tail (lines (drop at file))

-- what is left of the file, as it is looked at
module _ (file : List ℕ) (at : ℕ) where
  abbrev pub left : List ℕ
  left = take (length file - at) (drop at file)

  same : left ≡ drop at file
  same = take_rest file at

  pub passed_none : eqb (length left) 0 ≡ true → Passed file at (Ok None) at
  passed_none past =
      let long = length-drop at file in
      let none = no_rows file at (omega (arith, ap length same, eqb-true (length left) 0 past)) in
      record { answer = subst (λ ls. HandedOn ls (Ok None)) (sym none) refl; rows = none ∙ sym (ap tail none) }

  -- a row that no byte 10 ends
  pub passed_unended : eqb (length left) 0 ≡ false → ((k : ℕ) → k < length left → get_or left k 0 ≡ 10 → ⊥) → Passed file at (Err Unended) (length file)
  passed_unended some none =
      let last = ap lines (sym same) ∙ lines_last left (some_left left some) none in
      record { answer = subst (λ ls. HandedOn ls (Err Unended)) (sym last) refl; rows = no_rows file (length file) (omega arith) ∙ sym (ap tail last) }

  -- a row of n bytes that byte 10 ends
  module _ (n : ℕ) (within : n < length left) (end : get_or left n 0 ≡ 10) (before : (k : ℕ) → k < n → get_or left k 0 ≡ 10 → ⊥) where
    abbrev line : Line
    line = record { bytes = take n left; ended = true }

    row_here : lines (drop at file) ≡ line ∷ lines (drop (at + (n + 1)) file)
    row_here =
        let place : at + suc n ≡ at + (n + 1) = omega arith in
        ap lines (sym same) ∙ lines_cut left n within before end
        ∙ ap (λ bs. line ∷ lines bs) (ap (drop (suc n)) same ∙ drop-drop (suc n) at file ∙ ap (λ k. drop k file) place)

    pub rows_on : lines (drop (at + (n + 1)) file) ≡ tail (lines (drop at file))
    rows_on = sym (ap tail row_here)

    handed_on : (r : Row) → fields_of r ≡ pieces 59 line.bytes → HandedOn (lines (drop at file)) (Ok (Some r))
    handed_on r is =
        let cut = (pieces_between 59 line.bytes).0 in
        subst (λ ls. HandedOn ls (Ok (Some r))) (sym row_here) (record {
          sound = ap (λ fs. first_no (letter_questions fs)) (sym is) ∙ kind_known r;
          parts = is;
          whole = ap (join_with_byte 59) is ∙ cut.whole;
          clean = subst (AllByRecursion (Lacks 59)) (sym is) cut.clean;
        })

    pub passed_cut : (cut : Result Row RowFault) (r : Result (Option Row) RowFault)
        → MatchResult cut (λ k. r ≡ Ok (Some k)) (λ e. r ≡ Err e)
        → MatchResult cut (λ k. fields_of k ≡ pieces 59 line.bytes) (λ e. first_no (letter_questions (pieces 59 line.bytes)) ≡ Some e)
        → Passed file at r (at + (n + 1))
    passed_cut (Ok k) r is told = record { answer = subst (HandedOn (lines (drop at file))) (sym is) (handed_on k told); rows = sym (ap tail row_here) }
    passed_cut (Err e) r is told =
        record { answer = subst (HandedOn (lines (drop at file))) (sym is) (subst (λ ls. HandedOn ls (Err e)) (sym row_here) told); rows = sym (ap tail row_here) }
