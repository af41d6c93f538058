-- What one row more does to the count of rows, and to the tables. Assumes nothing.
use Rattle.std.proofs.Common.{◌≡◌, ℕ, suc, ◌+◌, ◌<◌, ◌≤◌, true, false, cond, eqb, List, [], ◌∷◌, length, Some, None, Ok, Option, refl, ap, ◌∙◌, arith}
use Rattle.std.specs.List.{onto_first}
use Rattle.vendor.specs.declared.faults.RowFault.{RowFault}
use Rattle.vendor.specs.declared.rows.Shape.{Shape}
use Rattle.vendor.specs.declared.rows.Last.{Last}
use Rattle.vendor.specs.declared.rows.Entry.{Entry}
use Rattle.vendor.specs.declared.tables.Counts.{Counts}
use Rattle.vendor.specs.Files as Files
use Rattle.vendor.specs.Files.{lines, rows_answer, none_counted, lines_of, rows_answer_from}
use Rattle.vendor.specs.Pieces.{pieces}
use Rattle.vendor.specs.Rows.{Line, fields, unless_no, entry_of, row_fault}
use Rattle.vendor.specs.Walks.{entry_answer, tail}
use Rattle.vendor.proofs.Questions.{by_ok}
use Rattle.vendor.proofs.Walking.{pieces_some, lines_cons}

-- a file has no more rows than bytes
short_of : (ps : List (List ℕ)) (b : ℕ) → length (lines_of (onto_first b ps)) ≤ suc (length (lines_of ps))
short_of [] b = omega arith
short_of ([] ∷ []) b = omega arith
short_of ((c ∷ cs) ∷ []) b = omega arith
short_of (p ∷ q ∷ ps) b = omega arith

pub lines_short : (bs : List ℕ) → length (lines bs) ≤ length bs
unfolding lines pieces
lines_short [] = omega arith
lines_short (b ∷ bs) =
    let more = lines_short bs in
    let s = pieces_some 10 bs in
    let cut : length (lines_of ([] ∷ pieces 10 bs)) ≤ suc (length bs) = let e = ap length (lines_cons [] (pieces 10 bs) s.0 s.1 s.2) in omega arith in
    let on : length (lines_of (onto_first b (pieces 10 bs))) ≤ suc (length bs) = let e = short_of (pieces 10 bs) b in omega arith in
    elim (eqb b 10) as (λ t. length (lines_of (cond t ([] ∷ pieces 10 bs) (onto_first b (pieces 10 bs)))) ≤ suc (length bs)) [ true ↦ cut | false ↦ on ]

-- what an answer says of the rows ahead
pub record ReadOn (sh : Shape) (last : Option Last) (ls : List Line) (e : Entry) : Type 0 where
  pub row : Line
  pub is : ls ≡ row ∷ tail ls
  pub sound : row_fault sh last row ≡ None
  pub told : e ≡ entry_of (fields row)

module _ (sh : Shape) (last : Option Last) where
  read_row : (l : Line) (e : Entry) (o : Option RowFault) → Ok (Some e) ≡ unless_no o (Some (entry_of (fields l))) → (o ≡ None) × (e ≡ entry_of (fields l))
  read_row l e o told = let k = by_ok o (Some (entry_of (fields l))) (Some e) told in (k.0, cc)

  pub read_on : (ls : List Line) (e : Entry) → Ok (Some e) ≡ entry_answer sh last ls → ReadOn sh last ls e
  read_on [] e told = absurd (cc)
  read_on (l ∷ ls) e told = let r = read_row l e (row_fault sh last l) told in record { row = l; is = refl; sound = r.0; told = r.1 }

  pub read_out : (ls : List Line) → Ok None ≡ entry_answer sh last ls → ls ≡ []
  read_out [] told = refl
  read_out (l ∷ ls) told = never (row_fault sh last l) told
    where
      never : (o : Option RowFault) → Ok None ≡ unless_no o (Some (entry_of (fields l))) → (l ∷ ls) ≡ []
      never None told = absurd (cc)
      never (Some f) told = absurd (cc)

-- the first pass, before the row n: what is answered so far and from here on is the file's answer
pub record Checking (sh : Shape) (file : List ℕ) (n : ℕ) (last : Option Last) (c : Counts) (ahead : List Line) : Type 0 where
  pub answer : rows_answer_from sh n last c ahead ≡ rows_answer sh file
  pub rows : n + length ahead ≡ 1 + length (lines file)
  pub outputs : c.outputs < n
  pub system : c.system < n
  pub lines : c.lines < n
  pub ramps : c.ramps < n

module _ (sh : Shape) (file : List ℕ) where
  pub checking_none : (last : Option Last) (ahead : List Line) → last ≡ None → ahead ≡ Files.lines file → Checking sh file 1 last none_counted ahead
  checking_none last ahead first all = record {
    answer = λ j. rows_answer_from sh 1 (first j) none_counted (all j);
    rows = ap (λ ls. 1 + length ls) all;
    outputs = omega arith;
    system = omega arith;
    lines = omega arith;
    ramps = omega arith;
  }

  longer : (ls : List Line) (l : Line) (rest : List Line) → ls ≡ l ∷ rest → length ls ≡ length rest + 1
  longer ls l rest is = ap length is ∙ omega arith

  -- a row that is ahead is one of no more rows than the file has bytes
  pub row_small : (n : ℕ) (last : Option Last) (c : Counts) (ahead : List Line) (e : Entry) → Checking sh file n last c ahead → ReadOn sh last ahead e → n ≤ length file
  row_small n last c ahead e h r = omega (arith, longer ahead r.row (tail ahead) r.is, h.rows, lines_short file)
