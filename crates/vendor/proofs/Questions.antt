-- A row's questions, asked in parts: its cut, its numbers, its place. Assumes nothing.
use Rattle.std.proofs.Common.{◌≡◌, Bool, true, false, cond, List, [], ◌∷◌, ◌++◌, map, Some, None, Ok, Err, Option, sym, refl, ap, ◌∙◌}
use Rattle.std.specs.Option.{option_map}
use Rattle.vendor.specs.declared.faults.FieldFault.{FieldFault}
use Rattle.vendor.specs.declared.faults.RowFault.{RowFault}
use Rattle.vendor.specs.declared.faults.RowFault.TheVariants.{Field, OutOfOrder}
use Rattle.vendor.specs.declared.rows.Shape.{Shape}
use Rattle.vendor.specs.declared.rows.Last.{Last}
use Rattle.vendor.specs.declared.rows.Row.{Row}
use Rattle.vendor.specs.declared.rows.Entry.{Entry}
use Rattle.vendor.specs.Rows.{Line, fields, fields_of, first_no, unless_no, in_field, cut_questions, number_questions, numbers_answer, entry_of, place_of, follows, row_fault}
use Rattle.vendor.specs.Walks.{HandedOn, entry_answer}

-- questions that all have the answer yes are passed over
asked_on : {F : Type 0} (qs rs : List (Bool × F)) → first_no qs ≡ None → first_no (qs ++ rs) ≡ first_no rs
asked_on [] rs all = refl
asked_on ((true, e) ∷ qs) rs all = asked_on qs rs all
asked_on ((false, e) ∷ qs) rs all = absurd (cc)

stopped : {F : Type 0} (qs rs : List (Bool × F)) (f : F) → first_no qs ≡ Some f → first_no (qs ++ rs) ≡ Some f
stopped [] rs f told = absurd (cc)
stopped ((true, e) ∷ qs) rs f told = stopped qs rs f told
stopped ((false, e) ∷ qs) rs f told = told

pub in_fields : (qs : List (Bool × FieldFault)) → first_no (map in_field qs) ≡ option_map Field (first_no qs)
in_fields [] = refl
in_fields ((true, e) ∷ qs) = in_fields qs
in_fields ((false, e) ∷ qs) = refl

module _ {A F : Type 0} where
  by_err : (o : Option F) (x : A) (e : F) → Err e ≡ unless_no o x → o ≡ Some e
  by_err None x e told = absurd (cc)
  by_err (Some f) x e told = cc

  pub by_ok : (o : Option F) (x y : A) → Ok y ≡ unless_no o x → (o ≡ None) × (y ≡ x)
  by_ok None x y told = (refl, cc)
  by_ok (Some f) x y told = absurd (cc)

module _ (sh : Shape) (last : Option Last) (l : Line) where
  abbrev pub order : List (Bool × RowFault)
  order = (follows last (place_of (entry_of (fields l))), OutOfOrder) ∷ []

  abbrev pub numbers : List (Bool × RowFault)
  numbers = map in_field (number_questions sh (fields l))

  cut_fault : (e : RowFault) → first_no (cut_questions l) ≡ Some e → row_fault sh last l ≡ Some e
  unfolding row_fault
  cut_fault e told = stopped (cut_questions l) (numbers ++ order) e told

  number_fault : (f : FieldFault) → first_no (cut_questions l) ≡ None → first_no (number_questions sh (fields l)) ≡ Some f → row_fault sh last l ≡ Some (Field f)
  unfolding row_fault
  number_fault f cut told =
      asked_on (cut_questions l) (numbers ++ order) cut ∙ stopped numbers order (Field f) (in_fields (number_questions sh (fields l)) ∙ ap (option_map Field) told)

  order_asked : first_no (cut_questions l) ≡ None → first_no (number_questions sh (fields l)) ≡ None → row_fault sh last l ≡ cond (follows last (place_of (entry_of (fields l)))) None (Some OutOfOrder)
  unfolding row_fault
  order_asked cut all =
      asked_on (cut_questions l) (numbers ++ order) cut ∙ asked_on numbers order (in_fields (number_questions sh (fields l)) ∙ ap (option_map Field) all)

pub cut_answer : (sh : Shape) (last : Option Last) (ls : List Line) (e : RowFault) → HandedOn ls (Err e) → Err e ≡ entry_answer sh last ls
cut_answer sh last [] e told = absurd (cc)
cut_answer sh last (l ∷ ls) e told = sym (ap (λ o. unless_no o (Some (entry_of (fields l)))) (cut_fault sh last l e told))

pub number_answer : (sh : Shape) (last : Option Last) (ls : List Line) (row : Row) (f : FieldFault) → HandedOn ls (Ok (Some row)) → Err f ≡ numbers_answer sh (fields_of row) → Err (Field f) ≡ entry_answer sh last ls
number_answer sh last [] row f handed told = absurd (cc)
number_answer sh last (l ∷ ls) row f handed told =
    let no_f = by_err (first_no (number_questions sh (fields_of row))) (entry_of (fields_of row)) f told in
    sym (ap (λ o. unless_no o (Some (entry_of (fields l)))) (number_fault sh last l f handed.sound (ap (λ fs. first_no (number_questions sh fs)) (sym handed.parts) ∙ no_f)))

place_answer : (sh : Shape) (last : Option Last) (ls : List Line) (row : Row) (e : Entry) (yes_no : Bool) → HandedOn ls (Ok (Some row)) → Ok e ≡ numbers_answer sh (fields_of row) → yes_no ≡ follows last (place_of e)
    → cond yes_no (Ok (Some e)) (Err OutOfOrder) ≡ entry_answer sh last ls
place_answer sh last [] row e b handed told placed = absurd (cc)
place_answer sh last (l ∷ ls) row e b handed told placed =
    let k = by_ok (first_no (number_questions sh (fields_of row))) (entry_of (fields_of row)) e told in
    let same : e ≡ entry_of (fields l) = k.1 ∙ ap entry_of handed.parts in
    let fault = order_asked sh last l handed.sound (ap (λ fs. first_no (number_questions sh fs)) (sym handed.parts) ∙ k.0) in
    either b e (entry_of (fields l)) same ∙ sym (ap (λ o. unless_no o (Some (entry_of (fields l)))) (fault ∙ ap (λ t. cond t None (Some OutOfOrder)) (sym (placed ∙ ap (λ x. follows last (place_of x)) same))))
  where
    either : (t : Bool) (x y : Entry) → x ≡ y → cond t (Ok (Some x)) (Err OutOfOrder) ≡ unless_no (cond t None (Some OutOfOrder)) (Some y)
    either true x y same = ap (λ z. Ok (Some z)) same
    either false x y same = refl

-- a row that may come next is handed on, and one that may not is out of order
pub next_answer : (sh : Shape) (last : Option Last) (ls : List Line) (row : Row) (e : Entry) → HandedOn ls (Ok (Some row)) → Ok e ≡ numbers_answer sh (fields_of row) → true ≡ follows last (place_of e) → Ok (Some e) ≡ entry_answer sh last ls
next_answer sh last ls row e handed told placed = place_answer sh last ls row e true handed told placed

pub order_answer : (sh : Shape) (last : Option Last) (ls : List Line) (row : Row) (e : Entry) → HandedOn ls (Ok (Some row)) → Ok e ≡ numbers_answer sh (fields_of row) → false ≡ follows last (place_of e) → Err OutOfOrder ≡ entry_answer sh last ls
order_answer sh last ls row e handed told placed = place_answer sh last ls row e false handed told placed
