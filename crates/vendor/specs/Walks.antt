-- What a reader has still before it. Assumes nothing.
use Rattle.std.specs.Prelude.{◌≡◌, ℕ, Bool, List, [], ◌∷◌, length, drop, is_some, Some, None, Ok, Err, Option, Result, ◌==◌}
use Rattle.std.specs.Borrow.{Bor}
use Rattle.vendor.specs.declared.faults.RowFault.{RowFault}
use Rattle.vendor.specs.declared.faults.RowFault.TheVariants.{UnknownLetter, FieldCount}
use Rattle.vendor.specs.declared.reader.Reader.{Reader}
use Rattle.vendor.specs.declared.reader.fields.Fields.{Fields}
use Rattle.std.specs.List.{AllByRecursion, join_with_byte}
use Rattle.vendor.specs.Pieces.{pieces, Lacks}
use Rattle.vendor.specs.declared.rows.Row.{Row}
use Rattle.vendor.specs.Files.{lines}
use Rattle.vendor.specs.declared.rows.Shape.{Shape}
use Rattle.vendor.specs.declared.rows.Last.{Last}
use Rattle.vendor.specs.declared.rows.Entry.{Entry}
use Rattle.vendor.specs.Rows.{Line, row_fault, entry_of, place_of, group, width, fields, fields_of, first_no, unless_no, cut_questions}

-- what is left of a row, cut at its semicolons (byte 59)
abbrev pub fields_left : Option (Bor (List ℕ)) → List (List ℕ)
fields_left None = []
fields_left (Some row) = pieces 59 row.now

abbrev pub fields_ahead : Fields → List (List ℕ)
fields_ahead fs = fields_left fs.rest

-- the next field, or none is left
abbrev pub GivesField : Fields → Option (Bor (List ℕ)) → Fields → Type 0
GivesField before None after = (fields_ahead before ≡ []) × (fields_ahead after ≡ [])
GivesField before (Some field) after = fields_ahead before ≡ field.now ∷ fields_ahead after

-- only the position moved
pub record Kept (before after : Reader) : Type 0 where
  pub file : after.file.now ≡ before.file.now
  pub last : after.last ≡ before.last

abbrev pub letter_questions : List (List ℕ) → List (Bool × RowFault)
letter_questions fs = (is_some (group fs), UnknownLetter) ∷ ((length fs == width (group fs)), FieldCount) ∷ []

abbrev pub rows_ahead : Reader → List Line
rows_ahead r = lines (drop r.at r.file.now)

abbrev pub tail : {A : Type 0} → List A → List A
tail [] = []
tail (x ∷ xs) = xs

-- a row is handed on where it is ended, has a known letter and as many fields as that asks;
-- its fields hold no semicolon, and joined with semicolons they are the row
pub record RowOf (l : Line) (row : Row) : Type 0 where
  pub sound : first_no (cut_questions l) ≡ None
  pub parts : fields_of row ≡ fields l
  pub whole : join_with_byte 59 (fields_of row) ≡ l.bytes
  pub clean : AllByRecursion (Lacks 59) (fields_of row)

abbrev pub RowHandedOn : Line → Option Row → Type 0
RowHandedOn l None = ⊥
RowHandedOn l (Some row) = RowOf l row

abbrev pub HandedOn : List Line → Result (Option Row) RowFault → Type 0
HandedOn [] r = r ≡ Ok None
HandedOn (l ∷ ls) (Ok row) = RowHandedOn l row
HandedOn (l ∷ ls) (Err e) = first_no (cut_questions l) ≡ Some e

-- the next row read: its numbers, or its fault
abbrev pub entry_answer : Shape → Option Last → List Line → Result (Option Entry) RowFault
entry_answer sh last [] = Ok None
entry_answer sh last (l ∷ ls) = unless_no (row_fault sh last l) (Some (entry_of (fields l)))

-- the last row read: it moves on only to a row without fault
abbrev pub last_after : Option Last → Result (Option Entry) RowFault → Option Last
last_after last (Ok None) = last
last_after last (Ok (Some e)) = Some (place_of e)
last_after last (Err f) = last
