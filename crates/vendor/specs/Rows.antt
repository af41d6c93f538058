-- A row of the file: its fields, its questions in order, and the numbers that it tells. Assumes nothing.
use Rattle.std.specs.Prelude.{ℕ, ◌+◌, Bool, true, false, cond, ◌&&◌, ◌||◌, List, [], ◌∷◌, ◌++◌, map, length, ℤ, pos, negsuc, is_some, Some, None, Ok, Err, Option, Result, ◌==◌, nat_le, nat_lt, slice_index_or}
use Rattle.std.specs.Option.{unwrap_or}
use Rattle.vendor.specs.declared.faults.FieldFault.{FieldFault}
use Rattle.vendor.specs.declared.faults.FieldFault.TheVariants.{Malformed, OutOfRange}
use Rattle.vendor.specs.declared.faults.RowFault.{RowFault}
use Rattle.vendor.specs.declared.faults.RowFault.TheVariants.{Unended, UnknownLetter, FieldCount, Field, OutOfOrder}
use Rattle.vendor.specs.declared.rows.Shape.{Shape}
use Rattle.vendor.specs.declared.rows.Group.{Group}
use Rattle.vendor.specs.declared.rows.Group.TheVariants.{Outputs, System, Lines, Ramps}
use Rattle.vendor.specs.declared.rows.Last.{Last}
use Rattle.vendor.specs.declared.rows.Row.{Row}
use Rattle.vendor.specs.declared.rows.Row.TheVariants as row
use Rattle.vendor.specs.declared.rows.Entry.{Entry}
use Rattle.vendor.specs.declared.rows.Entry.TheVariants as entry
use Rattle.vendor.specs.Numbers.{number}
use Rattle.vendor.specs.Pieces.{pieces}

-- a row's bytes, and whether byte 10 ended it
pub record Line : Type 0 where
  pub bytes : List ℕ
  pub ended : Bool

-- what stands between semicolons (byte 59)
abbrev pub fields : Line → List (List ℕ)
fields l = pieces 59 l.bytes

-- R (82), S (83), L (76) and G (71); any other byte is no letter
abbrev pub group_of_byte : ℕ → Option Group
group_of_byte b = cond (b == 82) (Some Outputs) (cond (b == 83) (Some System) (cond (b == 76) (Some Lines) (cond (b == 71) (Some Ramps) None)))

-- the first field is exactly one letter
abbrev pub group : List (List ℕ) → Option Group
group [] = None
group ([] ∷ fs) = None
group ((b ∷ []) ∷ fs) = group_of_byte b
group ((b ∷ c ∷ bs) ∷ fs) = None

-- how many fields a row has, its letter among them
abbrev pub width : Option Group → ℕ
width None = 0
width (Some Outputs) = 5
width (Some System) = 3
width (Some Lines) = 5
width (Some Ramps) = 5

-- a question's answer, with the fault that a no tells; the first no is the fault
abbrev pub first_no : {F : Type 0} → List (Bool × F) → Option F
first_no [] = None
first_no (q ∷ qs) = cond q.0 (first_no qs) (Some q.1)

-- what is answered where the questions are these and all have the answer yes, or else the first no
abbrev pub unless_no : {A F : Type 0} → Option F → A → Result A F
unless_no None x = Ok x
unless_no (Some e) x = Err e

abbrev pub is_number : List ℕ → Bool
is_number text = is_some (number text)

-- the number that a field writes, 0 where it writes none
abbrev pub number_in : List ℕ → ℤ
number_in text = unwrap_or (number text) (pos 0)

-- one of the n numbers from `from` on: 0 to n - 1, or 1 to n
abbrev pub one_of : ℕ → ℕ → ℤ → Bool
one_of from n (pos k) = nat_le from k && nat_lt k (from + n)
one_of from n (negsuc k) = false

abbrev pub any : ℤ → Bool
any z = true

-- what each field after the letter may be
abbrev pub columns : Shape → Option Group → List (ℤ → Bool)
columns sh None = []
columns sh (Some Outputs) = one_of 0 sh.size ∷ one_of 1 sh.periods ∷ one_of 0 256 ∷ any ∷ []
columns sh (Some System) = one_of 1 sh.periods ∷ any ∷ []
columns sh (Some Lines) = one_of 0 sh.lines ∷ one_of 1 sh.periods ∷ any ∷ any ∷ []
columns sh (Some Ramps) = one_of 0 sh.size ∷ one_of 1 sh.periods ∷ any ∷ any ∷ []

-- field by field, from field n on: is it a number, and is that in range?
abbrev pub field_questions : ℕ → List (ℤ → Bool) → List (List ℕ) → List (Bool × FieldFault)
field_questions n [] fs = []
field_questions n (ok ∷ oks) [] = []
field_questions n (ok ∷ oks) (f ∷ fs) = (is_number f, Malformed n) ∷ (ok (number_in f), OutOfRange n) ∷ field_questions (n + 1) oks fs

-- the questions of a row's numbers: its fields after the letter are those from 2 on
abbrev pub number_questions : Shape → List (List ℕ) → List (Bool × FieldFault)
number_questions sh [] = []
number_questions sh (letter ∷ fs) = field_questions 2 (columns sh (group (letter ∷ fs))) fs

-- ended, a known letter, as many fields as the letter has
abbrev pub cut_questions : Line → List (Bool × RowFault)
cut_questions l = (l.ended, Unended) ∷ (is_some (group (fields l)), UnknownLetter) ∷ ((length (fields l) == width (group (fields l))), FieldCount) ∷ []

-- one field's fault: no number, or one that is out of range
abbrev pub field_fault : (ℤ → Bool) → ℕ → List ℕ → Option FieldFault
field_fault ok n text = first_no ((is_number text, Malformed n) ∷ (ok (number_in text), OutOfRange n) ∷ [])

-- one field read: its number, else the field's fault
abbrev pub field_answer : (ℤ → Bool) → ℕ → List ℕ → Result ℤ FieldFault
field_answer ok n text = unless_no (field_fault ok n text) (number_in text)

abbrev pub natural : ℤ → ℕ
natural (pos n) = n
natural (negsuc n) = 0

abbrev pub natural_answer : (ℤ → Bool) → ℕ → List ℕ → Result ℕ FieldFault
natural_answer ok n text = unless_no (field_fault ok n text) (natural (number_in text))

-- the number in the field at index i, from 0
abbrev pub number_at : List (List ℕ) → ℕ → ℤ
number_at fs i = number_in (slice_index_or fs i [])

abbrev pub entry_for : Option Group → List (List ℕ) → Entry
entry_for None fs = entry.System 0 (pos 0)
entry_for (Some Outputs) fs = entry.Output (natural (number_at fs 1)) (natural (number_at fs 2)) (natural (number_at fs 3)) (number_at fs 4)
entry_for (Some System) fs = entry.System (natural (number_at fs 1)) (number_at fs 2)
entry_for (Some Lines) fs = entry.Line (natural (number_at fs 1)) (natural (number_at fs 2)) (number_at fs 3) (number_at fs 4)
entry_for (Some Ramps) fs = entry.Ramp (natural (number_at fs 1)) (natural (number_at fs 2)) (number_at fs 3) (number_at fs 4)

-- the numbers that the fields of a row tell
abbrev pub entry_of : List (List ℕ) → Entry
entry_of fs = entry_for (group fs) fs

-- the numbers of a row, else the fault of its first faulty field
abbrev pub numbers_answer : Shape → List (List ℕ) → Result Entry FieldFault
numbers_answer sh fs = unless_no (first_no (number_questions sh fs)) (entry_of fs)

-- where a row stands in the order: its letter, its first number and its period; an S row has no first number
abbrev pub place_of : Entry → Last
place_of (entry.Output row period mark output) = record { group = Outputs; index = row; period = period }
place_of (entry.System period price) = record { group = System; index = 0; period = period }
place_of (entry.Line line period upper lower) = record { group = Lines; index = line; period = period }
place_of (entry.Ramp row period rise fall) = record { group = Ramps; index = row; period = period }

-- the letters in their order
abbrev pub rank : Group → ℕ
rank Outputs = 0
rank System = 1
rank Lines = 2
rank Ramps = 3

-- q comes after p: a later letter, or the same letter and first number, then period, rising; any row may come first
abbrev pub follows : Option Last → Last → Bool
follows None q = true
follows (Some p) q =
    nat_lt (rank p.group) (rank q.group) || (rank p.group == rank q.group && (nat_lt p.index q.index || (p.index == q.index && nat_lt p.period q.period)))

abbrev pub in_field : Bool × FieldFault → Bool × RowFault
in_field q = (q.0, Field q.1)

-- all questions of a row that comes after `last` (`None` where it is the first), in their order
abbrev pub row_questions : Shape → Option Last → Line → List (Bool × RowFault)
row_questions sh last l =
    cut_questions l ++ (map in_field (number_questions sh (fields l)) ++ ((follows last (place_of (entry_of (fields l))), OutOfOrder) ∷ []))

unfoldable pub row_fault : Shape → Option Last → Line → Option RowFault
row_fault sh last l = first_no (row_questions sh last l)

-- the fields of a row that was handed on, its letter first
abbrev pub fields_of : Row → List (List ℕ)
fields_of (row.Output r t m o) = (82 ∷ []) ∷ r.now ∷ t.now ∷ m.now ∷ o.now ∷ []
fields_of (row.System t p) = (83 ∷ []) ∷ t.now ∷ p.now ∷ []
fields_of (row.Line l t u w) = (76 ∷ []) ∷ l.now ∷ t.now ∷ u.now ∷ w.now ∷ []
fields_of (row.Ramp r t x y) = (71 ∷ []) ∷ r.now ∷ t.now ∷ x.now ∷ y.now ∷ []
