-- What a fault tells: its number, its row and its field. Assumes nothing.
use Rattle.std.specs.Prelude.{ℕ, List, ◌∷◌, ◌++◌}
use Rattle.std.specs.Fmt.{decimal}
use Rattle.vendor.specs.declared.faults.FieldFault.TheVariants.{Malformed, OutOfRange}
use Rattle.vendor.specs.declared.faults.RowFault.{RowFault}
use Rattle.vendor.specs.declared.faults.RowFault.TheVariants.{Unended, UnknownLetter, FieldCount, Field, OutOfOrder}
use Rattle.vendor.specs.declared.faults.FileFault.{FileFault}
use Rattle.vendor.specs.declared.faults.FileFault.TheVariants.{Whole, Row}

abbrev pub number_of_row : RowFault → ℕ
number_of_row UnknownLetter = 22
number_of_row FieldCount = 23
number_of_row (Field f) = 24
number_of_row OutOfOrder = 25
number_of_row Unended = 26

abbrev pub number_of : FileFault → ℕ
number_of Whole = 8
number_of (Row row fault) = number_of_row fault

-- the row, from 1; 0 where the whole file is at fault
abbrev pub row_of : FileFault → ℕ
row_of Whole = 0
row_of (Row row fault) = row

-- the field, from 1; 0 where the row or the whole file is at fault
abbrev pub field_of : FileFault → ℕ
field_of Whole = 0
field_of (Row row UnknownLetter) = 0
field_of (Row row FieldCount) = 0
field_of (Row row (Field (Malformed n))) = n
field_of (Row row (Field (OutOfRange n))) = n
field_of (Row row OutOfOrder) = 0
field_of (Row row Unended) = 0

-- as it is printed: number, row and field with semicolons (byte 59) between them
abbrev pub text_of : FileFault → List ℕ
text_of fault = decimal (number_of fault) ++ (59 ∷ (decimal (row_of fault) ++ (59 ∷ decimal (field_of fault))))
