-- What cells hold that a program keeps. Assumes nothing.
use Rattle.std.specs.Prelude.{ℕ, List, ℤ, replicate, pos}
use Rattle.vendor.specs.declared.tables.cells.Cells.{Cells}
use Rattle.vendor.specs.Files.{Contents}

abbrev pub seven : List ℕ → List ℤ → List ℤ → List ℤ → List ℤ → List ℤ → List ℤ → Contents
seven marks outputs system upper lower rise fall = record { marks = marks; outputs = outputs; system = system; upper = upper; lower = lower; rise = rise; fall = fall }

abbrev pub owned : {rows lines periods : ℕ} → Cells rows lines periods → Contents
owned c = seven c.marks c.outputs c.system c.upper c.lower c.rise c.fall

-- every cell zero: so many cells of rows by periods, of lines by periods, and of periods
abbrev pub zeros : ℕ → ℕ → ℕ → Contents
zeros rows lines periods =
    seven (replicate rows 0) (replicate rows (pos 0)) (replicate periods (pos 0)) (replicate lines (pos 0)) (replicate lines (pos 0)) (replicate rows (pos 0)) (replicate rows (pos 0))
