-- What the faults of a curve and of a table of rows tell: a number, a row and a period. Assumes nothing.
use Rattle.std.specs.Prelude.{ℕ}
use Rattle.kinds.specs.declared.curve_fault.CurveFault.{CurveFault}
use Rattle.kinds.specs.declared.curve_fault.CurveFault.TheVariants.{Count, Range, Order}
use Rattle.kinds.specs.declared.table_fault.TableFault.{TableFault}
use Rattle.kinds.specs.declared.table_fault.TableFault.TheVariants.{Periods, Sizes, Curve, Row, Cell}

abbrev pub curve_number : CurveFault → ℕ
curve_number Count = 2
curve_number Range = 5
curve_number Order = 7

-- a curve's fault tells its own number, at the row which the curve is part of
abbrev pub table_number : TableFault → ℕ
table_number Periods = 1
table_number Sizes = 2
table_number (Curve row fault) = curve_number fault
table_number (Row row) = 5
table_number (Cell row period) = 5

-- rows count from 0, and 0 stands where no row is told too
abbrev pub table_place : TableFault → ℕ
table_place Periods = 0
table_place Sizes = 0
table_place (Curve row fault) = row
table_place (Row row) = row
table_place (Cell row period) = row

-- periods count from 1, and 0 stands where none is told
abbrev pub table_period : TableFault → ℕ
table_period Periods = 0
table_period Sizes = 0
table_period (Curve row fault) = 0
table_period (Row row) = 0
table_period (Cell row period) = period
