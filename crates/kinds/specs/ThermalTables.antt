-- A table of thermal units: when its numbers are those of one, and the first no where they are not. Assumes nothing.
use Rattle.std.specs.Prelude.{◌≡◌, ℕ, ◌<◌, ◌≤◌, Bool, true, ◌&&◌, List, [], length, pos, nat_le}
use Rattle.market.specs.Scans.{in_test, all_below}
use Rattle.kinds.specs.declared.curve_numbers.CurveNumbers.{CurveNumbers}
use Rattle.kinds.specs.declared.table_fault.TableFault.{TableFault}
use Rattle.kinds.specs.declared.table_fault.TableFault.TheVariants.{Periods, Sizes, Row}
use Rattle.kinds.specs.declared.thermal_unit.ThermalUnit.{ThermalUnit}
use Rattle.kinds.specs.Curves as Curves
use Rattle.kinds.specs.Curves.{lowest, highest}
use Rattle.kinds.specs.Tables.{PeriodsFit, CurvesFit, NoCurve}
use Rattle.kinds.specs.Thermal.{NumbersFit, TableMade, rule_11, unit}
use Rattle.kinds.specs.ThermalLaws.{Laws}

-- a day of so many periods, and the units
pub record Table : Type 0 where
  pub periods : ℕ
  pub units : List ThermalUnit

-- a table of these
abbrev pub table : ℕ → List ThermalUnit → Table
table periods us = record { periods = periods; units = us }

-- one period and no row
abbrev pub no_rows : Table
no_rows = table 1 []

-- the numbers are those of a table
abbrev pub Made : Table → Type 0
Made f = TableMade f.periods f.units

-- the curve of row r
abbrev pub curve : List ThermalUnit → ℕ → CurveNumbers
curve us r = (unit us r).curve

-- the other numbers of every row before r are in range
abbrev pub RowsFit : List ThermalUnit → ℕ → Type 0
RowsFit us r = (k : ℕ) → k < r → NumbersFit (unit us k)

-- r is the first row that has a number out of its range
pub record NoRow (us : List ThermalUnit) (r : ℕ) : Type 0 where
  pub within : r < length us
  pub before : RowsFit us r
  pub out : NumbersFit (unit us r) → ⊥

-- the first no, where the numbers are not those of a table
pub data Refused (f : Table) : TableFault → Type 0 where
  day : (PeriodsFit f.periods → ⊥) → Refused f Periods
  count : PeriodsFit f.periods → (length f.units ≤ 32 → ⊥) → Refused f Sizes
  curves : PeriodsFit f.periods → length f.units ≤ 32 → (e : TableFault) → NoCurve (curve f.units) (length f.units) e → Refused f e
  numbers : PeriodsFit f.periods → length f.units ≤ 32 → CurvesFit (curve f.units) (length f.units) → (r : ℕ) → NoRow f.units r → Refused f (Row r)

-- ---- the same as tests
-- the no_load cost and the start cost
abbrev pub costs_test : ThermalUnit → Bool
costs_test u = nat_le u.no_load 100000 && nat_le u.start_cost 2000000

-- the least running and the least stopped time
abbrev pub times_test : ThermalUnit → Bool
times_test u = (nat_le 1 u.least_running && nat_le u.least_running 96) && (nat_le 1 u.least_stopped && nat_le u.least_stopped 96)

-- the ramps
abbrev pub ramps_test : ThermalUnit → Bool
ramps_test u = in_test (pos 0) (pos 20000) u.ramp_up && in_test (pos 0) (pos 20000) u.ramp_down

-- the start limit and the stop limit, on the curve
abbrev pub limits_test : ThermalUnit → Bool
limits_test u = in_test (lowest u.curve) (highest u.curve) u.start_limit && in_test (lowest u.curve) (highest u.curve) u.stop_limit

-- the state before the day, with an output that its mark allows
abbrev pub state_test : ThermalUnit → Bool
state_test u = nat_le u.mark 1 && ((nat_le 1 u.lasted && nat_le u.lasted 10000) && rule_11 u u.mark u.output)

-- every number but the curve's
abbrev pub numbers_test : ThermalUnit → Bool
numbers_test u = costs_test u && (times_test u && (ramps_test u && (limits_test u && state_test u)))

-- the whole table
abbrev pub made_test : Table → Bool
made_test f =
    (nat_le 1 f.periods && nat_le f.periods 96)
    && (nat_le (length f.units) 32
    && (all_below (λ r. Curves.made_test (curve f.units r)) (length f.units) && all_below (λ r. numbers_test (unit f.units r)) (length f.units)))

-- both, for the struct that holds the table, and the laws that its rows are then judged and bounded by
pub record Fits (f : Table) : Type 0 where
  pub test : made_test f ≡ true
  pub made : Made f
  pub laws : Laws f.periods f.units
