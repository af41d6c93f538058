-- Renewable stations: a table of them, when it is one, and what it means as a fleet. Assumes nothing.
use Rattle.std.specs.Prelude.{◌≡◌, ℕ, ◌+◌, ◌<◌, Bool, true, ◌&&◌, List, [], length, ℤ, pos, Option, ◌≢◌, slice_index, slice_index_or}
use Rattle.std.specs.Int.{int_min}
use Rattle.measures.specs.Amounts.{grains}
use Rattle.market.specs.Clearing.{part}
use Rattle.market.specs.Fleet.{Meaning, Schedule}
use Rattle.market.specs.Scans.{at, in_test, InBefore, FirstOut, in_all, all_below}
use Rattle.market.specs.Totals.{total}
use Rattle.kinds.specs.declared.curve_numbers.CurveNumbers.{CurveNumbers}
use Rattle.kinds.specs.declared.station.Station.{Station}
use Rattle.kinds.specs.declared.table_fault.TableFault.{TableFault}
use Rattle.kinds.specs.declared.table_fault.TableFault.TheVariants.{Row, Cell}
use Rattle.kinds.specs.Curves as Curves
use Rattle.kinds.specs.Curves.{lowest, highest, running_cost, net_cost}
use Rattle.kinds.specs.Leasts.{least_over}
use Rattle.kinds.specs.Rules.{running_rule}
use Rattle.kinds.specs.Tables.{Shaped, Unshaped, shape_test, CurvesFit, NoCurve}
use Rattle.kinds.specs.Verdicts.{verdict_over}

-- a station for each row, and available power for each row and period, row by row
pub record Table : Type 0 where
  pub periods : ℕ
  pub stations : List Station
  pub available : List ℤ

-- a table of these
abbrev pub table : ℕ → List Station → List ℤ → Table
table periods stations available = record { periods = periods; stations = stations; available = available }

-- one period and no row
abbrev pub no_rows : Table
no_rows = table 1 [] []

-- what stands past a table's end
abbrev pub no_station : Station
no_station = record { node = 0; curve = record { segments = 0; ends = []; prices = [] } }

-- the station of row r
abbrev pub station : List Station → ℕ → Station
station rows r = slice_index_or rows r no_station

-- its curve
abbrev pub curve : Table → ℕ → CurveNumbers
curve f r = (station f.stations r).curve

-- the power available to row r, a cell for each period
abbrev pub power : Table → ℕ → List ℤ
power f r = part f.periods r f.available

-- the periods and the lengths are those of a table
abbrev pub ShapeFits : Table → Type 0
ShapeFits f = Shaped f.periods (length f.stations) (length f.available)

-- a row's other numbers: its curve begins at 0, and its available power is 0 to 20,000
pub record RowFits (c : CurveNumbers) (power : List ℤ) : Type 0 where
  pub begins : lowest c ≡ pos 0
  pub available : InBefore (pos 0) (pos 20000) power (length power)

-- the first of them that is not so, in row r
pub data RowRefused (c : CurveNumbers) (power : List ℤ) (r : ℕ) : TableFault → Type 0 where
  begins : (lowest c ≢ pos 0) → RowRefused c power r (Row r)
  available : lowest c ≡ pos 0 → (t : ℕ) → FirstOut (pos 0) (pos 20000) power t → RowRefused c power r (Cell r (t + 1))

-- every row before r is so
abbrev pub RowsFit : Table → ℕ → Type 0
RowsFit f r = (k : ℕ) → k < r → RowFits (curve f k) (power f k)

-- e tells the first row that is not so
pub data NoRow (f : Table) : TableFault → Type 0 where
  no_row : (r : ℕ) (e : TableFault) → r < length f.stations → RowsFit f r → RowRefused (curve f r) (power f r) r e → NoRow f e

-- the numbers are those of a table
pub record Made (f : Table) : Type 0 where
  pub shape : ShapeFits f
  pub curves : CurvesFit (curve f) (length f.stations)
  pub rows : RowsFit f (length f.stations)

-- the same as tests
abbrev pub row_test : Table → ℕ → Bool
row_test f r = in_test (pos 0) (pos 0) (lowest (curve f r)) && in_all (pos 0) (pos 20000) (power f r)

abbrev pub made_test : Table → Bool
made_test f =
    shape_test f.periods (length f.stations) (length f.available)
    && (all_below (λ r. Curves.made_test (curve f r)) (length f.stations) && all_below (row_test f) (length f.stations))

-- both, for the struct that holds the table
pub record Fits (f : Table) : Type 0 where
  pub test : made_test f ≡ true
  pub made : Made f

-- the first no, where the numbers are not those of a table
pub data Refused (f : Table) : TableFault → Type 0 where
  shape : (e : TableFault) → Unshaped f.periods (length f.stations) (length f.available) e → Refused f e
  curves : (e : TableFault) → ShapeFits f → NoCurve (curve f) (length f.stations) e → Refused f e
  rows : (e : TableFault) → ShapeFits f → CurvesFit (curve f) (length f.stations) → NoRow f e → Refused f e

-- the most that a row may feed in in period t: the smaller of what is available and the curve's last end; periods count from 0 here
abbrev pub most_of : CurveNumbers → List ℤ → ℕ → ℤ
most_of c power t = int_min (at power t) (highest c)

-- the same for row r
abbrev pub most : Table → ℕ → ℕ → ℤ
most f r t = most_of (curve f r) (power f r) t

-- the first rule that a period breaks, if any: the output is 0 to the most
abbrev pub rule_in : ℤ → ℕ → ℤ → Option ℕ
rule_in most mark output = running_rule mark (in_test (pos 0) most output)

-- the same for period t of a schedule of row r
abbrev pub rule_at : Table → ℕ → Schedule → ℕ → Option ℕ
rule_at f r s t = rule_in (most f r t) (slice_index s.marks t) (at s.outputs t)

-- what period t of a schedule of row r costs
abbrev pub cost_at : Table → ℕ → Schedule → ℕ → ℤ
cost_at f r s t = running_cost (curve f r) (at s.outputs t)

-- the least of running cost less worth over the outputs that a row may have in period t, at the net price v
abbrev pub least_of : CurveNumbers → List ℤ → ℕ → ℤ → ℤ
least_of c power t v = least_over (pos 0) (most_of c power t) (net_cost c v)

-- the same for row r
abbrev pub least_at : Table → ℕ → ℕ → ℤ → ℤ
least_at f r t v = least_of (curve f r) (power f r) t v

-- a schedule costs its running costs, and the floor is the sum of the leasts at the net prices
abbrev pub renewables : Table → Meaning
renewables f = record {
  periods = f.periods;
  size = length f.stations;
  node = λ r. (station f.stations r).node;
  verdict = λ r s. verdict_over (rule_at f r s) (cost_at f r s) f.periods;
  floor = λ r q. grains (total f.periods (λ t. least_at f r t (at q.net t)));
}
