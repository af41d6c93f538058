-- The first questions of a table of rows: its periods, its lengths, and the curves of its rows. Assumes nothing.
use Rattle.std.specs.Prelude.{◌≡◌, ℕ, ◌*◌, ◌<◌, ◌≤◌, Bool, cond, ◌&&◌, List, Ok, Err, Result, ◌==◌, nat_le, slice_index_or}
use Rattle.kinds.specs.declared.curve_fault.CurveFault.{CurveFault}
use Rattle.kinds.specs.declared.curve_numbers.CurveNumbers.{CurveNumbers}
use Rattle.kinds.specs.declared.table_fault.TableFault.{TableFault}
use Rattle.kinds.specs.declared.table_fault.TableFault.TheVariants.{Periods, Sizes, Curve}
use Rattle.kinds.specs.Curves.{Made, Refused}

-- 1 to 96 periods
abbrev pub PeriodsFit : ℕ → Type 0
PeriodsFit periods = (1 ≤ periods) × (periods ≤ 96)

-- at most 32 rows, and a cell for each row and period
pub record LengthsFit (periods rows cells : ℕ) : Type 0 where
  pub few : rows ≤ 32
  pub all : cells ≡ rows * periods

-- both questions have the answer yes
pub record Shaped (periods rows cells : ℕ) : Type 0 where
  pub day : PeriodsFit periods
  pub lengths : LengthsFit periods rows cells

-- the same as a test
abbrev pub shape_test : ℕ → ℕ → ℕ → Bool
shape_test periods rows cells = (nat_le 1 periods && nat_le periods 96) && (nat_le rows 32 && cells == rows * periods)

-- the first no
pub data Unshaped (periods rows cells : ℕ) : TableFault → Type 0 where
  day : (PeriodsFit periods → ⊥) → Unshaped periods rows cells Periods
  lengths : PeriodsFit periods → (LengthsFit periods rows cells → ⊥) → Unshaped periods rows cells Sizes

-- the same as a computation
abbrev pub first_told : Bool → Bool → Result (Unit {0}) TableFault
first_told days sizes = cond days (cond sizes (Ok tt) (Err Sizes)) (Err Periods)

abbrev pub shape_told : ℕ → ℕ → ℕ → Result (Unit {0}) TableFault
shape_told periods rows cells = first_told (nat_le 1 periods && nat_le periods 96) (nat_le rows 32 && cells == rows * periods)

-- and of the rows alone: 1 to 96 periods, and then at most 32 rows
abbrev pub rows_told : ℕ → ℕ → Result (Unit {0}) TableFault
rows_told periods rows = first_told (nat_le 1 periods && nat_le periods 96) (nat_le rows 32)

-- the curve of row r of a list; past the last row, that of a row which is told
abbrev pub curve_in : {R : Type 0} → (R → CurveNumbers) → List R → R → ℕ → CurveNumbers
curve_in curve rows past r = curve (slice_index_or rows r past)

-- every row before r has a curve
abbrev pub CurvesFit : (ℕ → CurveNumbers) → ℕ → Type 0
CurvesFit curve r = (k : ℕ) → k < r → Made (curve k)

-- e tells the first of n rows whose curve is not one, and what it is refused with
pub data NoCurve (curve : ℕ → CurveNumbers) (n : ℕ) : TableFault → Type 0 where
  no_curve : (r : ℕ) (e : CurveFault) → r < n → CurvesFit curve r → Refused (curve r) e → NoCurve curve n (Curve r e)
