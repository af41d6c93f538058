use Rattle.std.proofs.Common.{◌≡◌, ℕ, not, List, length, Some, None, Option, MatchOption}
use Rattle.std.specs.List.{position}
use Rattle.std.proofs.lemmas.Result.{err_from_is_err_and, MatchResult-at_ok, MatchResult-at_err}
use Rattle.kinds.specs.declared.table_fault.TableFault.{TableFault}
use Rattle.kinds.specs.declared.table_fault.TableFault.TheVariants.{Periods, Sizes, Curve, Row, Cell}
use Rattle.kinds.specs.declared.thermal_unit.ThermalUnit.{ThermalUnit}
use Rattle.market.proofs.Pricing.{none_fails, first_fails}
use Rattle.kinds.specs.Thermal.{no_unit, NumbersFit}
use Rattle.kinds.specs.ThermalTables.{Refused, RowsFit, NoRow, numbers_test, table, day, count, curves, numbers}
use Rattle.kinds.proofs.Shapes.{rows_so, Crowded}
use Rattle.kinds.proofs.ThermalTables.{decides_numbers, fits}
use Rattle.thermal.proofs.ruling.making.first_no.Goals as goal

-- the first row that has a number out of its range is what a scan tells
row_told : (us : List ThermalUnit) (r : Option ℕ) → r ≡ position (λ u. not (numbers_test u)) us → MatchOption r (RowsFit us (length us)) (NoRow us)
row_told us None e = none_fails numbers_test NumbersFit decides_numbers us no_unit e
row_told us (Some i) e =
    let p = first_fails numbers_test NumbersFit decides_numbers us no_unit i e in
    record { within = p.0; before = p.1; out = p.2 }

-- the first two questions
crowded : (n : ℕ) (us : List ThermalUnit) (e : TableFault) → Crowded n (length us) e → Refused (table n us) e
crowded n us Periods h = day h
crowded n us Sizes h = count h.0 h.1
crowded n us (Curve r f) h = absurd h
crowded n us (Row r) h = absurd h
crowded n us (Cell r t) h = absurd h

pub returns-in_err-rows_fit : goal.returns-in_err-rows_fit
returns-in_err-rows_fit c =
    let p = err_from_is_err_and c.from_residual.result c.from_residual.ensures.1 in
    rw (p.1, p.2) (crowded _ _ _ (MatchResult-at_err _ _ _ c.in_err-rows_fit.was (rows_so c.args.periods (length c.args.units.now) c.rows_fit.result c.rows_fit.ensures)))

pub returns-in_err-curves_fit : goal.returns-in_err-curves_fit
returns-in_err-curves_fit c =
    let p = err_from_is_err_and c.from_residual-in_err-curves_fit.result c.from_residual-in_err-curves_fit.ensures.1 in
    let fit = MatchResult-at_ok _ _ _ c.in_ok-rows_fit.was (rows_so c.args.periods (length c.args.units.now) c.rows_fit.result c.rows_fit.ensures) in
    rw (p.1, p.2) (curves fit.0 fit.1 _ (c.in_err-curves_fit.ensures no_unit))

pub returns-in-Some : goal.returns-in-Some
returns-in-Some c =
    let fit = MatchResult-at_ok _ _ _ c.in_ok-rows_fit.was (rows_so c.args.periods (length c.args.units.now) c.rows_fit.result c.rows_fit.ensures) in
    numbers fit.0 fit.1 (c.in_ok-curves_fit.ensures no_unit) c.in-Some.row (row_told c.args.units.now (Some c.in-Some.row) c.in-Some.ensures)

pub returns-in-None : goal.returns-in-None
returns-in-None c =
    let fit = MatchResult-at_ok _ _ _ c.in_ok-rows_fit.was (rows_so c.args.periods (length c.args.units.now) c.rows_fit.result c.rows_fit.ensures) in
    fits (table c.args.periods c.args.units.now) fit.0 fit.1 (c.in_ok-curves_fit.ensures no_unit) (row_told c.args.units.now None c.in-None.ensures)
