use Rattle.std.proofs.Common.{Ok, Err}
use Rattle.std.proofs.lemmas.Result.{err_from_is_err_and}
use Rattle.kinds.specs.Renewables.{no_station, shape, curves}
use Rattle.kinds.proofs.RenewableTables.{told}
use Rattle.kinds.proofs.Shapes.{shape_so}
use Rattle.fleets.proofs.renewables.making.first_no.Goals as goal

pub returns-in_err-shape_fits : goal.returns-in_err-shape_fits
returns-in_err-shape_fits c =
    let p = err_from_is_err_and c.from_residual.result c.from_residual.ensures.1 in
    rw (p.1, p.2) (shape _ (shape_so _ _ _ (Err _) c.in_err-shape_fits.ensures))

pub returns-in_err-curves_fit : goal.returns-in_err-curves_fit
returns-in_err-curves_fit c =
    let p = err_from_is_err_and c.from_residual-in_err-curves_fit.result c.from_residual-in_err-curves_fit.ensures.1 in
    rw (p.1, p.2) (curves _ (shape_so _ _ _ (Ok tt) c.in_ok-shape_fits.ensures) (c.in_err-curves_fit.ensures no_station))

pub no_row-requires : goal.no_row-requires
no_row-requires c = shape_so _ _ _ (Ok tt) c.in_ok-shape_fits.ensures

pub returns : goal.returns
returns c = told _ (shape_so _ _ _ (Ok tt) c.in_ok-shape_fits.ensures) (c.in_ok-curves_fit.ensures no_station) _ c.no_row.ensures
