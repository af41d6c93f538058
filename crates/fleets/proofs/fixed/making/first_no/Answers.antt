use Rattle.std.proofs.Common.{Ok, Err}
use Rattle.std.proofs.lemmas.Result.{err_from_is_err_and}
use Rattle.kinds.specs.Fixed.{shape}
use Rattle.kinds.proofs.FixedTables.{fits, refused_output}
use Rattle.kinds.proofs.Shapes.{shape_so}
use Rattle.fleets.proofs.fixed.making.first_no.Goals as goal

pub returns-in_err-shape_fits : goal.returns-in_err-shape_fits
returns-in_err-shape_fits c =
    let p = err_from_is_err_and c.from_residual.result c.from_residual.ensures.1 in
    let e = c.in_err-shape_fits.ensures in
    rw (p.1, p.2) (shape _ (shape_so _ _ _ (Err _) c.in_err-shape_fits.ensures))

pub returns-in-Some : goal.returns-in-Some
returns-in-Some c = refused_output _ (shape_so _ _ _ (Ok tt) c.in_ok-shape_fits.ensures) _ c.in-Some.ensures

pub returns-in-None : goal.returns-in-None
returns-in-None c = fits _ (shape_so _ _ _ (Ok tt) c.in_ok-shape_fits.ensures) c.in-None.ensures
