use Rattle.kinds.specs.Curves.{count, ranges, order}
use Rattle.kinds.proofs.CurveTests.{fits}
use Rattle.kinds.proofs.curve_numbers.CurveNumbers.first_no.Goals as goal

pub returns-then-not-count_fits : goal.returns-then-not-count_fits
returns-then-not-count_fits c = count c.if-not-count_fits.ensures

pub returns-then-not-ranges_fit : goal.returns-then-not-ranges_fit
returns-then-not-ranges_fit c = ranges c.if-not-count_fits.ensures c.if-not-ranges_fit.ensures

pub returns-then-not-rises : goal.returns-then-not-rises
returns-then-not-rises c = order c.if-not-count_fits.ensures c.if-not-ranges_fit.ensures c.if-not-rises.ensures

pub returns : goal.returns
returns c = fits _ c.if-not-count_fits.ensures c.if-not-ranges_fit.ensures c.if-not-rises.ensures
