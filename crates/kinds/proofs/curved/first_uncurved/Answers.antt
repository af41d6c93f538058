use Rattle.std.proofs.Common.{ap, ◌∙◌, subst, rules}
use Rattle.std.proofs.lemmas.List.{get_or_default}
use Rattle.std.proofs.lemmas.Result.{err_from_is_err_and}
use Rattle.kinds.specs.declared.table_fault.TableFault.TheVariants.{Curve}
use Rattle.kinds.specs.Curves.{Refused}
use Rattle.kinds.specs.Tables.{no_curve}
use Rattle.kinds.proofs.Telling.{told_on}
use Rattle.kinds.proofs.curved.first_uncurved.Goals as goal

pub returns-in_err-map_err : goal.returns-in_err-map_err
returns-in_err-map_err g c past =
    let p = err_from_is_err_and c.from_residual.result c.from_residual.ensures.1 in
    let t = told_on _ _ _ (Curve c.loop-row.row-counter) c.check.result c.map_err.result _ (λ e k. search rules) c.check.ensures c.map_err.ensures.cases c.in_err-map_err.was in
    let is = c.curve.ensures ∙ ap g.R.Curved.curve (c.index-rows-row.is ∙ get_or_default _ _ _ past c.loop-row-test.true) in
    rw (p.1, p.2, t.2) (no_curve c.loop-row.row-counter t.0 c.loop-row-test.true (c.loop-row.invariant past) (subst (λ n. Refused n t.0) is t.1))
