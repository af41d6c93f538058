use Rattle.std.proofs.Common.{Some, ap, sym, ◌∙◌}
use Rattle.std.proofs.lemmas.Result.{err_from_is_err_and}
use Rattle.kinds.specs.Rules.{number_of}
use Rattle.thermal.proofs.Steps.{at_none}
use Rattle.thermal.proofs.ruling.Unit.step.Goals as goal

pub returns-in_err-mark : goal.returns-in_err-mark
returns-in_err-mark c =
    let p = err_from_is_err_and c.from_residual.result c.from_residual.ensures.1 in
    let h = c.in_err-mark.ensures in
    rw (p.1, p.2) (at_none _ _ _ _ _ _ h.1 ∙ ap (λ r. Some (number_of r)) (sym h.0))
