use Rattle.std.proofs.Common.{ap, w32, of_z, rules}
use Rattle.kinds.specs.Renewables.{begins, available}
use Rattle.fleets.proofs.renewables.making.row_no.Goals as goal

pub returns-then-curve-ne0 : goal.returns-then-curve-ne0
returns-then-curve-ne0 c = begins (λ e. c.if-curve-ne0.true (ap (of_z w32) e))

pub returns-in-Some : goal.returns-in-Some
returns-in-Some c = available (search rules) c.in-Some.t c.in-Some.ensures
