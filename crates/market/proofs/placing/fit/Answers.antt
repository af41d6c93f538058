use Rattle.std.proofs.Common.{arith}
use Rattle.market.specs.Placing.{sizes, row}
use Rattle.market.proofs.placing.fit.Goals as goal

pub returns-then-periods-count : goal.returns-then-periods-count
returns-then-periods-count g c = sizes (λ h. omega (arith, c.then-periods-count.either))

pub returns-in-Some : goal.returns-in-Some
returns-in-Some g c = row c.in-Some.row (record { periods = omega arith; some = (omega arith, omega arith) }) c.in-Some.ensures
