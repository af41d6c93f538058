use Rattle.std.proofs.Common.{sym}
use Rattle.vendor.proofs.Outcome.{fit_cases}
use Rattle.vendor.proofs.tables.reading.judge.Goals as goal

pub returns-then-fit-clause-cases : goal.returns-then-fit-clause-cases
returns-then-fit-clause-cases c = fit_cases _ _ _ _ (sym c.if-fit.ensures) c.check.ensures
