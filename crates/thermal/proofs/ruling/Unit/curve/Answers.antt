use Rattle.kinds.proofs.CurveTests.{made_told}
use Rattle.thermal.proofs.ruling.Unit.curve.Goals as goal

pub invariant_of-result : goal.invariant_of-result
invariant_of-result c = record { made = made_told _ c.args.self.now.made.curve }
