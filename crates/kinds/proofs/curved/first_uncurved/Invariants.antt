use Rattle.kinds.specs.Tables.{curve_in, CurvesFit}
use Rattle.kinds.proofs.curved.first_uncurved.Given as goal

abbrev pub invariant-loop-row : goal.invariant-loop-row
invariant-loop-row g l = (past : _) → CurvesFit (curve_in g.R.Curved.curve l.rows past) l.row-counter
