use Rattle.std.proofs.Common.{◌≡◌, pos, ◌+ℤ◌, ◌*ℤ◌}
use Rattle.market.specs.Totals.{total}
use Rattle.kinds.specs.Curves.{price, lowest, below}
use Rattle.kinds.proofs.curve.Curve.cost_below.Given as goal

abbrev pub invariant-loop-number : goal.invariant-loop-number
invariant-loop-number l = l.cost.0 ≡ (pos 1000 *ℤ price l.self.numbers 0) *ℤ lowest l.self.numbers +ℤ total l.number (λ i. (pos 1000 *ℤ price l.self.numbers i) *ℤ below l.self.numbers i l.output.0)
