use Rattle.std.proofs.Common.{◌≡◌, ◌+ℤ◌}
use Rattle.market.specs.Totals.{total}
use Rattle.kinds.specs.Curves.{net_cost, fall}
use Rattle.kinds.proofs.curve.costs.Span.lowered.Given as goal

abbrev pub invariant-loop-number : goal.invariant-loop-number
invariant-loop-number l = l.least.0 ≡ net_cost l.self.curve.now.numbers l.self.value.0 l.self.low.0 +ℤ total l.number (fall l.self.curve.now.numbers l.self.value.0 l.self.low.0 l.self.high.0)
