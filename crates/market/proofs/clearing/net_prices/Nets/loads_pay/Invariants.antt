use Rattle.std.proofs.Common.{◌≡◌}
use Rattle.market.specs.Bounding.{prices_of, pays}
use Rattle.market.specs.Days.{numbers_of}
use Rattle.market.specs.Totals.{total}
use Rattle.market.proofs.clearing.net_prices.Nets.loads_pay.Given as goal

abbrev pub invariant-loop-node : goal.invariant-loop-node
invariant-loop-node l =
    (l.paid.0 ≡ total l.node (pays (numbers_of l.self.lines.day.now.numbers) (prices_of l.self.lines.prices.now) l.period))
    × (l.node-end ≡ l.self.lines.day.now.numbers.nodes)
