use Rattle.std.proofs.Common.{◌≡◌}
use Rattle.market.specs.Bounding.{prices_of}
use Rattle.market.specs.Days.{numbers_of}
use Rattle.market.proofs.NetPrices.{net_before}
use Rattle.market.proofs.clearing.net_prices.LinePrices.net_price.Given as goal

abbrev pub invariant-loop-line : goal.invariant-loop-line
invariant-loop-line l = l.net.0 ≡ net_before (numbers_of l.self.day.now.numbers) (prices_of l.self.prices.now) l.node l.period l.line
