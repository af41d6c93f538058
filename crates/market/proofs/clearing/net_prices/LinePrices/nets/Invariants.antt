use Rattle.std.proofs.Common.{◌≡◌, length}
use Rattle.market.specs.Bounding.{prices_of, Nets}
use Rattle.market.specs.Days.{numbers_of}
use Rattle.market.proofs.clearing.net_prices.LinePrices.nets.Given as goal

abbrev pub invariant-loop-cell : goal.invariant-loop-cell
invariant-loop-cell l = (length l.cells ≡ 1536) × Nets (numbers_of l.self.day.now.numbers) (prices_of l.self.prices.now) l.cells l.cell
