use Rattle.std.proofs.Common.{◌≡◌, pos, ◌*ℤ◌}
use Rattle.market.specs.Bounding.{prices_of, comes}
use Rattle.market.specs.Days.{numbers_of}
use Rattle.market.specs.Totals.{total}
use Rattle.market.proofs.clearing.net_prices.LinePrices.limits_come.Given as goal

abbrev pub invariant-loop-line : goal.invariant-loop-line
invariant-loop-line l = l.all.0 ≡ pos 1000 *ℤ total l.line (comes (numbers_of l.self.day.now.numbers) (prices_of l.self.prices.now) l.period)
