use Rattle.market.specs.Bounding.{prices_of, PeriodsFloored}
use Rattle.market.specs.Days.{numbers_of}
use Rattle.market.proofs.clearing.net_prices.Nets.periods_floor.Given as goal

abbrev pub invariant-loop-period : goal.invariant-loop-period
invariant-loop-period l = PeriodsFloored (numbers_of l.self.lines.day.now.numbers) (prices_of l.self.lines.prices.now) l.period l.all.0
