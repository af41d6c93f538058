use Rattle.std.proofs.Common.{◌≡◌, length}
use Rattle.market.specs.Fleet.{row_prices_of}
use Rattle.kinds.specs.Walks.{Walked}
use Rattle.thermal.specs.Ahead.{ahead_of}
use Rattle.thermal.proofs.ruling.walking.pricing.Priced.walk_back.Given as goal

abbrev pub invariant-loop-period : goal.invariant-loop-period
invariant-loop-period l = Walked l.self.unit.record.now (row_prices_of l.self.prices) (length l.self.prices.net.now) l.period (ahead_of l.walk) × (length l.walk ≡ 97)
