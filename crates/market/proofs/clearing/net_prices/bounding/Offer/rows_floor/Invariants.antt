use Rattle.std.proofs.Common.{◌≡◌}
use Rattle.market.specs.Bounding.{prices_of, RowsFloored}
use Rattle.market.specs.Days.{numbers_of}
use Rattle.market.specs.Meanings.{meaning}
use Rattle.market.proofs.clearing.net_prices.bounding.Offer.rows_floor.Given as goal

abbrev pub invariant-loop-row : goal.invariant-loop-row
invariant-loop-row g l =
    RowsFloored (numbers_of l.self.day.now.numbers) (meaning g.F.Fleet l.self.fleet.now)
    (prices_of l.self.prices.now) l.row l.floor.0
    × (l.row-end ≡ g.F.Fleet.size l.self.fleet.now)
