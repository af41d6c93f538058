use Rattle.std.proofs.Common.{◌≡◌}
use Rattle.market.specs.Days.{numbers_of}
use Rattle.market.specs.Meanings.{meaning}
use Rattle.market.specs.Judging.{plan_of}
use Rattle.market.proofs.RowsCost.{RowsSoFar}
use Rattle.market.proofs.clearing.judging.Offer.rows_cost.Given as goal

abbrev pub invariant-loop-row : goal.invariant-loop-row
invariant-loop-row g l =
    RowsSoFar (numbers_of l.self.day.now.numbers) (meaning g.F.Fleet l.self.fleet.now)
    (plan_of l.self.plan.now) l.row l.cost.0
    × (l.row-end ≡ g.F.Fleet.size l.self.fleet.now)
