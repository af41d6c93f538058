use Rattle.std.proofs.Common.{◌≡◌, length}
use Rattle.market.specs.Days.{numbers_of}
use Rattle.market.specs.Injections.{Fed}
use Rattle.market.specs.Meanings.{meaning}
use Rattle.market.specs.Judging.{plan_of}
use Rattle.market.proofs.clearing.judging.Offer.gathered.Given as goal

abbrev pub invariant-loop-row : goal.invariant-loop-row
invariant-loop-row g l =
    (length l.fed ≡ 16)
    × Fed (numbers_of l.self.day.now.numbers) (meaning g.F.Fleet l.self.fleet.now)
    (plan_of l.self.plan.now) l.period l.row l.fed
    × (l.size ≡ g.F.Fleet.size l.self.fleet.now)
