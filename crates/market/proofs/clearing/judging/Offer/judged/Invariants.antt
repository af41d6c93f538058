use Rattle.market.specs.Clearing.{Cleared}
use Rattle.market.specs.Days.{numbers_of}
use Rattle.market.specs.Meanings.{meaning}
use Rattle.market.specs.Judging.{plan_of}
use Rattle.market.proofs.clearing.judging.Offer.judged.Given as goal

abbrev pub invariant-loop-period : goal.invariant-loop-period
invariant-loop-period g l =
    Cleared (numbers_of l.self.day.now.numbers) (meaning g.F.Fleet l.self.fleet.now)
    (plan_of l.self.plan.now) l.period
