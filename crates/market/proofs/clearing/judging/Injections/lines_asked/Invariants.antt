use Rattle.market.specs.Days.{numbers_of}
use Rattle.market.specs.Injections.{flow_of, KeptBefore}
use Rattle.market.proofs.clearing.judging.Injections.lines_asked.Given as goal

abbrev pub invariant-loop-line : goal.invariant-loop-line
invariant-loop-line l = KeptBefore (numbers_of l.self.day.now.numbers) (flow_of (numbers_of l.self.day.now.numbers) l.self.fed.now) l.line
