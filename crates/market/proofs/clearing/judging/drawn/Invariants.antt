use Rattle.std.proofs.Common.{◌≡◌, length}
use Rattle.market.specs.Days.{numbers_of}
use Rattle.market.specs.Injections.{Drawn}
use Rattle.market.proofs.clearing.judging.drawn.Given as goal

abbrev pub invariant-loop-node : goal.invariant-loop-node
invariant-loop-node l = (length l.fed ≡ 16) × Drawn (numbers_of l.day.numbers) l.period l.fed l.node
