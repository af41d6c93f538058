use Rattle.std.proofs.Common.{◌≡◌, length}
use Rattle.measure_floors.proofs.sum_of_floors.Given as goal

abbrev pub invariant-loop-turn : goal.invariant-loop-turn
invariant-loop-turn l = length l.net ≡ 96
