use Rattle.std.proofs.Common.{◌≡◌, ◌*ℤ◌, length}
use Rattle.market.specs.Clearing.{factor}
use Rattle.market.specs.Days.{numbers_of}
use Rattle.market.specs.Scans.{at}
use Rattle.market.specs.Totals.{total}
use Rattle.market.proofs.clearing.judging.Injections.flow.Given as goal

abbrev pub invariant-loop-factor : goal.invariant-loop-factor
invariant-loop-factor l = l.all.0 ≡ total (length l.yielded) (λ k. factor (numbers_of l.self.day.now.numbers) l.line k *ℤ at l.self.fed.now k)
