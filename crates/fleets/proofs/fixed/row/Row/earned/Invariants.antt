use Rattle.std.proofs.Common.{◌≡◌, length, ◌*ℤ◌}
use Rattle.market.specs.Scans.{at}
use Rattle.market.specs.Totals.{total}
use Rattle.fleets.proofs.fixed.row.Row.earned.Given as goal

abbrev pub invariant-loop-price : goal.invariant-loop-price
invariant-loop-price l = record {
  can : goal.iterator-loop-price.can_next l.price-iterator;
  ends : goal.iterator-loop-price.is_finite l.price-iterator;
  sum : l.all.0 ≡ total (length l.yielded) (λ t. at l.net t *ℤ at l.self.outputs.now t);
}
