use Rattle.std.proofs.Common.{◌≡◌, length}
use Rattle.market.specs.Scans.{at}
use Rattle.market.specs.Totals.{total}
use Rattle.kinds.specs.Renewables.{least_of}
use Rattle.fleets.proofs.renewables.row.Row.leasts.Given as goal

abbrev pub invariant-loop-price : goal.invariant-loop-price
invariant-loop-price l = record {
  can : goal.iterator-loop-price.can_next l.price-iterator;
  ends : goal.iterator-loop-price.is_finite l.price-iterator;
  sum : l.all.0 ≡ total (length l.yielded) (λ t. least_of l.self.curve.numbers l.self.available.now t (at l.net t));
}
