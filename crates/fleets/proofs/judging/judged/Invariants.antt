use Rattle.std.proofs.Common.{◌≡◌, ◌≤◌, drop, slice_index}
use Rattle.std.specs.Iterator.Adapters.{enumerate_source, enumerate_count, zip_first, zip_second}
use Rattle.std.specs.Slice.Iter.{iter_rest}
use Rattle.market.specs.Scans.{at}
use Rattle.kinds.specs.Rules.{running_rule}
use Rattle.kinds.specs.Verdicts.{LawfulAt}
use Rattle.fleets.proofs.judging.judged.Given as goal

abbrev pub invariant-loop-period : goal.invariant-loop-period
invariant-loop-period g l =
    let left = enumerate_source l.period-iterator in
    let period = enumerate_count l.period-iterator in
    record {
      can : (goal.iterator-loop-period g).can_next l.period-iterator;
      ends : (goal.iterator-loop-period g).is_finite l.period-iterator;
      within : period ≤ g.R.AlwaysRuns.periods l.row;
      marks : iter_rest (zip_first left) ≡ drop period l.schedule.marks.now;
      outputs : iter_rest (zip_second left) ≡ drop period l.schedule.outputs.now;
      lawful : LawfulAt (λ t. running_rule (slice_index l.schedule.marks.now t) (g.R.AlwaysRuns.allows l.row t (at l.schedule.outputs.now t))) (λ t. g.R.AlwaysRuns.cost l.row (at l.schedule.outputs.now t)) period l.cost;
    }
