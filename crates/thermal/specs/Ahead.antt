-- The amounts that the walk back keeps, as numbers. Assumes nothing.
use Rattle.std.specs.Prelude.{ℕ, List, map, pos, ◌+ℤ◌, slice_index_or}
use Rattle.std.specs.Int.{int_min}
use Rattle.kinds.specs.Walks.{Ahead as Amounts, running_to}
use Rattle.thermal.specs.declared.ruling.walking.Ahead.{Ahead}
use Rattle.thermal.specs.declared.ruling.walking.PeriodWeights.{PeriodWeights}

abbrev pub amounts : Ahead → Amounts
amounts a = record { run = a.run.0; on = a.on.0; off = a.off.0 }

-- nothing is left after the last period
abbrev pub nothing : Amounts
nothing = record { run = pos 0; on = pos 0; off = pos 0 }

abbrev pub ahead_of : List Ahead → ℕ → Amounts
ahead_of walk k = slice_index_or (map amounts walk) k nothing

-- a period earlier, where a unit that starts in it may stop at one place, and one that stops in it may start at another
abbrev pub step : PeriodWeights → Ahead → Ahead → Ahead → Amounts
step w next may_stop may_start = record {
  run = w.run.0 +ℤ next.run.0;
  on = int_min (w.run.0 +ℤ next.on.0) (w.stop.0 +ℤ may_start.off.0);
  off = int_min next.off.0 (w.start.0 +ℤ running_to (amounts next) (amounts may_stop));
}
