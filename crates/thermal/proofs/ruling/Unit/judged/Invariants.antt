use Rattle.std.proofs.Common.{◌≡◌, ◌≤◌, length, drop}
use Rattle.std.specs.Iterator.Adapters.{enumerate_count, enumerate_source, zip_first, zip_second}
use Rattle.std.specs.Slice.Iter.{iter_rest}
use Rattle.market.specs.Fleet.{schedule_of}
use Rattle.kinds.specs.Thermal.{mark_before, lasted_before, output_before, rule, cost_in}
use Rattle.kinds.specs.Verdicts.{LawfulAt}
use Rattle.thermal.specs.Marks.{code_of}
use Rattle.thermal.proofs.ruling.Unit.judged.Given as goal

abbrev pub invariant-loop-period : goal.invariant-loop-period
invariant-loop-period l =
    let u = l.self.record.now in
    let s = schedule_of l.schedule in
    let t = enumerate_count l.period-iterator in
    record {
      marks_left : iter_rest (zip_first (enumerate_source l.period-iterator)) ≡ drop t s.marks;
      outputs_left : iter_rest (zip_second (enumerate_source l.period-iterator)) ≡ drop t s.outputs;
      within : t ≤ length s.marks;
      mark : code_of l.before.mark ≡ mark_before u s t;
      lasted : l.before.lasted ≡ lasted_before u s t;
      output : l.before.output.0 ≡ output_before u.output s.outputs t;
      lawful : LawfulAt (rule u s) (cost_in u s) t l.cost;
    }
