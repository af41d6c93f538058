use Rattle.std.proofs.Common.{length}
use Rattle.vendor.specs.Walks.{rows_ahead}
use Rattle.vendor.proofs.Passes.{Checking}
use Rattle.vendor.proofs.tables.reading.check.Given as goal

abbrev pub invariant-loop-entry : goal.invariant-loop-entry
invariant-loop-entry l = Checking l.shape l.file l.row l.reader.last l.counts (rows_ahead l.reader)

abbrev pub decreases-loop-entry : goal.decreases-loop-entry
decreases-loop-entry l = length (rows_ahead l.reader)
