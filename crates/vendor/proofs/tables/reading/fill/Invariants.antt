use Rattle.std.proofs.Common.{length}
use Rattle.vendor.specs.Files.{contents}
use Rattle.vendor.specs.Fills.{SamePlaces}
use Rattle.vendor.specs.Walks.{rows_ahead}
use Rattle.vendor.proofs.Filling.{Writing}
use Rattle.vendor.proofs.tables.reading.fill.Given as goal

abbrev pub invariant-loop-entry : goal.invariant-loop-entry
invariant-loop-entry l = Writing l.shape l.file l.reader.last (rows_ahead l.reader) (contents l.tables) × SamePlaces l.initial.tables l.tables

abbrev pub decreases-loop-entry : goal.decreases-loop-entry
decreases-loop-entry l = length (rows_ahead l.reader)
