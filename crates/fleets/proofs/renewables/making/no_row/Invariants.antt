use Rattle.std.proofs.Common.{◌≡◌, ◌*◌, drop}
use Rattle.std.specs.Iterator.Adapters.{enumerate_source, enumerate_count, zip_first, zip_second}
use Rattle.std.specs.Slice.Iter.{iter_rest, chunks_exact_rest, chunks_exact_size}
use Rattle.kinds.specs.Renewables.{RowsFit, table}
use Rattle.fleets.proofs.renewables.making.no_row.Given as goal

abbrev pub invariant-loop-row : goal.invariant-loop-row
invariant-loop-row l =
    let left = enumerate_source l.row-iterator in
    let row = enumerate_count l.row-iterator in
    record {
      can : goal.iterator-loop-row.can_next l.row-iterator;
      ends : goal.iterator-loop-row.is_finite l.row-iterator;
      stations : iter_rest (zip_first left) ≡ drop row l.stations;
      available : chunks_exact_rest (zip_second left) ≡ drop (row * l.periods) l.available;
      size : chunks_exact_size (zip_second left) ≡ l.periods;
      fit : RowsFit (table l.periods l.stations l.available) row;
    }
