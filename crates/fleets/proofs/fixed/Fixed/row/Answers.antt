use Rattle.std.proofs.Common.{◌≤◌, pos, neg_ℤ, length, sym, subst, arith}
use Rattle.market.specs.Scans.{InBefore}
use Rattle.kinds.proofs.FixedRows.{part_long, part_fits}
use Rattle.kinds.proofs.FixedTables.{made_so}
use Rattle.fleets.specs.Held.{rows_of}
use Rattle.fleets.proofs.fixed.Fixed.row.Goals as goal

pub invariant_of-result : goal.invariant_of-result
invariant_of-result c =
    let f = rows_of c.args.self.now in
    let m = made_so f c.args.self.now.made in
    let is = sym c.part.ensures in
    record {
      few = subst (λ xs. length xs ≤ 96) is (omega (arith, part_long f m c.args.row c.requires, m.shape.day.1));
      fits = subst (λ xs. InBefore (neg_ℤ (pos 20000)) (pos 20000) xs (length xs)) is (part_fits f m c.args.row c.requires);
    }
