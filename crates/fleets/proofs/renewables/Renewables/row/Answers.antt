use Rattle.std.proofs.Common.{◌≤◌, length, sym, subst, arith}
use Rattle.kinds.specs.Renewables.{curve, RowFits}
use Rattle.kinds.proofs.CurveTests.{made_told}
use Rattle.kinds.proofs.RenewableRows.{power_long}
use Rattle.kinds.proofs.RenewableTables.{made_so}
use Rattle.fleets.specs.Held.{stations_of}
use Rattle.fleets.proofs.renewables.Renewables.row.Goals as goal

pub invariant_of-result : goal.invariant_of-result
invariant_of-result c = record { made = made_told _ ((made_so (stations_of c.args.self.now) c.args.self.now.made).curves c.args.row c.requires) }

pub invariant_of-result-2 : goal.invariant_of-result-2
invariant_of-result-2 c =
    let f = stations_of c.args.self.now in
    let m = made_so f c.args.self.now.made in
    let is = sym c.part.ensures in
    record {
      few = subst (λ xs. length xs ≤ 96) is (omega (arith, power_long f m c.args.row c.requires, m.shape.day.1));
      fits = subst (RowFits (curve f c.args.row)) is (m.rows c.args.row c.requires);
    }
