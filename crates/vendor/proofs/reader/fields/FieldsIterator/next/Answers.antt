use Rattle.std.proofs.Common.{length, rules, ap}
use Rattle.vendor.proofs.Cuts.{next_left}
use Rattle.vendor.proofs.reader.fields.FieldsIterator.next.Goals as goal

pub returns-clause-goes : goal.returns-clause-goes
returns-clause-goes c =
    let found = c.in-Some.ensures in
    let shorter = ap length (next_left c.in_ok-row.row.now c.in-Some.n found.0 found.2 found.1) in search rules
