use Rattle.std.proofs.Common.{◌∙◌}
use Rattle.market.specs.Fleet.{schedule_of}
use Rattle.kinds.proofs.FixedRows.{row_verdict}
use Rattle.kinds.proofs.FixedTables.{made_so}
use Rattle.fleets.specs.Held.{rows_of}
use Rattle.fleets.proofs.fixed.Fixed.judged.Goals as goal

pub returns : goal.returns
returns c =
    let f = rows_of c.args.self.now in
    c.judged.ensures.is ∙ row_verdict f (made_so f c.args.self.now.made) c.args.row (schedule_of c.args.schedule.now) c.row.result.outputs.now c.requires.row c.row.ensures
