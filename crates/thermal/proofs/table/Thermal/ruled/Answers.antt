use Rattle.std.proofs.Common.{length, arith}
use Rattle.market.specs.Fleet.{schedule_of}
use Rattle.kinds.specs.ThermalTables.{table}
use Rattle.kinds.proofs.Asking.{asked_schedule}
use Rattle.kinds.proofs.ThermalTables.{made_so}
use Rattle.thermal.proofs.table.Thermal.ruled.Goals as goal

pub judged-requires : goal.judged-requires
judged-requires c =
    let t = c.args.self.now in
    let day = (made_so (table t.periods t.units.now) t.made).day in
    let a = asked_schedule c.args.row (length t.units.now) t.periods (schedule_of c.args.schedule.now) _ c.in_ok-schedule_asked.ensures in
    (omega (arith, a.1, a.2), omega (arith, a.1, day.1))
