use Rattle.kinds.specs.ThermalTables.{table}
use Rattle.kinds.proofs.ThermalTables.{made_so}
use Rattle.thermal.proofs.table.Thermal.unit.Goals as goal

pub invariant_of-result : goal.invariant_of-result
invariant_of-result c = let t = c.args.self.now in record { made = (made_so (table t.periods t.units.now) t.made).rows c.args.row c.requires }
