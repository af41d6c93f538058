-- The rows that a made table of thermal units holds. Assumes nothing.
use Rattle.kinds.specs.ThermalTables.{Table, table}
use Rattle.thermal.specs.declared.table.Thermal.{Thermal}

abbrev pub units_of : Thermal → Table
units_of f = table f.periods f.units.now
