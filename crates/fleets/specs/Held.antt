-- The rows that a made table holds. Assumes nothing.
use Rattle.kinds.specs.Fixed.{Table, table}
use Rattle.kinds.specs.Renewables as Stations
use Rattle.fleets.specs.declared.fixed.Fixed.{Fixed}
use Rattle.fleets.specs.declared.renewables.Renewables.{Renewables}

abbrev pub rows_of : Fixed → Table
rows_of f = table f.periods f.nodes.now f.outputs.now

abbrev pub stations_of : Renewables → Stations.Table
stations_of f = Stations.table f.periods f.stations.now f.available.now
