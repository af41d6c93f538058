-- What a fleet means, from the ghost members of its bound. Assumes nothing.
use Rattle.market.specs.declared.fleet.Fleet.{Ghosts}
use Rattle.market.specs.Fleet.{Meaning}

abbrev pub meaning : {F : Type 0} → Ghosts F → F → Meaning
meaning fleet f = record { periods = fleet.periods f; size = fleet.size f; node = fleet.node f; verdict = fleet.verdict f; floor = fleet.floor f }
