-- Amounts of money made from whole numbers. Assumes nothing.
use Rattle.std.specs.Prelude.{ℤ}
use Rattle.measures.specs.declared.Grains.{Grains}

abbrev pub grains : ℤ → Grains
grains z = record { 0 = z }
