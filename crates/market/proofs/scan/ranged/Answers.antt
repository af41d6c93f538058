use Rattle.std.proofs.Common.{rules, to_z-of_z}
use Rattle.market.proofs.Pricing.{scan_told}
use Rattle.market.proofs.scan.ranged.Goals as goal

pub returns : goal.returns
returns c = rw (← to_z-of_z c.ranges.low, ← to_z-of_z c.ranges.high) (search (rules, scan_told))
