use Rattle.market.proofs.FloorParts.{over_at}
use Rattle.market.proofs.clearing.net_prices.bounding.limited.Goals as goal

pub returns-in-Some : goal.returns-in-Some
returns-in-Some c = over_at c.args.count c.args.table.now c.in-Some.cell c.requires c.in-Some.ensures
