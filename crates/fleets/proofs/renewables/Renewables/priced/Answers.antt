use Rattle.std.proofs.Common.{◌<◌, length, ap, ◌∙◌, arith}
use Rattle.market.specs.Fleet.{row_prices_of}
use Rattle.kinds.specs.Renewables.{Table, Made, renewables}
use Rattle.kinds.proofs.Asking.{asked_row, asked_priced, asked_floor}
use Rattle.kinds.proofs.RenewableRows.{power_long, row_floor}
use Rattle.kinds.proofs.RenewableTables.{made_so}
use Rattle.fleets.specs.Held.{stations_of}
use Rattle.fleets.proofs.renewables.Renewables.priced.Goals as goal
use Rattle.fleets.proofs.renewables.Renewables.priced.Goals.{After-row}

abbrev rows : After-row → Table
rows c = stations_of c.args.self.now

made : (c : After-row) → Made (rows c)
made c = made_so (rows c) c.args.self.now.made

asked : (c : After-row) → c.args.row < length c.args.self.now.stations.now
asked c = asked_row (renewables (rows c)) c.args.row (row_prices_of c.args.prices.now) _ c.in_ok-prices_asked.ensures

pub leasts-requires-clause-limits : goal.leasts-requires-clause-limits
leasts-requires-clause-limits c t h =
    let i = (goal.at.leasts-requires-clause-limits c).After-row in
    let long = ap length c.row.ensures.available ∙ power_long (rows i) (made i) c.args.row (asked i) in
    (asked_priced (renewables (rows i)) c.args.row (row_prices_of c.args.prices.now) _ c.in_ok-prices_asked.ensures).net_limit t (omega (arith, h, long))

pub returns : goal.returns
returns c =
    let i = (goal.at.returns c).After-row in
    let floor = row_floor (rows i) (made i) c.args.row c.row.result.curve.numbers c.args.prices.now.net.now c.row.result.available.now (asked i) c.row.ensures.curve c.row.ensures.available in
    asked_floor (renewables (rows i)) c.args.row (row_prices_of c.args.prices.now) _ c.in_ok-prices_asked.ensures c.leasts.result (ap (λ g. g.0) c.leasts.ensures ∙ floor)
