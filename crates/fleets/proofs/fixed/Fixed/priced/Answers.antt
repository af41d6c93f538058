use Rattle.std.proofs.Common.{◌≡◌, ◌<◌, length, pos, ◌-ℤ◌, ◌*ℤ◌, ap, ◌∙◌, arith}
use Rattle.std.proofs.lemmas.Int.{ints}
use Rattle.market.specs.Fleet.{Priced, row_prices_of}
use Rattle.market.specs.Scans.{at}
use Rattle.market.specs.Totals.{total}
use Rattle.kinds.specs.Fixed.{Table, Made, fixed, fixed_at}
use Rattle.kinds.proofs.Asking.{asked_row, asked_priced, asked_floor}
use Rattle.kinds.proofs.FixedRows.{part_long, row_earned, minus_small}
use Rattle.kinds.proofs.FixedTables.{made_so}
use Rattle.fleets.specs.Held.{rows_of}
use Rattle.fleets.proofs.fixed.Fixed.priced.Goals as goal
use Rattle.fleets.proofs.fixed.Fixed.priced.Goals.{After-row, After-earned}

abbrev rows : After-row → Table
rows c = rows_of c.args.self.now

made : (c : After-row) → Made (rows c)
made c = made_so (rows c) c.args.self.now.made

asked : (c : After-row) → c.args.row < length c.args.self.now.nodes.now
asked c = asked_row (fixed (rows c)) c.args.row (row_prices_of c.args.prices.now) _ c.in_ok-prices_asked.ensures

priced : (c : After-row) → Priced (fixed (rows c)) (row_prices_of c.args.prices.now)
priced c = asked_priced (fixed (rows c)) c.args.row (row_prices_of c.args.prices.now) _ c.in_ok-prices_asked.ensures

-- what the row earns
earned : (c : After-earned) → c.earned.result.0 ≡ total c.args.self.now.periods (λ t. at c.args.prices.now.net.now t *ℤ fixed_at (rows_of c.args.self.now) c.args.row t)
earned c = let i = (goal.at.sub-requires c).After-row in c.earned.ensures ∙ row_earned (rows i) (made i) c.args.row c.args.prices.now.net.now c.row.result.outputs.now (asked i) c.row.ensures

pub earned-requires-clause-limits : goal.earned-requires-clause-limits
earned-requires-clause-limits c t h =
    let i = (goal.at.earned-requires-clause-limits c).After-row in
    let long = ap length c.row.ensures ∙ part_long (rows i) (made i) c.args.row (asked i) in
    (priced i).net_limit t (omega (arith, h, long))

pub sub-requires : goal.sub-requires
sub-requires c =
    let i = (goal.at.sub-requires c).After-row in
    let small = minus_small (rows i) (made i) c.args.row c.args.prices.now.net.now (asked i) (priced i).net_limit in
    omega (arith, ints, earned c)

pub returns : goal.returns
returns c = asked_floor (fixed (rows_of c.args.self.now)) c.args.row (row_prices_of c.args.prices.now) _ c.in_ok-prices_asked.ensures c.sub.result (c.sub.ensures ∙ ap (λ x. pos 0 -ℤ x) (earned (goal.at.returns c).After-earned))
