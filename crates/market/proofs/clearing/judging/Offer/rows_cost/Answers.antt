use Rattle.std.proofs.Common.{◌≡◌, ◌+◌, ◌<◌, ◌+ℤ◌, sym, subst, arith}
use Rattle.std.proofs.lemmas.Int.{ints}
use Rattle.market.specs.Days.{numbers_of}
use Rattle.market.specs.Fleet.{Meaning}
use Rattle.market.specs.Meanings.{meaning}
use Rattle.market.specs.Judging.{plan_of}
use Rattle.market.proofs.RowsCost.{RowsSoFar, rows_more, rows_broken, rows_done, rows_small, told}
use Rattle.market.proofs.clearing.judging.Offer.rows_cost.Given as given
use Rattle.market.proofs.clearing.judging.Offer.rows_cost.Goals as goal
use Rattle.market.proofs.clearing.judging.Offer.rows_cost.Goals.{In-loop-row, In-Ok}

within : (g : given.Over) (c : In-loop-row g) → c.loop-row.row < g.F.Fleet.size c.args.self.now.fleet.now
within g c = omega (arith, c.loop-row.invariant.1)

-- the fleet's meaning
abbrev m : (g : given.Over) → In-loop-row g → Meaning
m g c = meaning g.F.Fleet c.args.self.now.fleet.now

-- one row more
more : (g : given.Over) (c : In-Ok g) → RowsSoFar (numbers_of c.args.self.now.day.now.numbers) (m g (goal.at.add-cost-requires g c).In-loop-row) (plan_of c.args.self.now.plan.now) (c.loop-row.row + 1) (c.loop-row.cost.0 +ℤ c.in-Ok.more.0)
more g c =
    let facts = g.met.F.Fleet.facts c.args.self.now.fleet.now in
    let h = within g (goal.at.add-cost-requires g c).In-loop-row in
    rows_more _ _ _ facts c.args.self.now.ready _ _ _ h c.loop-row.invariant.0 (told _ _ _ facts c.args.self.now.ready _ _ _ h c.schedule.ensures c.in-Ok.ensures)

pub add-cost-requires : goal.add-cost-requires
add-cost-requires g c = let so = more g c in omega (arith, ints, so.small.0, so.small.1, within g (goal.at.add-cost-requires g c).In-loop-row, c.args.self.now.ready.placed.some.1)

pub returns-in-Err : goal.returns-in-Err
returns-in-Err g c =
    let facts = g.met.F.Fleet.facts c.args.self.now.fleet.now in
    let h = within g (goal.at.returns-in-Err g c).In-loop-row in
    record { judged = rows_broken _ _ _ facts c.args.self.now.ready _ _ _ h c.loop-row.invariant.0 (told _ _ _ facts c.args.self.now.ready _ _ _ h c.schedule.ensures c.in-Err.ensures); small = tt }

pub loop-row-preserved : goal.loop-row-preserved
loop-row-preserved g c =
    (subst (RowsSoFar _ _ _ (c.loop-row.row + 1)) (sym c.add-cost.ensures) (more g (goal.at.loop-row-preserved g c).In-Ok), c.loop-row.invariant.1)

pub returns : goal.returns
returns g c =
    let facts = g.met.F.Fleet.facts c.args.self.now.fleet.now in
    let all : c.loop-row.row ≡ g.F.Fleet.size c.args.self.now.fleet.now = omega (arith, c.loop-row.invariant.1) in
    record {
      judged = rows_done _ _ _ facts c.args.self.now.ready c.loop-row.row c.loop-row.cost all c.loop-row.invariant.0;
      small = rows_small _ _ _ facts c.args.self.now.ready c.loop-row.row c.loop-row.cost all c.loop-row.invariant.0;
    }
