use Rattle.std.proofs.Common.{◌≡◌, ◌+◌, ◌*◌, ◌<◌, set, ◌+ℤ◌, sym, ◌∙◌, subst, arith, length-set, w32, to_z, of_z}
use Rattle.std.proofs.lemmas.Int.{ints}
use Rattle.market.specs.Days.{Made, numbers_of}
use Rattle.market.specs.Fleet.{Meaning}
use Rattle.market.specs.Injections.{Fed}
use Rattle.market.specs.Scans.{Within, at}
use Rattle.market.specs.Meanings.{meaning}
use Rattle.market.specs.Judging.{plan_of}
use Rattle.market.proofs.Gathering.{node_is, fed_more, output_small, fed_small, cell_inside}
use Rattle.market.proofs.Making.{made_of}
use Rattle.market.proofs.clearing.judging.Offer.gathered.Given as given
use Rattle.market.proofs.clearing.judging.Offer.gathered.Goals as goal
use Rattle.market.proofs.clearing.judging.Offer.gathered.Goals.{In-Ok}

abbrev m : (g : given.Over) → In-Ok g → Meaning
m g c = meaning g.F.Fleet c.args.self.now.fleet.now

made : (g : given.Over) (c : In-Ok g) → Made (numbers_of c.args.self.now.day.now.numbers)
made g c = made_of c.args.self.now.day.now

row_in : (g : given.Over) (c : In-Ok g) → c.loop-row.row < g.F.Fleet.size c.args.self.now.fleet.now
row_in g c = omega (arith, c.loop-row.invariant.2)

-- the row's node is one of the day's
is_node : (g : given.Over) (c : In-Ok g) → c.in-Ok.node ≡ g.F.Fleet.node c.args.self.now.fleet.now c.loop-row.row
is_node g c = node_is (m g c) c.loop-row.row c.in-Ok.node (row_in g c) c.in-Ok.ensures

node_in : (g : given.Over) (c : In-Ok g) → c.in-Ok.node < c.args.self.now.day.now.numbers.nodes
node_in g c = omega (arith, is_node g c, c.args.self.now.ready.placed.nodes c.loop-row.row (row_in g c))

node_small : (g : given.Over) (c : In-Ok g) → c.in-Ok.node < 16
node_small g c = omega (arith, node_in g c, (made g c).shape.nodes.1)

fed_now : (g : given.Over) (c : In-Ok g) → Within 680000 (at c.loop-row.fed c.in-Ok.node)
fed_now g c = fed_small (numbers_of c.args.self.now.day.now.numbers) (m g c) (plan_of c.args.self.now.plan.now) (g.met.F.Fleet.facts c.args.self.now.fleet.now) (made g c) c.args.self.now.ready c.requires.kept c.args.period c.requires.on c.loop-row.row c.loop-row.fed (omega (arith, row_in g c)) c.loop-row.invariant.1 c.in-Ok.node (node_in g c)

output_now : (g : given.Over) (c : In-Ok g) → Within 20000 (at c.args.self.now.plan.now.outputs.now (c.loop-row.row * c.args.self.now.day.now.numbers.periods + c.args.period))
output_now g c = output_small (numbers_of c.args.self.now.day.now.numbers) (m g c) (plan_of c.args.self.now.plan.now) (g.met.F.Fleet.facts c.args.self.now.fleet.now) (made g c) c.args.self.now.ready c.requires.kept c.args.period c.requires.on c.loop-row.row (row_in g c)

pub bounds-self-row : goal.bounds-self-row
bounds-self-row g c =
    let i = (goal.at.bounds-self-row g c).In-Ok in
    cell_inside (numbers_of c.args.self.now.day.now.numbers) (m g i) (plan_of c.args.self.now.plan.now) (g.met.F.Fleet.facts c.args.self.now.fleet.now) (made g i) c.args.self.now.ready c.requires.kept c.args.period c.requires.on c.loop-row.row (row_in g i)

pub overflow_add-fed-in-loop-row : goal.overflow_add-fed-in-loop-row
overflow_add-fed-in-loop-row g c =
    let a = fed_now g (goal.at.overflow_add-fed-in-loop-row g c).In-Ok in
    let b = output_now g (goal.at.overflow_add-fed-in-loop-row g c).In-Ok in
    omega (arith, ints)

pub offset_bounds-fed-node : goal.offset_bounds-fed-node
offset_bounds-fed-node g c = omega (arith, node_small g (goal.at.offset_bounds-fed-node g c).In-Ok)

pub bounds-fed-node : goal.bounds-fed-node
bounds-fed-node g c = omega (arith, node_small g (goal.at.bounds-fed-node g c).In-Ok)

pub loop-row-preserved : goal.loop-row-preserved
loop-row-preserved g c =
    let i = (goal.at.loop-row-preserved g c).In-Ok in
    let a = fed_now g i in
    let b = output_now g i in
    let fed = c.loop-row.fed in
    let o = at c.args.self.now.plan.now.outputs.now (c.loop-row.row * c.args.self.now.day.now.numbers.periods + c.args.period) in
    let written : to_z w32 (of_z w32 (to_z w32 (of_z w32 (at fed c.in-Ok.node)) +ℤ to_z w32 (of_z w32 o))) ≡ at fed c.in-Ok.node +ℤ o = omega (arith, ints) in (
      length-set _ _ _ ∙ c.loop-row.invariant.0,
      subst (λ v. Fed (numbers_of c.args.self.now.day.now.numbers) (m g i) (plan_of c.args.self.now.plan.now) c.args.period (c.loop-row.row + 1) (set fed c.in-Ok.node v)) (sym written)
          (fed_more (numbers_of c.args.self.now.day.now.numbers) (m g i) (plan_of c.args.self.now.plan.now) c.args.period c.loop-row.row c.in-Ok.node fed (is_node g i) (omega (arith, c.loop-row.invariant.0, node_small g i)) (node_in g i) c.loop-row.invariant.1),
      c.loop-row.invariant.2,
    )
