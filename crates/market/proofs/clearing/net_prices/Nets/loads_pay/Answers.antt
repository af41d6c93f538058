use Rattle.std.proofs.Common.{◌≡◌, pos, ◌+ℤ◌, ◌*ℤ◌, sym, ap, ◌∙◌, arith}
use Rattle.std.proofs.lemmas.Nat.{mul-le}
use Rattle.std.proofs.lemmas.Int.{ints}
use Rattle.market.specs.Bounding.{prices_of, pays}
use Rattle.market.specs.Clearing.{PriceSet}
use Rattle.market.specs.Days.{Made, Numbers, numbers_of}
use Rattle.market.specs.Totals.{total}
use Rattle.market.proofs.Cells.{place_below}
use Rattle.market.proofs.FloorParts.{load_cell, pays_small, paid_small, net_cell}
use Rattle.market.proofs.Making.{made_of}
use Rattle.market.proofs.Totals.{total_more}
use Rattle.market.proofs.clearing.net_prices.Nets.loads_pay.Goals as goal
use Rattle.market.proofs.clearing.net_prices.Nets.loads_pay.Goals.{In-loop-node, After-mul}

abbrev d : In-loop-node → Numbers
d c = numbers_of c.args.self.now.lines.day.now.numbers

abbrev s : In-loop-node → PriceSet
s c = prices_of c.args.self.now.lines.prices.now

made : (c : In-loop-node) → Made (d c)
made c = made_of c.args.self.now.lines.day.now

pub measured-net-requires : goal.measured-net-requires
measured-net-requires c =
    let i = (goal.at.measured-net-requires c).In-loop-node in
    omega (
      arith,
      c.args.self.now.netted.long,
      place_below c.loop-node.node c.args.self.now.lines.day.now.numbers.nodes c.args.self.now.lines.day.now.numbers.periods c.args.period (omega (arith, c.loop-node.invariant.1)) c.requires,
      mul-le c.args.self.now.lines.day.now.numbers.nodes c.args.self.now.lines.day.now.numbers.periods 16 96 (made i).shape.nodes.1 (made i).shape.periods.1,
    )

pub measured-load-requires : goal.measured-load-requires
measured-load-requires c =
    let i = (goal.at.measured-load-requires c).In-loop-node in
    load_cell (d i) (s i) (made i) c.args.self.now.lines.priced c.args.period c.requires c.loop-node.node (omega (arith, c.loop-node.invariant.1))

pub mul-requires : goal.mul-requires
mul-requires c =
    let i = (goal.at.mul-requires c).In-loop-node in
    let b = pays_small (d i) (s i) (made i) c.args.self.now.lines.priced c.args.period c.requires c.loop-node.node (omega (arith, c.loop-node.invariant.1)) in
    let n = c.measured-net.ensures (pos 0) ∙ net_cell (d i) (s i) (made i) c.args.self.now.lines.priced c.args.period c.requires c.args.self.now.cells c.args.self.now.netted c.loop-node.node (omega (arith, c.loop-node.invariant.1)) in
    let e : c.measured-net.result.0 *ℤ c.measured-load.result.0 ≡ pays (d i) (s i) c.args.period c.loop-node.node = λ j. n j *ℤ c.measured-load.ensures (pos 0) j in
    omega (arith, ints)

-- what the node pays
paid_is : (c : After-mul) → let i = (goal.at.add-paid-requires c).In-loop-node in c.mul.result.0 ≡ pays (d i) (s i) c.args.period c.loop-node.node
paid_is c =
    let i = (goal.at.add-paid-requires c).In-loop-node in
    let n = c.measured-net.ensures (pos 0) ∙ net_cell (d i) (s i) (made i) c.args.self.now.lines.priced c.args.period c.requires c.args.self.now.cells c.args.self.now.netted c.loop-node.node (omega (arith, c.loop-node.invariant.1)) in
    c.mul.ensures ∙ (λ j. n j *ℤ c.measured-load.ensures (pos 0) j)

pub add-paid-requires : goal.add-paid-requires
add-paid-requires c =
    let i = (goal.at.add-paid-requires c).In-loop-node in
    let a = paid_small (d i) (s i) (made i) c.args.self.now.lines.priced c.args.period c.requires c.loop-node.node (omega arith) in
    let b = pays_small (d i) (s i) (made i) c.args.self.now.lines.priced c.args.period c.requires c.loop-node.node (omega (arith, c.loop-node.invariant.1)) in
    omega (arith, ints, paid_is c, c.loop-node.invariant.0, (made i).shape.nodes.1)

pub loop-node-preserved : goal.loop-node-preserved
loop-node-preserved c =
    let i = (goal.at.loop-node-preserved c).In-loop-node in (
      c.add-paid.ensures ∙ (λ j. c.loop-node.invariant.0 j +ℤ paid_is (goal.at.loop-node-preserved c).After-mul j)
          ∙ sym (total_more c.loop-node.node (pays (d i) (s i) c.args.period)),
      c.loop-node.invariant.1,
    )

pub returns : goal.returns
returns c =
    let all : c.loop-node.node ≡ c.args.self.now.lines.day.now.numbers.nodes = omega (arith, c.loop-node.invariant.1) in
    c.loop-node.invariant.0 ∙ ap (λ n. total n (pays (numbers_of c.args.self.now.lines.day.now.numbers) (prices_of c.args.self.now.lines.prices.now) c.args.period)) all
