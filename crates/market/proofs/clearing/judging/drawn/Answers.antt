use Rattle.std.proofs.Common.{◌≡◌, ◌+◌, ◌*◌, ◌<◌, length, pos, ◌-ℤ◌, ◌∙◌, arith, length-set}
use Rattle.std.proofs.lemmas.Int.{ints}
use Rattle.market.specs.Clearing.{load}
use Rattle.market.specs.Days.{Made, numbers_of}
use Rattle.market.specs.Scans.{Within}
use Rattle.market.proofs.Cells.{place_below, set_more}
use Rattle.market.proofs.Making.{made_of}
use Rattle.market.proofs.clearing.judging.drawn.Goals as goal
use Rattle.market.proofs.clearing.judging.drawn.Goals.{In-loop-node}

made : (c : In-loop-node) → Made (numbers_of c.args.day.now.numbers)
made c = made_of c.args.day.now

inside : (c : In-loop-node) → c.loop-node.node * c.args.day.now.numbers.periods + c.args.period < length c.args.day.now.numbers.loads.now
inside c =
    let e = place_below c.loop-node.node c.args.day.now.numbers.nodes c.args.day.now.numbers.periods c.args.period c.loop-node-test.true c.requires in
    omega (arith, (made c).lengths.loads)

small : (c : In-loop-node) → Within 40000 (load (numbers_of c.args.day.now.numbers) c.loop-node.node c.args.period)
small c = (made c).loads _ (inside c)

pub bounds-day-node : goal.bounds-day-node
bounds-day-node c = inside (goal.at.bounds-day-node c).In-loop-node

pub overflow_sub-fed : goal.overflow_sub-fed
overflow_sub-fed c = let s = small (goal.at.overflow_sub-fed c).In-loop-node in omega (arith, ints)

pub loop-node-preserved : goal.loop-node-preserved
loop-node-preserved c =
    let s = small (goal.at.loop-node-preserved c).In-loop-node in (
      length-set _ _ _ ∙ c.loop-node.invariant.0,
      set_more (λ k z. z ≡ pos 0 -ℤ load (numbers_of c.args.day.now.numbers) k c.args.period) _ _ _ (omega (arith, c.loop-node.invariant.0, (made (goal.at.loop-node-preserved c).In-loop-node).shape.nodes.1)) c.loop-node.invariant.1 (omega (arith, ints)),
    )
