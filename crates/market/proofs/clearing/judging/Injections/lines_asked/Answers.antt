use Rattle.std.proofs.Common.{◌≡◌, pos, ◌*ℤ◌, ap, ◌∙◌, arith, below_more, lit≤}
use Rattle.market.specs.Days.{Made, numbers_of}
use Rattle.market.specs.Injections.{over, under}
use Rattle.market.specs.Scans.{at}
use Rattle.market.proofs.Ints.{reread}
use Rattle.market.proofs.Making.{made_of}
use Rattle.market.proofs.Scanning.{less_told, at_most_told}
use Rattle.market.proofs.clearing.judging.Injections.lines_asked.Goals as goal
use Rattle.market.proofs.clearing.judging.Injections.lines_asked.Goals.{After-flow-lower}

made : (c : After-flow-lower) → Made (numbers_of c.args.self.now.day.now.numbers)
made c = made_of c.args.self.now.day.now

-- the limits in thousandths
uppermost : (c : After-flow-lower) → c.flow-upper.result.0 ≡ pos 1000 *ℤ at c.args.self.now.day.now.numbers.upper.now c.loop-line.line
uppermost c = c.flow-upper.ensures ∙ ap (λ z. pos 1000 *ℤ z) (reread 200000 _ (lit≤ tt) ((made c).upper _ (omega (arith, c.loop-line-test.true, (made c).lengths.upper))))

lowest : (c : After-flow-lower) → c.flow-lower.result.0 ≡ pos 1000 *ℤ at c.args.self.now.day.now.numbers.lower.now c.loop-line.line
lowest c = c.flow-lower.ensures ∙ ap (λ z. pos 1000 *ℤ z) (reread 200000 _ (lit≤ tt) ((made c).lower _ (omega (arith, c.loop-line-test.true, (made c).lengths.lower))))

pub returns-then-exceeds : goal.returns-then-exceeds
returns-then-exceeds c =
    let at = (goal.at.returns-then-exceeds c).After-flow-lower in
    over c.loop-line.line c.loop-line-test.true c.loop-line.invariant
    (less_told (uppermost at) c.flow-carried.ensures c.if-exceeds.ensures)

pub returns-then-exceeds-2 : goal.returns-then-exceeds-2
returns-then-exceeds-2 c =
    let at = (goal.at.returns-then-exceeds-2 c).After-flow-lower in
    under c.loop-line.line c.loop-line-test.true c.loop-line.invariant
    (at_most_told (uppermost at) c.flow-carried.ensures c.if-exceeds.ensures)
    (less_told c.flow-carried.ensures (lowest at) c.if-exceeds-2.ensures)

pub loop-line-preserved : goal.loop-line-preserved
loop-line-preserved c =
    let at = (goal.at.loop-line-preserved c).After-flow-lower in
    below_more _ _ c.loop-line.invariant
    (at_most_told (uppermost at) c.flow-carried.ensures c.if-exceeds.ensures, at_most_told c.flow-carried.ensures (lowest at) c.if-exceeds-2.ensures)
