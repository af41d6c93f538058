use Rattle.std.proofs.Common.{◌≡◌, pos, ◌*ℤ◌, sym, ◌∙◌, subst, arith}
use Rattle.std.proofs.lemmas.Int.{ints}
use Rattle.market.specs.Scans.{Within}
use Rattle.kinds.specs.Curves.{Made, price, lowest}
use Rattle.kinds.proofs.CurveTests.{made_so}
use Rattle.kinds.proofs.Segments.{cost_of, cost_more, cost_end, cost_within, cost_to_within, first_within}
use Rattle.kinds.proofs.curve.Curve.cost_below.Goals as goal
use Rattle.kinds.proofs.curve.Curve.cost_below.Goals.{After-lowest, After-below}

made : (c : After-lowest) → Made c.args.self.now.numbers
made c = made_so c.args.self.now.numbers c.args.self.now.made

pub mul-cost-requires : goal.mul-cost-requires
mul-cost-requires c =
    let e : c.net_price.result.0 *ℤ c.lowest.result.0 ≡ (pos 1000 *ℤ price c.args.self.now.numbers 0) *ℤ lowest c.args.self.now.numbers = λ j. c.net_price.ensures j *ℤ c.lowest.ensures j in
    let w = first_within c.args.self.now.numbers (made c) in
    omega (arith, ints)

-- the product is what the segment costs
segment_is : (c : After-below) → c.net_price-in-loop-number.result.0 *ℤ c.below.result.0 ≡ cost_of c.args.self.now.numbers (made (goal.at.mul-requires c).After-lowest) c.loop-number.number c.args.output.0
segment_is c = λ j. c.net_price-in-loop-number.ensures j *ℤ c.below.ensures j

pub mul-requires : goal.mul-requires
mul-requires c =
    let e = segment_is c in
    let w = cost_within c.args.self.now.numbers (made (goal.at.mul-requires c).After-lowest) c.loop-number.number c.args.output.0 c.loop-number-test.true in
    omega (arith, ints)

pub add-cost-requires : goal.add-cost-requires
add-cost-requires c =
    let m = made (goal.at.add-cost-requires c).After-lowest in
    let e = c.mul.ensures ∙ segment_is (goal.at.add-cost-requires c).After-below in
    let w = cost_within c.args.self.now.numbers m c.loop-number.number c.args.output.0 c.loop-number-test.true in
    let so_far : Within 44000000000000 c.loop-number.cost.0 = subst (Within 44000000000000) (sym c.loop-number.invariant) (cost_to_within c.args.self.now.numbers m c.loop-number.number c.args.output.0 (omega arith)) in
    omega (arith, ints)

pub loop-number-preserved : goal.loop-number-preserved
loop-number-preserved c =
    c.add-cost.ensures
    ∙ cost_more c.args.self.now.numbers (made (goal.at.loop-number-preserved c).After-lowest) c.loop-number.number c.args.output.0 c.loop-number.cost.0 c.mul.result.0
    c.loop-number.invariant (c.mul.ensures ∙ segment_is (goal.at.loop-number-preserved c).After-below)

pub returns : goal.returns
returns c = cost_end c.args.self.now.numbers (made (goal.at.returns c).After-lowest) c.loop-number.number c.args.output.0 _ (omega arith) c.loop-number.invariant
