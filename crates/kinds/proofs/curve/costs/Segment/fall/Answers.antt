use Rattle.std.proofs.Common.{◌≡◌, pos, ◌-ℤ◌, ◌*ℤ◌, ap, ◌∙◌, arith}
use Rattle.std.specs.Int.{int_min}
use Rattle.std.proofs.lemmas.Int.{ints}
use Rattle.market.specs.Scans.{Within}
use Rattle.kinds.specs.declared.curve.costs.Span.{Span}
use Rattle.kinds.specs.Curves.{Made, price, below, fall}
use Rattle.kinds.proofs.Falls.{fall_whole_within}
use Rattle.kinds.proofs.Fitting.{smaller_is}
use Rattle.kinds.proofs.CurveTests.{made_so, asked_so}
use Rattle.kinds.proofs.Segments.{below_small, net_within}
use Rattle.kinds.proofs.curve.costs.Segment.fall.Goals as goal
use Rattle.kinds.proofs.curve.costs.Segment.fall.Goals.{After-below-2, After-sub}

made : (c : After-below-2) → Made c.args.self.now.curve.now.numbers
made c = made_so c.args.self.now.curve.now.numbers c.args.self.now.curve.now.made

worth_small : (s : Span) → Within 20000000000 s.value.0
worth_small s = (asked_so s.curve.now.numbers s.value.0 s.low.0 s.high.0 s.asked).value

pub sub-requires : goal.sub-requires
sub-requires c =
    let a = below_small c.args.self.now.curve.now.numbers (made c) c.args.self.now.number c.args.span.now.low.0 c.args.self.now.within in
    let b = below_small c.args.self.now.curve.now.numbers (made c) c.args.self.now.number c.args.span.now.high.0 c.args.self.now.within in
    omega (arith, ints, c.below.ensures, c.below-2.ensures)

pub sub-slope-requires : goal.sub-slope-requires
sub-slope-requires c =
    let m = made_so c.args.self.now.curve.now.numbers c.args.self.now.curve.now.made in
    let value = worth_small c.args.span.now in
    let w = net_within c.args.self.now.curve.now.numbers m c.args.self.now.number c.args.self.now.within in
    omega (arith, ints, c.net_price.ensures, value.0, value.1)

-- the product is the slope on the part from low to high
product_is : (c : After-sub) → c.sub-slope.result.0 *ℤ c.sub.result.0
    ≡ (pos 1000 *ℤ price c.args.self.now.curve.now.numbers c.args.self.now.number -ℤ c.args.span.now.value.0) *ℤ (below c.args.self.now.curve.now.numbers c.args.self.now.number c.args.span.now.high.0 -ℤ below c.args.self.now.curve.now.numbers c.args.self.now.number c.args.span.now.low.0)
product_is c = λ j. (c.sub-slope.ensures ∙ λ k. c.net_price.ensures k -ℤ c.args.span.now.value.0) j *ℤ (c.sub.ensures ∙ λ k. c.below.ensures k -ℤ c.below-2.ensures k) j

small : (c : After-sub) → Within 404000000000000 ((pos 1000 *ℤ price c.args.self.now.curve.now.numbers c.args.self.now.number -ℤ c.args.span.now.value.0) *ℤ (below c.args.self.now.curve.now.numbers c.args.self.now.number c.args.span.now.high.0 -ℤ below c.args.self.now.curve.now.numbers c.args.self.now.number c.args.span.now.low.0))
small c = fall_whole_within c.args.self.now.curve.now.numbers (made (goal.at.mul-taken-requires c).After-below-2) c.args.span.now.value.0 (worth_small c.args.span.now) c.args.span.now.low.0 c.args.span.now.high.0 c.args.self.now.number c.args.self.now.within

pub mul-taken-requires : goal.mul-taken-requires
mul-taken-requires c = let e = product_is c in let w = small c in omega (arith, ints)

pub returns : goal.returns
unfolding fall
returns c = smaller_is _ c.mul-taken.result _ c.min.ensures ∙ ap (int_min (pos 0)) (c.mul-taken.ensures ∙ product_is (goal.at.returns c).After-sub)
