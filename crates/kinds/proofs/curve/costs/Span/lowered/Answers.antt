use Rattle.std.proofs.Common.{◌≡◌, ◌-ℤ◌, ◌≤ℤ◌, sym, ◌∙◌, subst, arith}
use Rattle.std.proofs.lemmas.Int.{ints}
use Rattle.market.specs.Scans.{Within}
use Rattle.kinds.specs.declared.curve.costs.Span.{Span}
use Rattle.kinds.specs.Curves.{Made, net_cost, highest}
use Rattle.kinds.specs.Leasts.{Least}
use Rattle.kinds.proofs.Falls.{worth_within, net_cost_within, fall_within, lowered, lowered_within, lowered_more, lowered_end, lowered_least, lowered_is}
use Rattle.kinds.proofs.CurveTests.{Asked, made_so, asked_so}
use Rattle.kinds.proofs.curve.costs.Span.lowered.Goals as goal
use Rattle.kinds.proofs.curve.costs.Span.lowered.Goals.{After-mul, After-loop-number}

made : (s : Span) → Made s.curve.now.numbers
made s = made_so s.curve.now.numbers s.curve.now.made

asked : (s : Span) → Asked s.curve.now.numbers s.value.0 s.low.0 s.high.0
asked s = asked_so s.curve.now.numbers s.value.0 s.low.0 s.high.0 s.asked

low_under : (s : Span) → s.low.0 ≤ℤ highest s.curve.now.numbers
low_under s = let a = asked s in omega (arith, ints)

pub mul-requires : goal.mul-requires
mul-requires c =
    let s = c.args.self.now in
    let w = worth_within s.curve.now.numbers (made s) s.value.0 (asked s).value s.low.0 (asked s).on (low_under s) in
    omega (arith, ints)

-- where the loop begins
start_is : (c : After-mul) → c.running_cost.result.0 -ℤ c.mul.result.0 ≡ net_cost c.args.self.now.curve.now.numbers c.args.self.now.value.0 c.args.self.now.low.0
start_is c = λ j. c.running_cost.ensures j -ℤ c.mul.ensures j

pub sub-least-requires : goal.sub-least-requires
sub-least-requires c =
    let s = c.args.self.now in
    let e = start_is c in
    let w = net_cost_within s.curve.now.numbers (made s) s.value.0 (asked s).value s.low.0 (asked s).on (low_under s) in
    omega (arith, ints)

pub add-least-requires : goal.add-least-requires
add-least-requires c =
    let s = c.args.self.now in
    let so_far : Within 4444000000000000 c.loop-number.least.0 = subst (Within 4444000000000000) (sym c.loop-number.invariant) (lowered_within s.curve.now.numbers (made s) s.value.0 (asked s).value s.low.0 s.high.0 c.loop-number.number c.loop-number.auto.number-end (asked s).on (low_under s)) in
    let w = fall_within s.curve.now.numbers (made s) s.value.0 (asked s).value s.low.0 s.high.0 c.loop-number.number c.loop-number-test.true in
    omega (arith, ints, c.fall.ensures)

pub loop-number-preserved : goal.loop-number-preserved
loop-number-preserved c =
    c.add-least.ensures ∙ lowered_more c.args.self.now.curve.now.numbers c.args.self.now.value.0 c.args.self.now.low.0 c.args.self.now.high.0 c.loop-number.number _ _ c.loop-number.invariant c.fall.ensures

-- all segments have been counted
all : (c : After-loop-number) → c.loop-number.least.0 ≡ lowered c.args.self.now.curve.now.numbers c.args.self.now.value.0 c.args.self.now.low.0 c.args.self.now.high.0
all c = lowered_end c.args.self.now.curve.now.numbers c.args.self.now.value.0 c.args.self.now.low.0 c.args.self.now.high.0 c.loop-number.number _ (omega arith) c.loop-number.invariant

pub returns : goal.returns
returns c =
    let s = c.args.self.now in
    let a = asked s in
    record {
      told = λ j. record { 0 = (all c ∙ lowered_is s.curve.now.numbers (made s) s.value.0 s.low.0 s.high.0 a.on a.range a.under) j };
      least = subst (Least s.low.0 s.high.0 (net_cost s.curve.now.numbers s.value.0)) (sym (all c)) (lowered_least s.curve.now.numbers (made s) s.value.0 s.low.0 s.high.0 a.on a.range a.under);
    }
