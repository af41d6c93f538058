use Rattle.std.proofs.Common.{◌≡◌, ◌+◌, ◌+ℤ◌, ◌-ℤ◌, sym, ◌∙◌, subst, arith}
use Rattle.std.proofs.lemmas.Int.{ints}
use Rattle.market.specs.Bounding.{prices_of, PeriodsFloored}
use Rattle.market.specs.Clearing.{PriceSet}
use Rattle.market.specs.Days.{Made, Numbers, numbers_of}
use Rattle.market.proofs.FloorParts.{paid_small, come_small, periods_none, periods_more}
use Rattle.market.proofs.Making.{made_of}
use Rattle.market.proofs.clearing.net_prices.Nets.periods_floor.Goals as goal
use Rattle.market.proofs.clearing.net_prices.Nets.periods_floor.Goals.{In-loop-period, After-sub}

abbrev d : In-loop-period → Numbers
d c = numbers_of c.args.self.now.lines.day.now.numbers

abbrev s : In-loop-period → PriceSet
s c = prices_of c.args.self.now.lines.prices.now

made : (c : In-loop-period) → Made (d c)
made c = made_of c.args.self.now.lines.day.now

pub loop-period-init : goal.loop-period-init
loop-period-init c = periods_none _ _

pub sub-requires : goal.sub-requires
sub-requires c =
    let i = (goal.at.sub-requires c).In-loop-period in
    let a = paid_small (d i) (s i) (made i) c.args.self.now.lines.priced c.loop-period.period c.loop-period-test.true c.args.self.now.lines.day.now.numbers.nodes (omega arith) in
    let b = come_small (d i) (s i) (made i) c.args.self.now.lines.priced c.loop-period.period c.loop-period-test.true c.args.self.now.lines.day.now.numbers.lines (omega arith) in
    omega (arith, ints, c.loads_pay.ensures, c.limits_come.ensures, (made i).shape.nodes.1, (made i).shape.lines)

-- one period more
more : (c : After-sub) → let i = (goal.at.add-all-requires c).In-loop-period in PeriodsFloored (d i) (s i) (c.loop-period.period + 1) (c.loop-period.all.0 +ℤ c.sub.result.0)
more c =
    let i = (goal.at.add-all-requires c).In-loop-period in
    periods_more (d i) (s i) (made i) c.args.self.now.lines.priced c.loop-period.period c.loop-period.all.0 c.sub.result.0 c.loop-period-test.true
    (c.sub.ensures ∙ λ j. c.loads_pay.ensures j -ℤ c.limits_come.ensures j) c.loop-period.invariant

pub add-all-requires : goal.add-all-requires
add-all-requires c =
    let i = (goal.at.add-all-requires c).In-loop-period in
    let so = more c in
    omega (arith, ints, so.small.0, so.small.1, c.loop-period-test.true, (made i).shape.periods.1)

pub loop-period-preserved : goal.loop-period-preserved
loop-period-preserved c =
    let i = (goal.at.loop-period-preserved c).In-loop-period in
    subst (PeriodsFloored (d i) (s i) (c.loop-period.period + 1)) (sym c.add-all.ensures) (more (goal.at.loop-period-preserved c).After-sub)

pub returns : goal.returns
returns c =
    let all : c.loop-period.period ≡ c.args.self.now.lines.day.now.numbers.periods = omega arith in
    subst (λ n. PeriodsFloored (numbers_of c.args.self.now.lines.day.now.numbers) (prices_of c.args.self.now.lines.prices.now) n c.loop-period.all.0) all c.loop-period.invariant
