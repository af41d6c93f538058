use Rattle.std.proofs.Common.{◌≡◌, pos, ◌-ℤ◌, ◌*ℤ◌, ap, ◌∙◌, arith}
use Rattle.std.proofs.lemmas.Int.{ints}
use Rattle.market.specs.Bounding.{prices_of}
use Rattle.market.specs.Clearing.{PriceSet}
use Rattle.market.specs.Days.{Made, Numbers, numbers_of}
use Rattle.market.proofs.Making.{made_of}
use Rattle.market.proofs.NetPrices.{line_price, taken, net_before, net_none, net_more, cell_below, share_below, line_price_small, taken_small, net_before_small}
use Rattle.market.proofs.clearing.net_prices.LinePrices.net_price.Goals as goal
use Rattle.market.proofs.clearing.net_prices.LinePrices.net_price.Goals.{In-loop-line, After-sub, After-taken}

abbrev d : In-loop-line → Numbers
d c = numbers_of c.args.self.now.day.now.numbers

abbrev s : In-loop-line → PriceSet
s c = prices_of c.args.self.now.prices.now

made : (c : In-loop-line) → Made (d c)
made c = made_of c.args.self.now.day.now

-- the line's price, and what it takes at the node
limit_is : (c : After-sub) → c.sub.result.0 ≡ line_price (numbers_of c.args.self.now.day.now.numbers) (prices_of c.args.self.now.prices.now) c.args.period c.loop-line.line
limit_is c = c.sub.ensures ∙ (λ j. c.measured-upper.ensures (pos 0) j -ℤ c.measured-lower.ensures (pos 0) j)

pub loop-line-init : goal.loop-line-init
loop-line-init c = net_none (numbers_of c.args.self.now.day.now.numbers) (prices_of c.args.self.now.prices.now) c.args.node c.args.period _ _ c.net-net.ensures (c.measured-system.ensures (pos 0))

pub measured-upper-requires : goal.measured-upper-requires
measured-upper-requires c =
    let i = (goal.at.measured-upper-requires c).In-loop-line in
    cell_below (d i) (s i) (made i) c.args.self.now.priced c.args.period c.loop-line.line _ c.args.self.now.priced.upper_cells c.requires.1 c.loop-line-test.true

pub measured-lower-requires : goal.measured-lower-requires
measured-lower-requires c =
    let i = (goal.at.measured-lower-requires c).In-loop-line in
    cell_below (d i) (s i) (made i) c.args.self.now.priced c.args.period c.loop-line.line _ c.args.self.now.priced.lower_cells c.requires.1 c.loop-line-test.true

pub sub-requires : goal.sub-requires
sub-requires c =
    let i = (goal.at.sub-requires c).In-loop-line in
    let b = line_price_small (d i) (s i) (made i) c.args.self.now.priced c.args.period c.loop-line.line c.requires.1 c.loop-line-test.true in
    omega (arith, ints, c.measured-upper.ensures (pos 0), c.measured-lower.ensures (pos 0))

pub measured-share-requires : goal.measured-share-requires
measured-share-requires c =
    let i = (goal.at.measured-share-requires c).In-loop-line in
    share_below (d i) (s i) (made i) c.args.self.now.priced c.args.node c.loop-line.line c.requires.0 c.loop-line-test.true

pub taken-requires : goal.taken-requires
taken-requires c =
    let i = (goal.at.taken-requires c).In-loop-line in
    let b = taken_small (d i) (s i) (made i) c.args.self.now.priced c.args.node c.args.period c.loop-line.line c.requires.0 c.requires.1 c.loop-line-test.true in
    let e : c.sub.result.0 *ℤ c.measured-share.result.0 ≡ taken (d i) (s i) c.args.node c.args.period c.loop-line.line = λ j. limit_is (goal.at.taken-requires c).After-sub j *ℤ c.measured-share.ensures (pos 0) j in
    omega (arith, ints)

taken_is : (c : After-taken) → c.taken.result.0 ≡ taken (numbers_of c.args.self.now.day.now.numbers) (prices_of c.args.self.now.prices.now) c.args.node c.args.period c.loop-line.line
taken_is c = c.taken.ensures ∙ (λ j. limit_is (goal.at.sub-net-requires c).After-sub j *ℤ c.measured-share.ensures (pos 0) j)

pub sub-net-requires : goal.sub-net-requires
sub-net-requires c =
    let i = (goal.at.sub-net-requires c).In-loop-line in
    let a = net_before_small (d i) (s i) (made i) c.args.self.now.priced c.args.node c.args.period c.loop-line.line c.requires.0 c.requires.1 (omega (arith, c.loop-line-test.true)) in
    let b = taken_small (d i) (s i) (made i) c.args.self.now.priced c.args.node c.args.period c.loop-line.line c.requires.0 c.requires.1 c.loop-line-test.true in
    omega (arith, ints, taken_is c, c.loop-line.invariant)

pub loop-line-preserved : goal.loop-line-preserved
loop-line-preserved c =
    let i = (goal.at.loop-line-preserved c).In-loop-line in
    c.sub-net.ensures ∙ (λ j. c.loop-line.net.0 -ℤ taken_is (goal.at.loop-line-preserved c).After-taken j) ∙ net_more (d i) (s i) c.args.node c.args.period c.loop-line.line c.loop-line.net.0 c.loop-line.invariant

pub returns : goal.returns
returns c =
    let all : c.loop-line.line ≡ c.args.self.now.day.now.numbers.lines = omega arith in
    c.loop-line.invariant ∙ ap (net_before (numbers_of c.args.self.now.day.now.numbers) (prices_of c.args.self.now.prices.now) c.args.node c.args.period) all
