use Rattle.std.proofs.Common.{◌≡◌, ℤ, ◌+◌, ◌*◌, pos, ◌+ℤ◌, ◌-ℤ◌, ◌*ℤ◌, ap, ◌∙◌, arith}
use Rattle.std.proofs.lemmas.Int.{ints}
use Rattle.market.specs.Bounding.{prices_of, comes}
use Rattle.market.specs.Clearing.{PriceSet}
use Rattle.market.specs.Days.{Made, Numbers, numbers_of}
use Rattle.market.specs.Scans.{at, Within}
use Rattle.market.specs.Totals.{total}
use Rattle.market.proofs.FloorParts.{apart, upper_worth, lower_worth, come_small, comes_more}
use Rattle.market.proofs.Making.{made_of}
use Rattle.market.proofs.NetPrices.{cell_below}
use Rattle.market.proofs.clearing.net_prices.LinePrices.limits_come.Goals as goal
use Rattle.market.proofs.clearing.net_prices.LinePrices.limits_come.Goals.{In-loop-line, After-measured-in-loop-line, After-measured-in-loop-line-3, After-mul-lower}

abbrev d : In-loop-line → Numbers
d c = numbers_of c.args.self.now.day.now.numbers

abbrev s : In-loop-line → PriceSet
s c = prices_of c.args.self.now.prices.now

made : (c : In-loop-line) → Made (d c)
made c = made_of c.args.self.now.day.now

pub measured-requires : goal.measured-requires
measured-requires c =
    let i = (goal.at.measured-requires c).In-loop-line in
    cell_below (d i) (s i) (made i) c.args.self.now.priced c.args.period c.loop-line.line _ c.args.self.now.priced.upper_cells c.requires c.loop-line-test.true

pub measured-requires-in-loop-line-2 : goal.measured-requires-in-loop-line-2
measured-requires-in-loop-line-2 c =
    let i = (goal.at.measured-requires-in-loop-line-2 c).In-loop-line in
    cell_below (d i) (s i) (made i) c.args.self.now.priced c.args.period c.loop-line.line _ c.args.self.now.priced.lower_cells c.requires c.loop-line-test.true

-- a limit at its price, as it is worked out and by its cells
factors : {a b m p l : ℤ} → a ≡ pos 1000 *ℤ m → m ≡ p → b ≡ l → a *ℤ b ≡ (pos 1000 *ℤ p) *ℤ l
factors e f g = λ j. (e ∙ ap (λ z. pos 1000 *ℤ z) f) j *ℤ g j

-- the two limits, each at its price
upper_factors : (c : After-measured-in-loop-line) → c.net.result.0 *ℤ c.measured-in-loop-line.result.0 ≡ (pos 1000 *ℤ at c.args.self.now.prices.now.upper.now (c.loop-line.line * c.args.self.now.day.now.numbers.periods + c.args.period)) *ℤ at c.args.self.now.day.now.numbers.upper.now c.loop-line.line
upper_factors c = factors c.net.ensures (c.measured.ensures (pos 0)) (c.measured-in-loop-line.ensures (pos 0))

lower_factors : (c : After-measured-in-loop-line-3) → c.net-in-loop-line.result.0 *ℤ c.measured-in-loop-line-3.result.0 ≡ (pos 1000 *ℤ at c.args.self.now.prices.now.lower.now (c.loop-line.line * c.args.self.now.day.now.numbers.periods + c.args.period)) *ℤ at c.args.self.now.day.now.numbers.lower.now c.loop-line.line
lower_factors c = factors c.net-in-loop-line.ensures (c.measured-in-loop-line-2.ensures (pos 0)) (c.measured-in-loop-line-3.ensures (pos 0))

upper_is : (c : After-mul-lower) → c.mul-upper.result.0 ≡ (pos 1000 *ℤ at c.args.self.now.prices.now.upper.now (c.loop-line.line * c.args.self.now.day.now.numbers.periods + c.args.period)) *ℤ at c.args.self.now.day.now.numbers.upper.now c.loop-line.line
upper_is c = c.mul-upper.ensures ∙ upper_factors (goal.at.sub-requires c).After-measured-in-loop-line

lower_is : (c : After-mul-lower) → c.mul-lower.result.0 ≡ (pos 1000 *ℤ at c.args.self.now.prices.now.lower.now (c.loop-line.line * c.args.self.now.day.now.numbers.periods + c.args.period)) *ℤ at c.args.self.now.day.now.numbers.lower.now c.loop-line.line
lower_is c = c.mul-lower.ensures ∙ lower_factors (goal.at.sub-requires c).After-measured-in-loop-line-3

pub mul-upper-requires : goal.mul-upper-requires
mul-upper-requires c =
    let i = (goal.at.mul-upper-requires c).In-loop-line in
    let b : Within 200000000000000 (c.net.result.0 *ℤ c.measured-in-loop-line.result.0) =
    upper_worth (d i) (s i) (made i) c.args.self.now.priced c.args.period c.requires c.loop-line.line c.loop-line-test.true _ (upper_factors c) in
    omega (arith, ints)

pub mul-lower-requires : goal.mul-lower-requires
mul-lower-requires c =
    let i = (goal.at.mul-lower-requires c).In-loop-line in
    let b : Within 200000000000000 (c.net-in-loop-line.result.0 *ℤ c.measured-in-loop-line-3.result.0) =
    lower_worth (d i) (s i) (made i) c.args.self.now.priced c.args.period c.requires c.loop-line.line c.loop-line-test.true _ (lower_factors c) in
    omega (arith, ints)

apart_small : (c : After-mul-lower) → Within 400000000000000 (c.mul-upper.result.0 -ℤ c.mul-lower.result.0)
apart_small c =
    let i = (goal.at.sub-requires c).In-loop-line in
    apart _ _ (upper_worth (d i) (s i) (made i) c.args.self.now.priced c.args.period c.requires c.loop-line.line c.loop-line-test.true _ (upper_is c))
    (lower_worth (d i) (s i) (made i) c.args.self.now.priced c.args.period c.requires c.loop-line.line c.loop-line-test.true _ (lower_is c))

pub sub-requires : goal.sub-requires
sub-requires c = let b = apart_small c in omega (arith, ints)

pub add-all-requires : goal.add-all-requires
add-all-requires c =
    let i = (goal.at.add-all-requires c).In-loop-line in
    let a = come_small (d i) (s i) (made i) c.args.self.now.priced c.args.period c.requires c.loop-line.line (omega (arith, c.loop-line-test.true)) in
    let b = apart_small (goal.at.add-all-requires c).After-mul-lower in
    omega (arith, ints, c.loop-line.invariant, c.sub.ensures, (made i).shape.lines)

pub loop-line-preserved : goal.loop-line-preserved
loop-line-preserved c =
    let i = (goal.at.loop-line-preserved c).In-loop-line in
    let m = (goal.at.loop-line-preserved c).After-mul-lower in
    c.add-all.ensures ∙ ap (λ z. c.loop-line.all.0 +ℤ z) c.sub.ensures
    ∙ comes_more (d i) (s i) (made i) c.args.self.now.priced c.args.period c.requires c.loop-line.line c.mul-upper.result.0 c.mul-lower.result.0 c.loop-line.all.0 c.loop-line.invariant (upper_is m) (lower_is m)

pub returns : goal.returns
returns c =
    let all : c.loop-line.line ≡ c.args.self.now.day.now.numbers.lines = omega arith in
    c.loop-line.invariant ∙ ap (λ n. pos 1000 *ℤ total n (comes (numbers_of c.args.self.now.day.now.numbers) (prices_of c.args.self.now.prices.now) c.args.period)) all
