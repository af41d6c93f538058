use Rattle.std.proofs.Common.{◌≡◌, ◌/◌, ◌%◌, ◌<◌, ◌∙◌, arith, length-set, w64, to_z, of_z}
use Rattle.std.proofs.lemmas.Nat.{div_below, mod_below, mul-le}
use Rattle.std.proofs.lemmas.Int.{ints}
use Rattle.market.specs.Bounding.{prices_of}
use Rattle.market.specs.Clearing.{net_price}
use Rattle.market.specs.Days.{Made, numbers_of}
use Rattle.market.proofs.Cells.{set_more}
use Rattle.market.proofs.Making.{made_of}
use Rattle.market.proofs.NetPrices.{net_before_small}
use Rattle.market.proofs.clearing.net_prices.LinePrices.nets.Goals as goal
use Rattle.market.proofs.clearing.net_prices.LinePrices.nets.Goals.{In-loop-cell}

made : (c : In-loop-cell) → Made (numbers_of c.args.self.day.now.numbers)
made c = made_of c.args.self.day.now

node_in : (c : In-loop-cell) → c.loop-cell.cell / c.args.self.day.now.numbers.periods < c.args.self.day.now.numbers.nodes
node_in c = div_below c.loop-cell.cell c.args.self.day.now.numbers.periods c.args.self.day.now.numbers.nodes (made c).shape.periods.0 c.loop-cell-test.true

period_in : (c : In-loop-cell) → c.loop-cell.cell % c.args.self.day.now.numbers.periods < c.args.self.day.now.numbers.periods
period_in c = mod_below c.loop-cell.cell c.args.self.day.now.numbers.periods (made c).shape.periods.0

cell_in : (c : In-loop-cell) → c.loop-cell.cell < 1536
cell_in c = omega (arith, c.loop-cell-test.true, mul-le c.args.self.day.now.numbers.nodes c.args.self.day.now.numbers.periods 16 96 (made c).shape.nodes.1 (made c).shape.periods.1)

pub net_price-requires : goal.net_price-requires
net_price-requires c = let i = (goal.at.net_price-requires c).In-loop-cell in (node_in i, period_in i)

pub bounds-cells-cell : goal.bounds-cells-cell
bounds-cells-cell c = cell_in (goal.at.bounds-cells-cell c).In-loop-cell

pub loop-cell-preserved : goal.loop-cell-preserved
loop-cell-preserved c =
    let i = (goal.at.loop-cell-preserved c).In-loop-cell in
    let d = numbers_of c.args.self.day.now.numbers in
    let s = prices_of c.args.self.prices.now in
    let small = net_before_small d s (made i) c.args.self.priced _ _ c.args.self.day.now.numbers.lines (node_in i) (period_in i) (omega arith) in
    let same : to_z w64 (of_z w64 c.net_price.result.0) ≡ net_price d s (c.loop-cell.cell / c.args.self.day.now.numbers.periods) (c.loop-cell.cell % c.args.self.day.now.numbers.periods) = omega (arith, ints, c.net_price.ensures) in (
      length-set _ _ _ ∙ c.loop-cell.invariant.0,
      set_more (λ k z. z ≡ net_price d s (k / c.args.self.day.now.numbers.periods) (k % c.args.self.day.now.numbers.periods)) _ _ _ (omega (arith, c.loop-cell.invariant.0, cell_in i)) c.loop-cell.invariant.1 same,
    )

pub invariant_of-result : goal.invariant_of-result
invariant_of-result c = record { netted = record { long = c.loop-cell.invariant.0; told = λ i h. c.loop-cell.invariant.1 i (omega arith) } }
