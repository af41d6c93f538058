use Rattle.std.proofs.Common.{◌≡◌, ◌+◌, ◌*◌, ◌<◌, ◌≤◌, ◌+ℤ◌, Ok, sym, subst, arith}
use Rattle.std.proofs.lemmas.Nat.{mul-le}
use Rattle.std.proofs.lemmas.Int.{ints}
use Rattle.market.specs.Bounding.{prices_of, RowsFloored}
use Rattle.market.specs.Clearing.{PriceSet}
use Rattle.market.specs.Days.{Made, Numbers, numbers_of}
use Rattle.market.specs.Fleet.{Meaning}
use Rattle.market.specs.Meanings.{meaning}
use Rattle.market.proofs.FloorParts.{rows_none, rows_more, floor_told, not_ok}
use Rattle.market.proofs.Gathering.{node_is}
use Rattle.market.proofs.Making.{made_of}
use Rattle.market.proofs.RowsCost.{part_ends}
use Rattle.market.proofs.clearing.net_prices.bounding.Offer.rows_floor.Given as given
use Rattle.market.proofs.clearing.net_prices.bounding.Offer.rows_floor.Goals as goal
use Rattle.market.proofs.clearing.net_prices.bounding.Offer.rows_floor.Goals.{In-Ok, In-Ok-floor}

abbrev d : (g : given.Over) → In-Ok g → Numbers
d g c = numbers_of c.args.self.now.day.now.numbers

abbrev m : (g : given.Over) → In-Ok g → Meaning
m g c = meaning g.F.Fleet c.args.self.now.fleet.now

abbrev s : (g : given.Over) → In-Ok g → PriceSet
s g c = prices_of c.args.self.now.prices.now

made : (g : given.Over) (c : In-Ok g) → Made (d g c)
made g c = made_of c.args.self.now.day.now

row_in : (g : given.Over) (c : In-Ok g) → c.loop-row.row < g.F.Fleet.size c.args.self.now.fleet.now
row_in g c = omega (arith, c.loop-row.invariant.1)

-- the row's node is one of the day's, and its part of the net prices lies within them
is_node : (g : given.Over) (c : In-Ok g) → c.in-Ok.node ≡ g.F.Fleet.node c.args.self.now.fleet.now c.loop-row.row
is_node g c = node_is (m g c) c.loop-row.row c.in-Ok.node (row_in g c) c.in-Ok.ensures

here_within : (g : given.Over) (c : In-Ok g) → c.in-Ok.node * c.args.self.now.day.now.numbers.periods + c.args.self.now.day.now.numbers.periods ≤ 1536
here_within g c =
    let n = (made g c).shape in
    let k : c.in-Ok.node < c.args.self.now.day.now.numbers.nodes = omega (arith, is_node g c, c.args.self.now.ready.placed.nodes c.loop-row.row (row_in g c)) in
    omega (arith, part_ends c.in-Ok.node c.args.self.now.day.now.numbers.periods c.args.self.now.day.now.numbers.nodes k, mul-le c.args.self.now.day.now.numbers.nodes c.args.self.now.day.now.numbers.periods 16 96 n.nodes.1 n.periods.1)

row_ends : (g : given.Over) (c : In-Ok g) → c.loop-row.row * c.args.self.now.day.now.numbers.periods + c.args.self.now.day.now.numbers.periods ≤ g.F.Fleet.size c.args.self.now.fleet.now * c.args.self.now.day.now.numbers.periods
row_ends g c = part_ends c.loop-row.row c.args.self.now.day.now.numbers.periods _ (row_in g c)

pub loop-row-init : goal.loop-row-init
loop-row-init g c = (rows_none _ _ _, c.size-row-end.ensures)

pub overflow_mul-here : goal.overflow_mul-here
overflow_mul-here g c = let h = here_within g c in omega arith

pub slice_bounds-prices-end-in-loop-row : goal.slice_bounds-prices-end-in-loop-row
slice_bounds-prices-end-in-loop-row g c = let e = row_ends g (goal.at.slice_bounds-prices-end-in-loop-row g c).In-Ok in omega (arith, c.args.self.now.ready.sized.rise)

pub slice_bounds-prices-end-in-loop-row-2 : goal.slice_bounds-prices-end-in-loop-row-2
slice_bounds-prices-end-in-loop-row-2 g c = let e = row_ends g (goal.at.slice_bounds-prices-end-in-loop-row-2 g c).In-Ok in omega (arith, c.args.self.now.ready.sized.fall)

pub overflow_add-prices : goal.overflow_add-prices
overflow_add-prices g c = let h = here_within g (goal.at.overflow_add-prices g c).In-Ok in omega arith

pub offset_bounds-nets-here : goal.offset_bounds-nets-here
offset_bounds-nets-here g c = let h = here_within g (goal.at.offset_bounds-nets-here g c).In-Ok in omega arith

pub slice_bounds-prices-end : goal.slice_bounds-prices-end
slice_bounds-prices-end g c = let h = here_within g (goal.at.slice_bounds-prices-end g c).In-Ok in omega (arith, c.requires.long)

-- one row more
more : (g : given.Over) (c : In-Ok-floor g) → let i = (goal.at.add-floor-requires g c).In-Ok in RowsFloored (d g i) (m g i) (s g i) (c.loop-row.row + 1) (c.loop-row.floor.0 +ℤ c.in-Ok-floor.more.0)
more g c =
    let i = (goal.at.add-floor-requires g c).In-Ok in
    let facts = g.met.F.Fleet.facts c.args.self.now.fleet.now in
    rows_more (d g i) (m g i) (s g i) facts (made g i) c.args.self.now.ready c.loop-row.row c.loop-row.floor.0 c.in-Ok-floor.more (row_in g i)
    (floor_told (d g i) (m g i) (s g i) facts (made g i) c.args.self.now.ready c.args.nets.now c.requires c.loop-row.row c.in-Ok.node (Ok c.in-Ok-floor.more) (row_in g i) (is_node g i) c.in-Ok-floor.ensures)
    c.loop-row.invariant.0

pub add-floor-requires : goal.add-floor-requires
add-floor-requires g c =
    let so = more g c in
    omega (arith, ints, so.small.0, so.small.1, row_in g (goal.at.add-floor-requires g c).In-Ok, c.args.self.now.ready.placed.some.1)

pub unreachable-requires-in_default-floor : goal.unreachable-requires-in_default-floor
unreachable-requires-in_default-floor g c =
    let i = (goal.at.unreachable-requires-in_default-floor g c).In-Ok in
    not_ok _ _ (floor_told (d g i) (m g i) (s g i) (g.met.F.Fleet.facts c.args.self.now.fleet.now) (made g i) c.args.self.now.ready c.args.nets.now c.requires c.loop-row.row c.in-Ok.node _ (row_in g i) (is_node g i) c.in_default-floor.ensures)

pub loop-row-preserved : goal.loop-row-preserved
loop-row-preserved g c =
    (subst (RowsFloored _ _ _ (c.loop-row.row + 1)) (sym c.add-floor.ensures) (more g (goal.at.loop-row-preserved g c).In-Ok-floor), c.loop-row.invariant.1)

pub returns : goal.returns
returns g c =
    let all : c.loop-row.row ≡ g.F.Fleet.size c.args.self.now.fleet.now = omega (arith, c.loop-row.invariant.1) in
    subst (λ n. RowsFloored (numbers_of c.args.self.now.day.now.numbers) (meaning g.F.Fleet c.args.self.now.fleet.now) (prices_of c.args.self.now.prices.now) n c.loop-row.floor.0) all c.loop-row.invariant.0
