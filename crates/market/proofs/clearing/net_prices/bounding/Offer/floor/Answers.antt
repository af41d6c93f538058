use Rattle.std.proofs.Common.{◌+ℤ◌, sym, subst, arith}
use Rattle.std.proofs.lemmas.Int.{ints}
use Rattle.market.specs.Bounding.{prices_of, Floored, PeriodsFloored}
use Rattle.market.specs.Days.{numbers_of}
use Rattle.market.specs.Meanings.{meaning}
use Rattle.market.proofs.FloorParts.{floored, bounded}
use Rattle.market.proofs.Making.{made_of}
use Rattle.market.proofs.PricesAlike.{told}
use Rattle.market.proofs.clearing.net_prices.bounding.Offer.floor.Given as given
use Rattle.market.proofs.clearing.net_prices.bounding.Offer.floor.Goals as goal
use Rattle.market.proofs.clearing.net_prices.bounding.Offer.floor.Goals.{After-periods_floor}

whole : (g : given.Over) (c : After-periods_floor g) → Floored (numbers_of c.args.self.now.day.now.numbers) (meaning g.F.Fleet c.args.self.now.fleet.now) (prices_of c.args.self.now.prices.now) (c.rows_floor.result.0 +ℤ c.periods_floor.result.0)
whole g c = floored _ _ _ (g.met.F.Fleet.facts c.args.self.now.fleet.now) (made_of c.args.self.now.day.now) c.args.self.now.ready _ _ c.rows_floor.ensures
    (subst (λ l. PeriodsFloored (numbers_of l.day.now.numbers) (prices_of l.prices.now) l.day.now.numbers.periods c.periods_floor.result.0) c.nets-nets.ensures c.periods_floor.ensures)

pub add-requires : goal.add-requires
add-requires g c = let all = whole g c in omega (arith, ints, all.small.0, all.small.1)

pub returns : goal.returns
returns g c =
    let made = made_of c.args.self.now.day.now in
    let facts = g.met.F.Fleet.facts c.args.self.now.fleet.now in
    told _ _ _ facts made _ (bounded _ _ _ facts made c.args.self.now.ready _ (subst (Floored _ _ _) (sym c.add.ensures) (whole g (goal.at.returns g c).After-periods_floor)))
