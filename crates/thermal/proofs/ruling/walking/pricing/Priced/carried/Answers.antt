use Rattle.std.proofs.Common.{◌≡◌, pos, ◌-ℤ◌, ◌*ℤ◌, ◌∙◌, ap, sym, subst, arith}
use Rattle.std.proofs.lemmas.Int.{ints}
use Rattle.market.specs.Fleet.{row_prices_of}
use Rattle.market.specs.Scans.{Within, at}
use Rattle.kinds.proofs.Units.{carried_within}
use Rattle.thermal.proofs.ruling.walking.pricing.Priced.carried.Goals as goal
use Rattle.thermal.proofs.ruling.walking.pricing.Priced.carried.Goals.{After-from}

product_is : (c : After-from) → c.net.result.0 *ℤ c.from.result.output.0 ≡ pos 1000 *ℤ (at c.args.self.now.prices.fall.now 0 -ℤ at c.args.self.now.prices.rise.now 0) *ℤ c.args.self.now.unit.record.now.output
product_is c = λ j. (c.net.ensures ∙ ap (λ z. pos 1000 *ℤ z) (c.sub.ensures ∙ (λ k. c.fall.ensures k -ℤ c.rise.ensures k) ∙ λ k. at (c.first-first.ensures.day k).prices.fall.now (c.first-first.ensures.period k) -ℤ at (c.first-first.ensures.day k).prices.rise.now (c.first-first.ensures.period k))) j *ℤ c.from.ensures.1.1 j

small : (c : After-from) → Within 20000000000000 (pos 1000 *ℤ (at c.args.self.now.prices.fall.now 0 -ℤ at c.args.self.now.prices.rise.now 0) *ℤ c.args.self.now.unit.record.now.output)
small c = let p = c.args.self.now in carried_within p.unit.record.now p.unit.made (row_prices_of p.prices) p.fit _ p.day.1

pub mul-requires : goal.mul-requires
mul-requires c = let i = (goal.at.mul-requires c).After-from in let e = product_is i in let w = small i in omega (arith, ints)

pub returns : goal.returns
returns c =
    let i = (goal.at.returns c).After-from in
    let e = c.mul.ensures ∙ product_is i in
    record { told = e; small = subst (λ z. Within 20000000000000 z) (sym e) (small i) }
