use Rattle.std.proofs.Common.{◌≡◌, ◌+◌, sym, ◌∙◌, arith, w64, to_z, of_z}
use Rattle.std.proofs.lemmas.Int.{ints}
use Rattle.market.specs.Fleet.{row_prices_of}
use Rattle.market.specs.Scans.{at}
use Rattle.kinds.proofs.Walking.{value_is}
use Rattle.kinds.proofs.Weighing.{value_joined}
use Rattle.thermal.proofs.ruling.walking.pricing.PricedPeriod.value.Goals as goal
use Rattle.thermal.proofs.ruling.walking.pricing.PricedPeriod.value.Goals.{After-net}

net_same : (c : After-net) → to_z w64 (of_z w64 (at c.args.self.now.day.prices.net.now c.args.self.now.period)) ≡ at c.args.self.now.day.prices.net.now c.args.self.now.period
net_same c = let n = c.args.self.now.day.fit.net c.args.self.now.period in omega (arith, ints)

pub sub-requires-2 : goal.sub-requires-2
sub-requires-2 c =
    let n = c.args.self.now.day.fit.net c.args.self.now.period in
    let e = net_same c in
    omega (arith, ints)

pub returns : goal.returns
returns c =
    let q = c.args.self.now.day.prices in
    let t = c.args.self.now.period in
    value_joined c.sub-2.result.0 (at q.net.now t) _ _ _ _ _ (at q.rise.now t) (at q.rise.now (t + 1)) (at q.fall.now t) (at q.fall.now (t + 1))
    c.sub-2.ensures (net_same (goal.at.returns c).After-net) c.net.ensures c.sub.ensures c.lead.ensures.told c.lead-2.ensures.told
    ∙ sym (value_is (row_prices_of q) t)
