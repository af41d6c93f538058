use Rattle.std.proofs.Common.{ℤ, sym, subst}
use Rattle.market.specs.Fleet.{row_prices_of}
use Rattle.market.specs.Scans.{Within}
use Rattle.kinds.proofs.Units.{weight_in_within}
use Rattle.thermal.proofs.ruling.walking.pricing.PricedPeriod.weights.Goals as goal

pub invariant_of-result : goal.invariant_of-result
invariant_of-result c =
    let p = c.args.self.now.day in
    let within = weight_in_within p.unit.record.now p.unit.made (row_prices_of p.prices) p.fit c.args.self.now.period in
    let W : ℤ → Type 0 = λ z. Within 452400000000000 z in
    record { small = (subst W (sym c.weight.ensures) (within 1 1), (subst W (sym c.weight-2.ensures) (within 0 1), subst W (sym c.weight-3.ensures) (within 1 0))) }
