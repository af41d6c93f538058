use Rattle.std.proofs.Common.{sym, subst, rules}
use Rattle.market.specs.Fleet.{row_prices_of}
use Rattle.market.specs.Scans.{Within}
use Rattle.kinds.proofs.Units.{value_within}
use Rattle.thermal.proofs.ruling.walking.pricing.PricedPeriod.least.Goals as goal

pub unwrap-requires : goal.unwrap-requires
unwrap-requires c =
    let p = c.args.self.now.day in
    let worth : Within 20000000000 c.value.result.0 = subst (λ z. Within 20000000000 z) (sym c.value.ensures) (value_within p.unit.record.now p.unit.made (row_prices_of p.prices) p.fit c.args.self.now.period) in
    search rules
