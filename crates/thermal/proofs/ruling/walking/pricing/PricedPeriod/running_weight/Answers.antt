use Rattle.std.proofs.Common.{◌+ℤ◌, sym, ◌∙◌, arith}
use Rattle.std.proofs.lemmas.Int.{ints}
use Rattle.market.specs.Fleet.{row_prices_of}
use Rattle.kinds.proofs.Units.{least_within, no_load_within}
use Rattle.kinds.proofs.Walking.{running_weight_is}
use Rattle.thermal.proofs.ruling.walking.pricing.PricedPeriod.running_weight.Goals as goal

pub add-requires : goal.add-requires
add-requires c =
    let p = c.args.self.now.day in
    let a = least_within p.unit.record.now p.unit.made (row_prices_of p.prices) p.fit c.args.self.now.period in
    let b = no_load_within p.unit.record.now p.unit.made in
    omega (arith, ints, c.least.ensures, c.grains.ensures)

pub returns : goal.returns
returns c =
    let p = c.args.self.now.day in
    c.add.ensures ∙ (λ j. c.least.ensures j +ℤ c.grains.ensures j) ∙ sym (running_weight_is p.unit.record.now (row_prices_of p.prices) c.args.self.now.period)
