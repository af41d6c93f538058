use Rattle.std.proofs.Common.{◌≡◌, ℤ, pos, ◌*ℤ◌, ◌∙◌, ap, arith}
use Rattle.std.proofs.lemmas.Int.{ints}
use Rattle.market.specs.Scans.{Within, at}
use Rattle.kinds.specs.Thermal.{rise_allowance, fall_allowance}
use Rattle.kinds.proofs.Units.{rise_allowance_within, fall_allowance_within}
use Rattle.kinds.proofs.Weighing.{priced_is, priced_within, both_is, both_within}
use Rattle.thermal.specs.Marks.{code_of}
use Rattle.thermal.proofs.ruling.walking.pricing.PricedPeriod.allowed.Goals as goal
use Rattle.thermal.proofs.ruling.walking.pricing.PricedPeriod.allowed.Goals.{After-mul-2}

-- what each allowance comes to, a thousandth of it
abbrev risen : After-mul-2 → ℤ
risen c = at c.args.self.now.day.prices.rise.now c.args.self.now.period *ℤ rise_allowance c.args.self.now.day.unit.record.now (code_of c.args.before) (code_of c.args.mark)

abbrev fallen : After-mul-2 → ℤ
fallen c = at c.args.self.now.day.prices.fall.now c.args.self.now.period *ℤ fall_allowance c.args.self.now.day.unit.record.now (code_of c.args.before) (code_of c.args.mark)

rise_is : (c : After-mul-2) → c.mul.result.0 ≡ pos 1000 *ℤ risen c
rise_is c = c.mul.ensures ∙ priced_is _ _ _ _ (c.net.ensures ∙ ap (λ z. pos 1000 *ℤ z) c.rise.ensures) c.rise_allowance.ensures

rise_small : (c : After-mul-2) → Within 20000000000000 (pos 1000 *ℤ risen c)
rise_small c = let p = c.args.self.now.day in priced_within _ _ (p.fit.rise c.args.self.now.period) (rise_allowance_within p.unit.record.now p.unit.made (code_of c.args.before) (code_of c.args.mark))

fall_is : (c : After-mul-2) → c.mul-2.result.0 ≡ pos 1000 *ℤ fallen c
fall_is c = c.mul-2.ensures ∙ priced_is _ _ _ _ (c.net-2.ensures ∙ ap (λ z. pos 1000 *ℤ z) c.fall.ensures) c.fall_allowance.ensures

fall_small : (c : After-mul-2) → Within 20000000000000 (pos 1000 *ℤ fallen c)
fall_small c = let p = c.args.self.now.day in priced_within _ _ (p.fit.fall c.args.self.now.period) (fall_allowance_within p.unit.record.now p.unit.made (code_of c.args.before) (code_of c.args.mark))

pub add-requires : goal.add-requires
add-requires c =
    let e = rise_is c in
    let f = fall_is c in
    let v = rise_small c in
    let w = fall_small c in
    omega (arith, ints)

pub returns : goal.returns
returns c =
    let i = (goal.at.returns c).After-mul-2 in
    record { told = both_is _ _ _ (risen i) (fallen i) c.add.ensures (rise_is i) (fall_is i); small = both_within _ _ _ _ _ c.add.ensures (rise_is i) (fall_is i) (rise_small i) (fall_small i) }
