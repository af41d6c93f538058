use Rattle.std.proofs.Common.{◌≡◌, pos, cond, ◌+ℤ◌, ◌-ℤ◌, ◌∙◌, ap, sym, refl, subst, arith}
use Rattle.std.proofs.lemmas.Int.{ints}
use Rattle.market.specs.Fleet.{row_prices_of}
use Rattle.market.specs.Scans.{Within}
use Rattle.kinds.specs.Thermal.{running, starts, yuan}
use Rattle.kinds.proofs.Units.{running_weight_within, before_allowances}
use Rattle.kinds.proofs.Weighing.{weight_joined}
use Rattle.thermal.specs.Marks.{code_of}
use Rattle.thermal.proofs.ruling.walking.pricing.PricedPeriod.weight.Goals as goal
use Rattle.thermal.proofs.ruling.walking.pricing.PricedPeriod.weight.Goals.{After-start_part, in-Running, in-Stopped}

-- a running period's weight, where it runs
runs_is : (c : After-start_part) → c.match-mark.running.0 ≡ cond (running (code_of c.args.mark)) c.args.runs.0 (pos 0)
runs_is c =
    elim c.match-mark.branch [
      | in-Running w ↦ ap (λ r. r.0) w.running-is ∙ sym (ap (λ m. cond (running (code_of m)) c.args.runs.0 (pos 0)) w.in-Running.is)
      | in-Stopped w ↦ ap (λ r. r.0) w.running-is ∙ sym (ap (λ m. cond (running (code_of m)) c.args.runs.0 (pos 0)) w.in-Stopped.is)
    ]

-- with its start
sum_is : (c : After-start_part) → c.match-mark.running.0 +ℤ c.start_part.result.0 ≡ cond (running (code_of c.args.mark)) c.args.runs.0 (pos 0) +ℤ cond (starts (code_of c.args.before) (code_of c.args.mark)) (yuan c.args.self.now.day.unit.record.now.start_cost) (pos 0)
sum_is c = λ j. runs_is c j +ℤ c.start_part.ensures j

sum_within : (c : After-start_part) → Within 412400000000000 (cond (running (code_of c.args.mark)) c.args.runs.0 (pos 0) +ℤ cond (starts (code_of c.args.before) (code_of c.args.mark)) (yuan c.args.self.now.day.unit.record.now.start_cost) (pos 0))
sum_within c =
    let p = c.args.self.now.day in
    before_allowances p.unit.record.now p.unit.made (code_of c.args.before) (code_of c.args.mark) c.args.runs.0
    (subst (λ z. Within 404400000000000 z) (sym c.requires) (running_weight_within p.unit.record.now p.unit.made (row_prices_of p.prices) p.fit c.args.self.now.period))

pub add-requires : goal.add-requires
add-requires c = let e = sum_is c in let w = sum_within c in omega (arith, ints)

pub sub-requires : goal.sub-requires
sub-requires c =
    let i = (goal.at.sub-requires c).After-start_part in
    let e = c.add.ensures ∙ sum_is i in
    let w = sum_within i in
    omega (arith, ints, c.allowed.ensures.small)

pub returns : goal.returns
returns c =
    let i = (goal.at.returns c).After-start_part in
    weight_joined c.args.self.now.day.unit.record.now (row_prices_of c.args.self.now.day.prices) c.args.self.now.period _ _ _ c.args.runs.0 _ _ (c.sub.ensures ∙ λ j. (c.add.ensures ∙ sum_is i) j -ℤ c.allowed.ensures.told j) c.requires refl refl
