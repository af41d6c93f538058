use Rattle.std.proofs.Common.{◌≡◌, ◌+ℤ◌, ◌∙◌, arith}
use Rattle.std.proofs.lemmas.Int.{ints}
use Rattle.kinds.specs.Thermal.{period_cost}
use Rattle.kinds.proofs.Units.{period_cost_within}
use Rattle.thermal.specs.Marks.{code_of}
use Rattle.thermal.proofs.ruling.Unit.period_cost.Goals as goal
use Rattle.thermal.proofs.ruling.Unit.period_cost.Goals.{After-start_part}

-- the two parts together
sum_is : (c : After-start_part) → c.running_part.result.0 +ℤ c.start_part.result.0 ≡ period_cost c.args.self.now.record.now (code_of c.args.step.before.mark) (code_of c.args.step.mark) c.args.step.output.0
unfolding period_cost
sum_is c = λ j. c.running_part.ensures j +ℤ c.start_part.ensures j

pub add-requires : goal.add-requires
add-requires c = let e = sum_is c in let w = period_cost_within c.args.self.now.record.now c.args.self.now.made (code_of c.args.step.before.mark) (code_of c.args.step.mark) c.args.step.output.0 in omega (arith, ints)

pub returns : goal.returns
returns c = c.add.ensures ∙ sum_is (goal.at.returns c).After-start_part
