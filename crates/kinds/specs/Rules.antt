-- The rules of rows, by number. Assumes nothing.
use Rattle.std.specs.Prelude.{ℕ, Bool, cond, Some, None, Ok, Err, Option, Result, ◌==◌}
use Rattle.kinds.specs.declared.rule.Rule.{Rule}
use Rattle.kinds.specs.declared.rule.Rule.TheVariants.{Mark, Output, RunningTime, StoppedTime, Rise, Fall}

abbrev pub number_of : Rule → ℕ
number_of Mark = 10
number_of Output = 11
number_of RunningTime = 12
number_of StoppedTime = 13
number_of Rise = 14
number_of Fall = 15

-- the number of the rule that an answer says is broken, if any
abbrev pub broken_by : Result (Unit {0}) Rule → Option ℕ
broken_by (Ok u) = None
broken_by (Err rule) = Some (number_of rule)

-- the first rule that a period breaks, if any, of a row that runs in every one: 10, the mark is 1; 11, the output is one that the row may have
abbrev pub running_rule : ℕ → Bool → Option ℕ
running_rule mark allowed = cond (mark == 1) (cond allowed None (Some 11)) (Some 10)
