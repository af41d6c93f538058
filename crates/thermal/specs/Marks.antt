-- The mark of a period, by its number. Assumes nothing.
use Rattle.std.specs.Prelude.{◌≡◌, ℕ, ◌<◌, Result, MatchResult}
use Rattle.kinds.specs.declared.rule.Rule.{Rule}
use Rattle.kinds.specs.declared.rule.Rule.TheVariants.{Mark as MarkRule}
use Rattle.thermal.specs.declared.mark.Mark.{Mark}
use Rattle.thermal.specs.declared.mark.Mark.TheVariants.{Stopped, Running}

-- the number that stands for a mark
abbrev pub code_of : Mark → ℕ
code_of Stopped = 0
code_of Running = 1

-- a number as a mark, or the rule on marks where it is that of none
abbrev pub MarkTold : ℕ → Result Mark Rule → Type 0
MarkTold n r = MatchResult r (λ mark. code_of mark ≡ n) (λ e. (e ≡ MarkRule) × (1 < n))
