-- A period with what went before it, by the rules. Assumes nothing.
use Rattle.std.specs.Prelude.{◌≡◌, ℕ, Some, None, Option, Result, MatchResult}
use Rattle.measures.specs.declared.Tenths.{Tenths}
use Rattle.kinds.specs.declared.rule.Rule.{Rule}
use Rattle.kinds.specs.declared.thermal_unit.ThermalUnit.{ThermalUnit}
use Rattle.kinds.specs.Rules.{number_of}
use Rattle.kinds.specs.Thermal.{asked, rule_12, rule_13, rule_14, rule_15, first_broken}
use Rattle.thermal.specs.declared.ruling.State.{State}
use Rattle.thermal.specs.declared.ruling.Step.{Step}
use Rattle.thermal.specs.Marks.{code_of}

-- the first of the rules after those on its mark and output that a period breaks
abbrev pub later_broken : ThermalUnit → Step → Option ℕ
later_broken u s =
    let b = code_of s.before.mark in
    let m = code_of s.mark in
    asked 12 (rule_12 u b s.before.lasted m) (asked 13 (rule_13 u b s.before.lasted m) (asked 14 (rule_14 u b m s.before.output.0 s.output.0) (asked 15 (rule_15 u b m s.before.output.0 s.output.0) None)))

-- a period of this mark and output after this state
pub record After (b : State) (n : ℕ) (p : Tenths) (s : Step) : Type 0 where
  pub before : s.before ≡ b
  pub mark : code_of s.mark ≡ n
  pub output : s.output ≡ p

-- the period where none but the later rules may be broken, or else the first rule that is
abbrev pub StepTold : ThermalUnit → State → ℕ → Tenths → Result Step Rule → Type 0
StepTold u b n p r =
    let broken = first_broken u (code_of b.mark) b.lasted b.output.0 n p.0 in
    MatchResult r (λ s. (broken ≡ later_broken u s) × After b n p s) (λ rule. broken ≡ Some (number_of rule))

-- the period where no rule is broken, or else the first rule that is
abbrev pub PeriodTold : ThermalUnit → State → ℕ → Tenths → Result Step Rule → Type 0
PeriodTold u b n p r =
    let broken = first_broken u (code_of b.mark) b.lasted b.output.0 n p.0 in
    MatchResult r (λ s. (broken ≡ None) × After b n p s) (λ rule. broken ≡ Some (number_of rule))
