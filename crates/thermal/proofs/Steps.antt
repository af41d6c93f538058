-- What a period breaks first, by its mark and output. Assumes nothing.
use Rattle.std.proofs.Common.{◌≡◌, ℕ, true, false, ◌<◌, ℤ, Some, None, leb, sym, ◌∙◌}
use Rattle.std.proofs.lemmas.Bool.{cond-true, cond-false, lt-leb}
use Rattle.kinds.specs.declared.thermal_unit.ThermalUnit.{ThermalUnit}
use Rattle.kinds.specs.Thermal.{asked, rule_11, rule_12, rule_13, rule_14, rule_15, first_broken}
use Rattle.thermal.specs.declared.mark.Mark.{Mark}
use Rattle.thermal.specs.declared.mark.Mark.TheVariants.{Stopped, Running}
use Rattle.thermal.specs.Marks.{code_of}

module _ (u : ThermalUnit) (b h : ℕ) (o : ℤ) where
  -- the rules after the first, at a mark
  at_mark : (m : Mark) (p : ℤ) → asked 11 (rule_11 u (code_of m) p) (asked 12 (rule_12 u b h (code_of m)) (asked 13 (rule_13 u b h (code_of m)) (asked 14 (rule_14 u b (code_of m) o p) (asked 15 (rule_15 u b (code_of m) o p) None)))) ≡ first_broken u b h o (code_of m) p
  unfolding first_broken
  at_mark Stopped p = λ _. first_broken u b h o 0 p
  at_mark Running p = λ _. first_broken u b h o 1 p

  -- and at what is none
  pub at_none : (m : ℕ) (p : ℤ) → 1 < m → first_broken u b h o m p ≡ Some 10
  unfolding first_broken
  at_none m p above = cond-false (leb m 1) _ (Some 10) (lt-leb m 1 above)

  -- where the output fits the mark, the rules after the second
  pub told : (m : Mark) (n : ℕ) (p : ℤ) → code_of m ≡ n → rule_11 u (code_of m) p ≡ true → first_broken u b h o n p ≡ asked 12 (rule_12 u b h (code_of m)) (asked 13 (rule_13 u b h (code_of m)) (asked 14 (rule_14 u b (code_of m) o p) (asked 15 (rule_15 u b (code_of m) o p) None)))
  told m n p e f = rw (← e) (sym (at_mark m p) ∙ cond-true _ _ (Some 11) f)

  -- and where it does not
  pub told_output : (m : Mark) (n : ℕ) (p : ℤ) → code_of m ≡ n → rule_11 u (code_of m) p ≡ false → first_broken u b h o n p ≡ Some 11
  told_output m n p e f = rw (← e) (sym (at_mark m p) ∙ cond-false _ _ (Some 11) f)
