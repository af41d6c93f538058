use Rattle.std.proofs.Common.{sym, subst, rules, arith, MatchBool}
use Rattle.std.proofs.lemmas.List.Sorted.{answers_always}
use lib.Signed.{lt_z}
use Rattle.kinds.specs.Curves.{Rises}
use Rattle.kinds.proofs.CurveTests.{rises_told, steep}
use Rattle.kinds.proofs.curve_numbers.CurveNumbers.rises.Goals as goal

pub returns-then-is_sorted_by : goal.returns-then-is_sorted_by
returns-then-is_sorted_by c = rises_told _ c.requires (omega arith) (omega arith) (c.if-is_sorted_by.ensures.cases lt_z (answers_always _ _ _ (λ f a r f' k. search rules))) _ c.is_sorted.ensures.cases

pub returns-else-is_sorted_by : goal.returns-else-is_sorted_by
returns-else-is_sorted_by c = subst (λ b. MatchBool b (Rises c.args.self.now) (Rises c.args.self.now → ⊥)) (sym c.if-is_sorted_by.false) (steep _ c.requires (omega arith) (omega arith) (c.if-is_sorted_by.ensures.cases lt_z (answers_always _ _ _ (λ f a r f' k. search rules))))
