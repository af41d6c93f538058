use Rattle.std.proofs.Common.{◌≡◌, ℕ, ◌+◌, ◌*◌, cond, eqb, length, drop, pos, ◌+ℤ◌, None, inl, inr, sym, ap, ◌∙◌, subst, arith, w32, SFits, to_z, of_z, rules}
use Rattle.std.proofs.lemmas.Int.{ints, to_z-of_z}
use Rattle.std.proofs.lemmas.Result.{err_from_is_err_and, MatchResult-at_ok}
use Rattle.std.specs.Iterator.Adapters.{enumerate_count, enumerate_source, zip_first, zip_second}
use Rattle.std.specs.Slice.Iter.{iter_rest}
use Rattle.measures.specs.Amounts.{grains}
use Rattle.market.specs.declared.broken.Broken.{Broken}
use Rattle.market.specs.Fleet.{Schedule, schedule_of, broken}
use Rattle.market.specs.Scans.{Within, at}
use Rattle.market.proofs.Totals.{total_within}
use Rattle.kinds.specs.declared.rule.Rule.{Rule}
use Rattle.kinds.specs.Rules.{number_of}
use Rattle.kinds.specs.Thermal.{mark_in, mark_before, lasted_before, output_before, first_broken, rule, period_cost, cost_in}
use Rattle.kinds.specs.Verdicts.{LawfulAt}
use Rattle.kinds.proofs.Telling.{told_ok, told_on}
use Rattle.kinds.proofs.Turns.{Front, front, spent}
use Rattle.kinds.proofs.Units.{period_cost_within}
use Rattle.kinds.proofs.Verdicts.{lawful_more, judged_lawful, judged_broken}
use Rattle.kinds.proofs.Walking.{mark_next, lasting_next, output_next, lasting_within}
use Rattle.thermal.specs.Marks.{code_of}
use Rattle.thermal.specs.Steps.{After}
use Rattle.thermal.proofs.ruling.Unit.judged.Goals as goal
use Rattle.thermal.proofs.ruling.Unit.judged.Goals.{After-asked, After-period_cost}

module _ (c : After-asked) where
  -- the period, and the schedule
  abbrev now : ℕ
  now = enumerate_count c.loop-period.period-iterator

  abbrev schedule : Schedule
  schedule = schedule_of c.args.schedule.now

  mark_turn : Front c.args.schedule.now.marks.now (iter_rest (zip_first (enumerate_source c.next.new.self))) now c.in-Some.mark.now
  mark_turn = front _ now _ _ _ c.loop-period.invariant.marks_left c.in-Some.ensures.steps.0.0

  output_turn : Front c.args.schedule.now.outputs.now (iter_rest (zip_second (enumerate_source c.next.new.self))) now c.in-Some.output.now
  output_turn = front _ now _ _ _ c.loop-period.invariant.outputs_left c.in-Some.ensures.steps.0.1

  -- the output as it is passed on
  output_same : to_z w32 (of_z w32 c.in-Some.output.now) ≡ at schedule.outputs now
  output_same = let f : SFits w32 c.in-Some.output.now = search rules in to_z-of_z w32 _ f ∙ output_turn.at (pos 0)

  rule_is : first_broken c.args.self.now.record.now (code_of c.loop-period.before.mark) c.loop-period.before.lasted c.loop-period.before.output.0 c.in-Some.mark.now (to_z w32 (of_z w32 c.in-Some.output.now)) ≡ rule c.args.self.now.record.now schedule now
  rule_is = λ j. first_broken c.args.self.now.record.now (c.loop-period.invariant.mark j) (c.loop-period.invariant.lasted j) (c.loop-period.invariant.output j) (mark_turn.at 0 j) (output_same j)

pub returns-in_err-step : goal.returns-in_err-step
returns-in_err-step c =
    let tells = λ (r : Rule) (d : Broken) (e : d ≡ broken (number_of r) (c.in-Some.period + 1)). e ∙ ap (λ t. broken (number_of r) (t + 1)) c.in-Some.ensures.steps.1 in
    let i = (goal.at.returns-in_err-step c).After-asked in
    let p = err_from_is_err_and c.from_residual.result c.from_residual.ensures.1 in
    let t = told_on _ _ _ (λ r. broken (number_of r) (now i + 1)) c.asked.result c.map_err.result _ (λ r k. tells r _ (search rules)) c.asked.ensures c.map_err.ensures.cases c.in_err-step.was in
    rw (p.1, p.2, t.2) (judged_broken _ _ _ (now i) _ _ (mark_turn i).within c.loop-period.invariant.lawful (sym (rule_is i) ∙ t.1))

module _ (c : After-period_cost) where
  abbrev asked : After-asked
  asked = (goal.at.add-cost-requires c).After-asked

  -- the period breaks no rule, and is the one that is asked
  kept : (first_broken c.args.self.now.record.now (code_of c.loop-period.before.mark) c.loop-period.before.lasted c.loop-period.before.output.0 c.in-Some.mark.now (to_z w32 (of_z w32 c.in-Some.output.now)) ≡ None) × After c.loop-period.before c.in-Some.mark.now (record { 0 = to_z w32 (of_z w32 c.in-Some.output.now) }) c.in_ok-step.step
  kept = MatchResult-at_ok _ _ _ (told_ok _ c.asked.result c.map_err.result c.in_ok-step.step c.map_err.ensures.cases c.in_ok-step.was) c.asked.ensures

  lawful : rule c.args.self.now.record.now (schedule asked) (now asked) ≡ None
  lawful = sym (rule_is asked) ∙ kept.0

  mark_was : code_of c.in_ok-step.step.before.mark ≡ mark_before c.args.self.now.record.now (schedule asked) (now asked)
  mark_was = ap (λ b. code_of b.mark) kept.1.before ∙ c.loop-period.invariant.mark

  mark_same : code_of c.in_ok-step.step.mark ≡ mark_in (schedule asked) (now asked)
  mark_same = kept.1.mark ∙ (mark_turn asked).at 0

  -- the output as it is passed on
  output_passed : c.in_ok-step.step.output.0 ≡ at (schedule asked).outputs (now asked)
  output_passed = ap (λ p. p.0) kept.1.output ∙ output_same asked

  cost_is : c.period_cost.result.0 ≡ cost_in c.args.self.now.record.now (schedule asked) (now asked)
  cost_is = c.period_cost.ensures ∙ λ j. period_cost c.args.self.now.record.now (mark_was j) (mark_same j) (output_passed j)

pub add-cost-requires : goal.add-cost-requires
add-cost-requires c =
    let u = c.args.self.now.record.now in
    let made = c.args.self.now.made in
    let t = now (asked c) in
    let so_far : Within (t * 12400000000000) c.loop-period.cost.0 = subst (Within (t * 12400000000000)) (sym c.loop-period.invariant.lawful.sum) (total_within t 12400000000000 (cost_in u (schedule (asked c))) (λ t h. period_cost_within u made _ _ _)) in
    let e = cost_is c in
    let here : Within 12400000000000 (cost_in u (schedule (asked c)) t) = period_cost_within u made _ _ _ in
    let early = (mark_turn (asked c)).within in
    omega (arith, ints)

pub after-before-requires : goal.after-before-requires
after-before-requires c =
    let u = c.args.self.now.record.now in
    let k = (goal.at.after-before-requires c).After-period_cost in
    let t = now (asked k) in
    let early = (mark_turn (asked k)).within in
    let numbers = c.args.self.now.made.numbers in
    let was = ap (λ b. b.lasted) (kept k).1.before in
    omega (arith, was, c.loop-period.invariant.lasted, numbers.lasted.0, numbers.lasted.1, lasting_within u.mark u.lasted c.args.schedule.now.marks.now t numbers.lasted.0)

pub loop-period-preserved : goal.loop-period-preserved
loop-period-preserved c =
    let u = c.args.self.now.record.now in
    let k = (goal.at.loop-period-preserved c).After-period_cost in
    let i = asked k in
    let s = schedule i in
    let t = now i in
    let next = c.in-Some.ensures.steps.2 in
    let early = (mark_turn i).within in
    let made = c.after-before.ensures in
    let lasted = ap (λ b. b.lasted) (kept k).1.before ∙ c.loop-period.invariant.lasted in
    record {
      marks_left = (mark_turn i).left ∙ ap (λ n. drop n s.marks) (sym next);
      outputs_left = (output_turn i).left ∙ ap (λ n. drop n s.outputs) (sym next);
      within = omega arith;
      mark = ap code_of made.mark ∙ mark_same k ∙ sym (mark_next u.mark s.marks t) ∙ ap (λ n. mark_before u s n) (sym next);
      lasted = made.lasted ∙ (λ j. cond (eqb (mark_same k j) (mark_was k j)) (lasted j + 1) 1) ∙ sym (lasting_next u.mark u.lasted s.marks t) ∙ ap (λ n. lasted_before u s n) (sym next);
      output = made.output ∙ output_passed k ∙ sym (output_next u.output s.outputs t) ∙ ap (λ n. output_before u.output s.outputs n) (sym next);
      lawful =
          subst (λ n. LawfulAt (rule u s) (cost_in u s) n c.add-cost.result) (sym next)
          (subst (λ z. LawfulAt (rule u s) (cost_in u s) (t + 1) (grains z)) (sym (c.add-cost.ensures ∙ ap (λ z. c.loop-period.cost.0 +ℤ z) (cost_is k))) (lawful_more _ _ t _ c.loop-period.invariant.lawful (lawful k)));
    }

pub returns : goal.returns
returns c =
    let s = c.args.schedule.now in
    let t = enumerate_count c.loop-period.period-iterator in
    let ends : t ≡ length s.marks.now =
    elim c.in-None.ensures.steps.0 [
      | inl h ↦ let past = spent s.marks.now t _ c.loop-period.invariant.marks_left h.1.0 in omega (arith, c.loop-period.invariant.within)
      | inr h ↦ let past = spent s.outputs.now t _ c.loop-period.invariant.outputs_left h.1.0 in omega (arith, c.loop-period.invariant.within, c.requires.0)
    ] in
    judged_lawful _ _ _ t _ ends c.loop-period.invariant.lawful
