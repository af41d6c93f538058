use Rattle.std.proofs.Common.{◌≡◌, ℕ, ◌+◌, ◌*◌, ◌<◌, ◌≤◌, Bool, List, drop, slice_index, ℤ, pos, ◌+ℤ◌, Some, None, Err, Option, sym, ap, ◌∙◌, subst, ⊎_elim, arith, w32, SFits, rules}
use Rattle.std.proofs.lemmas.Int.{ints, to_z-of_z}
use Rattle.std.proofs.lemmas.Result.{err_from_is_err_and}
use Rattle.measures.specs.Amounts.{grains}
use Rattle.measures.specs.declared.Grains.{Grains}
use Rattle.market.specs.Fleet.{broken}
use Rattle.market.specs.Scans.{Within, at}
use Rattle.market.proofs.Totals.{total_within}
use Rattle.kinds.specs.Rules.{number_of, broken_by, running_rule}
use Rattle.kinds.specs.Verdicts.{LawfulAt, Judged}
use Rattle.kinds.proofs.Telling.{told_ok, told_err}
use Rattle.kinds.proofs.Verdicts.{lawful_more, judged_lawful, judged_broken}
use Rattle.kinds.proofs.Turns.{front, spent}
use Rattle.fleets.proofs.judging.judged.Goals as goal

-- the rule of a period, as it was asked
rule_is : (marks : List ℕ) (outputs : List ℤ) (allows : ℕ → ℤ → Bool) (t period m : ℕ) (o p : ℤ) → period ≡ t → m ≡ slice_index marks t → o ≡ at outputs t → p ≡ o → running_rule m (allows period p) ≡ running_rule (slice_index marks t) (allows t (at outputs t))
rule_is marks outputs allows t period m o p a b d e = λ j. running_rule (b j) (allows (a j) ((e ∙ d) j))

-- one lawful period more
next : (rule : ℕ → Option ℕ) (cost : ℕ → ℤ) (t n : ℕ) (c more x : ℤ) → LawfulAt rule cost t (grains c) → None ≡ rule t → more ≡ cost t → x ≡ c +ℤ more → n ≡ t + 1 → LawfulAt rule cost n (grains x)
next rule cost t n c more x l kept e f g = subst (λ k. LawfulAt rule cost k (grains x)) (sym g) (subst (λ z. LawfulAt rule cost (t + 1) (grains z)) (sym (f ∙ ap (λ z. c +ℤ z) e)) (lawful_more rule cost t c l (sym kept)))

-- a period that breaks rule k, by the number that the loop gives it
broken_at : (rule : ℕ → Option ℕ) (cost : ℕ → ℤ) (n t p k : ℕ) (c : Grains) → p ≡ t → t < n → LawfulAt rule cost t c → rule t ≡ Some k → Judged rule cost n (Err (broken k (p + 1)))
broken_at rule cost n t p k c e h l is = subst (λ m. Judged rule cost n (Err (broken k (m + 1)))) (sym e) (judged_broken rule cost n t k c h l is)

pub returns-in_err-map_err : goal.returns-in_err-map_err
returns-in_err-map_err g c =
    let i = c.loop-period.invariant in
    let s = c.in-Some.ensures.steps in
    let m = front c.args.schedule.now.marks.now c.loop-period.period-iterator.count c.in-Some.mark.now _ _ i.marks s.0.0 in
    let o = front c.args.schedule.now.outputs.now c.loop-period.period-iterator.count c.in-Some.output.now _ _ i.outputs s.0.1 in
    let fits : SFits w32 c.in-Some.output.now = search rules in
    let p = err_from_is_err_and c.from_residual.result c.from_residual.ensures.1 in
    let t = told_err _ (λ r. broken (number_of r) (c.in-Some.period + 1)) c.rule.result c.map_err.result _ (λ e k. search rules) c.map_err.ensures.cases c.in_err-map_err.was in
    let asked = sym (ap broken_by t.1) ∙ c.rule.ensures ∙ rule_is _ _ (g.R.AlwaysRuns.allows c.args.row.now) c.loop-period.period-iterator.count c.in-Some.period c.in-Some.mark.now c.in-Some.output.now _ s.1 (m.at 0) (o.at (pos 0)) (to_z-of_z w32 _ fits) in
    rw (p.1, p.2, t.2) (broken_at _ _ (g.R.AlwaysRuns.periods c.args.row.now) c.loop-period.period-iterator.count c.in-Some.period (number_of t.0) c.loop-period.cost s.1 (omega (arith, m.within, c.requires.marks)) i.lawful (sym asked))

pub add-cost-requires : goal.add-cost-requires
add-cost-requires g c =
    let i = c.loop-period.invariant in
    let s = c.in-Some.ensures.steps in
    let m = front c.args.schedule.now.marks.now c.loop-period.period-iterator.count c.in-Some.mark.now _ _ i.marks s.0.0 in
    let few = g.met.R.AlwaysRuns.few c.args.row.now in
    let sum : Within (c.loop-period.period-iterator.count * 4000000000000) c.loop-period.cost.0 = subst (Within _) (sym i.lawful.sum) (total_within _ 4000000000000 _ (λ t h. g.met.R.AlwaysRuns.small c.args.row.now _)) in
    let more : Within 4000000000000 c.cost.result.0 = subst (Within _) (sym c.cost.ensures) (g.met.R.AlwaysRuns.small c.args.row.now _) in
    omega (arith, ints)

pub loop-period-preserved : goal.loop-period-preserved
loop-period-preserved g c =
    let i = c.loop-period.invariant in
    let s = c.in-Some.ensures.steps in
    let m = front c.args.schedule.now.marks.now c.loop-period.period-iterator.count c.in-Some.mark.now _ _ i.marks s.0.0 in
    let o = front c.args.schedule.now.outputs.now c.loop-period.period-iterator.count c.in-Some.output.now _ _ i.outputs s.0.1 in
    let fits : SFits w32 c.in-Some.output.now = search rules in
    let same = to_z-of_z w32 _ fits in
    let asked = ap broken_by (sym (told_ok _ c.rule.result c.map_err.result _ c.map_err.ensures.cases c.in_ok-map_err.was)) ∙ c.rule.ensures ∙ rule_is _ _ (g.R.AlwaysRuns.allows c.args.row.now) c.loop-period.period-iterator.count c.in-Some.period c.in-Some.mark.now c.in-Some.output.now _ s.1 (m.at 0) (o.at (pos 0)) same in
    let price = c.cost.ensures ∙ ap (g.R.AlwaysRuns.cost c.args.row.now) (same ∙ o.at (pos 0)) in
    record {
      can = search rules;
      ends = search rules;
      within = omega (arith, s.2, m.within, c.requires.marks);
      marks = m.left ∙ ap (λ n. drop n c.args.schedule.now.marks.now) (sym s.2);
      outputs = o.left ∙ ap (λ n. drop n c.args.schedule.now.outputs.now) (sym s.2);
      lawful = next _ _ c.loop-period.period-iterator.count _ c.loop-period.cost.0 c.cost.result.0 c.add-cost.result.0 i.lawful asked price c.add-cost.ensures s.2;
    }

pub returns : goal.returns
returns g c =
    let i = c.loop-period.invariant in
    let done : g.R.AlwaysRuns.periods c.args.row.now ≤ c.loop-period.period-iterator.count =
    ⊎_elim (λ u. omega (arith, spent c.args.schedule.now.marks.now _ _ i.marks u.1.0, c.requires.marks)) (λ u. omega (arith, spent c.args.schedule.now.outputs.now _ _ i.outputs u.1.0, c.requires.outputs)) c.in-None.ensures.steps.0
    in
    judged_lawful _ _ (g.R.AlwaysRuns.periods c.args.row.now) c.loop-period.period-iterator.count c.loop-period.cost (omega (arith, i.within)) i.lawful
