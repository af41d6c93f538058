-- A period's market rules, told by what the nodes feed in. Assumes nothing.
use Rattle.std.proofs.Common.{◌≡◌, ℕ, ◌<◌, List, ℤ, pos, ◌-ℤ◌, ◌*ℤ◌, ◌≤ℤ◌, Ok, Err, Result, sym, ap, ◌∙◌, subst, arith}
use Rattle.std.proofs.lemmas.Int.{ints}
use Rattle.market.specs.declared.refusal.Refusal.{Refusal}
use Rattle.market.specs.Clearing.{Plan, RowsKept, Balanced, LinesKept, Cleared, BreaksFirst, upper_limit, lower_limit, factor, supply, demand, flow}
use Rattle.market.specs.Days.{Numbers}
use Rattle.market.specs.Fleet.{Meaning}
use Rattle.market.specs.Injections.{Fed, flow_of, KeptBefore, LineBroken, over, under, LinesTold}
use Rattle.market.specs.Judging.{PeriodTold}
use Rattle.market.specs.Scans.{at}
use Rattle.market.specs.Totals.{total}
use Rattle.market.proofs.Injections.{flow_gathered, balance_gathered}
use Rattle.market.proofs.Totals.{total_cong}

apart : (x y z : ℤ) → z ≡ x -ℤ y → x ≡ y → z ≡ pos 0
apart x y z e f = omega (arith, ints)

equal : (x y z : ℤ) → z ≡ x -ℤ y → z ≡ pos 0 → x ≡ y
equal x y z e f = omega (arith, ints)

module _ (d : Numbers) (m : Meaning) (p : Plan) (t : ℕ) (fed : List ℤ) (nodes : (r : ℕ) → r < m.size → m.node r < d.nodes) (h : Fed d m p t m.size fed) where
  total_fed : total d.nodes (at fed) ≡ supply d m p t -ℤ demand d t
  total_fed = total_cong d.nodes _ _ h ∙ balance_gathered d m p nodes t

  pub unbalanced : (x : ℤ) → x ≡ total d.nodes (at fed) → (x ≡ pos 0 → ⊥) → Balanced d m p t → ⊥
  unbalanced x is off even = off (apart (supply d m p t) (demand d t) x (is ∙ total_fed) even)

  pub balanced : (x : ℤ) → x ≡ total d.nodes (at fed) → x ≡ pos 0 → Balanced d m p t
  balanced x is none = equal (supply d m p t) (demand d t) x (is ∙ total_fed) none

  flow_fed : (l : ℕ) → flow_of d fed l ≡ flow d m p l t
  flow_fed l = total_cong d.nodes _ _ (λ k kn. ap (λ x. factor d l k *ℤ x) (h k kn)) ∙ flow_gathered d m p nodes l t

  lines_kept : (l : ℕ) → KeptBefore d (flow_of d fed) l → LinesKept d m p t l
  lines_kept l kept k lt = (subst (λ x. x ≤ℤ (pos 1000 *ℤ at d.upper k)) (flow_fed k) (kept k lt).0, subst (λ x. (pos 1000 *ℤ at d.lower k) ≤ℤ x) (flow_fed k) (kept k lt).1)

  module _ (on : t < d.periods) (rows : RowsKept d m p m.size) (even : Balanced d m p t) where
    line_told : (e : Refusal) → LineBroken d (flow_of d fed) t e → Cleared d m p t → BreaksFirst d m p e
    line_told _ (over l lt kept broken) cleared =
        upper_limit t l on lt rows cleared even (lines_kept l kept) (λ u. broken (subst (λ x. x ≤ℤ (pos 1000 *ℤ at d.upper l)) (sym (flow_fed l)) u))
    line_told _ (under l lt kept up broken) cleared =
        lower_limit t l on lt rows cleared even (lines_kept l kept) (subst (λ x. x ≤ℤ (pos 1000 *ℤ at d.upper l)) (flow_fed l) up) (λ u. broken (subst (λ x. (pos 1000 *ℤ at d.lower l) ≤ℤ x) (sym (flow_fed l)) u))

    pub period_told : (r : Result (Unit {0}) Refusal) → LinesTold d (flow_of d fed) t r → PeriodTold d m p t r
    period_told (Ok u) kept = (even, lines_kept d.lines kept)
    period_told (Err e) broken = line_told e broken
