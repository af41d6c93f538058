-- Loops over a thermal unit's periods: forward with the state before each, and back with what the walk tells. Assumes nothing.
use Rattle.std.proofs.Common.{◌≡◌, ℕ, zero, suc, ◌+◌, ◌-◌, ◌<◌, ◌≤◌, min, Bool, true, false, cond, eqb, List, get_or, ℤ, pos, ◌+ℤ◌, ◌-ℤ◌, ◌*ℤ◌, sym, refl, ap, ◌∙◌, subst, inl, inr, add-one, arith}
use Rattle.std.specs.Int.{int_min}
use Rattle.std.proofs.lemmas.Bool.{cases_eq, eq-eqb, ne_eqb, cond-true, cond-false}
use Rattle.market.specs.Fleet.{RowPrices}
use Rattle.market.specs.Scans.{at}
use Rattle.kinds.specs.declared.thermal_unit.ThermalUnit.{ThermalUnit}
use Rattle.kinds.specs.Curves.{lowest, highest, net_cost}
use Rattle.kinds.specs.Leasts.{least_over}
use Rattle.kinds.specs.Thermal.{yuan, before, lasting, output_before, value, running_weight, weight_in, floor}
use Rattle.kinds.specs.Walks.{run_from, on_from, off_from, Ahead, Walked, running_to, from_before}
use Rattle.kinds.proofs.Walks.{run_end, on_end, off_end, run_step, on_step, off_step, floor_on, floor_off}

-- ---- the state before the next period
pub mark_next : (b : ℕ) (marks : List ℕ) (t : ℕ) → before b marks (t + 1) ≡ get_or marks t 0
mark_next b marks t = ap (before b marks) (add-one t)

pub lasting_next : (b h : ℕ) (marks : List ℕ) (t : ℕ) → lasting b h marks (t + 1) ≡ cond (eqb (get_or marks t 0) (before b marks t)) (lasting b h marks t + 1) 1
lasting_next b h marks t = ap (lasting b h marks) (add-one t) ∙ ap (λ k. cond (eqb (get_or marks t 0) (before b marks t)) k 1) (sym (add-one (lasting b h marks t)))

pub output_next : (o : ℤ) (outputs : List ℤ) (t : ℕ) → output_before o outputs (t + 1) ≡ at outputs t
output_next o outputs t = ap (output_before o outputs) (add-one t)

-- a mark has lasted no longer than before the day and in it
pub lasting_within : (b h : ℕ) (marks : List ℕ) (t : ℕ) → 1 ≤ h → lasting b h marks t ≤ h + t
lasting_within b h marks zero some = omega arith
lasting_within b h marks (suc t) some = longer (eqb (before b marks (suc t)) (before b marks t)) (lasting b h marks t) (lasting_within b h marks t some)
  where
    longer : (c : Bool) (k : ℕ) → k ≤ h + t → cond c (suc k) 1 ≤ h + suc t
    longer true k l = omega arith
    longer false k l = omega arith

-- ---- what a period is worth and weighs
pub value_is : (q : RowPrices) (t : ℕ) → value q t ≡ at q.net t -ℤ pos 1000 *ℤ (at q.rise t -ℤ at q.rise (t + 1) -ℤ at q.fall t +ℤ at q.fall (t + 1))
unfolding value
value_is q t = ap (λ k. at q.net t -ℤ pos 1000 *ℤ (at q.rise t -ℤ at q.rise k -ℤ at q.fall t +ℤ at q.fall k)) (sym (add-one t))

pub running_weight_is : (u : ThermalUnit) (q : RowPrices) (t : ℕ) → running_weight u q t ≡ least_over (lowest u.curve) (highest u.curve) (net_cost u.curve (value q t)) +ℤ yuan u.no_load
unfolding running_weight
running_weight_is u q t = refl

-- ---- the walk back
module _ (u : ThermalUnit) (q : RowPrices) (n : ℕ) where
  -- after the last period all three are 0
  pub walked_end : (ahead : ℕ → Ahead) → (ahead n).run ≡ pos 0 → (ahead n).on ≡ pos 0 → (ahead n).off ≡ pos 0 → Walked u q n n ahead
  walked_end ahead r o f = record {
    runs = λ k h l. last (λ j. (ahead j).run ≡ run_from u q n j) k h l (r ∙ sym (run_end u q n));
    ons = λ k h l. last (λ j. (ahead j).on ≡ on_from u q n j) k h l (o ∙ sym (on_end u q n));
    offs = λ k h l. last (λ j. (ahead j).off ≡ off_from u q n j) k h l (f ∙ sym (off_end u q n));
  }
    where
      last : (P : ℕ → Type 0) (k : ℕ) → n ≤ k → k ≤ n → P n → P k
      last P k h l p = let e : n ≡ k = omega arith in subst P e p

  module _ (ahead : ℕ → Ahead) where
    -- what stands at t, from what stands after it
    abbrev pub run_at : ℕ → ℤ
    run_at t = weight_in u q t 1 1 +ℤ (ahead (t + 1)).run

    abbrev pub on_at : ℕ → ℤ
    on_at t = int_min (weight_in u q t 1 1 +ℤ (ahead (t + 1)).on) (weight_in u q t 1 0 +ℤ (ahead (min (t + u.least_stopped) n)).off)

    abbrev pub off_at : ℕ → ℤ
    off_at t = int_min (ahead (t + 1)).off (weight_in u q t 0 1 +ℤ running_to (ahead (t + 1)) (ahead (min (t + u.least_running) n)))

    module _ (t : ℕ) (within : t < n) (walked : Walked u q n (t + 1) ahead) (least_running : 1 ≤ u.least_running) (least_stopped : 1 ≤ u.least_stopped) where
      run_so : run_at t ≡ run_from u q n t
      run_so = ap (λ z. weight_in u q t 1 1 +ℤ z) (walked.runs (t + 1) (omega arith) (omega arith)) ∙ sym (run_step u q n t within)

      on_so : on_at t ≡ on_from u q n t
      on_so =
          (λ i. int_min (weight_in u q t 1 1 +ℤ walked.ons (t + 1) (omega arith) (omega arith) i) (weight_in u q t 1 0 +ℤ walked.offs (min (t + u.least_stopped) n) (omega arith) (omega arith) i))
          ∙ sym (on_step u q n t within least_stopped)

      off_so : off_at t ≡ off_from u q n t
      off_so =
          (λ i. int_min (walked.offs (t + 1) (omega arith) (omega arith) i)
          (weight_in u q t 0 1 +ℤ (walked.runs (t + 1) (omega arith) (omega arith) i -ℤ walked.runs (min (t + u.least_running) n) (omega arith) (omega arith) i +ℤ walked.ons (min (t + u.least_running) n) (omega arith) (omega arith) i)))
          ∙ sym (off_step u q n t within least_running)

      -- a period earlier: what stands after t stays
      pub walked_step : (earlier : ℕ → Ahead) → ((k : ℕ) → t < k → k ≤ n → earlier k ≡ ahead k) → (earlier t).run ≡ run_at t → (earlier t).on ≡ on_at t → (earlier t).off ≡ off_at t → Walked u q n t earlier
      walked_step earlier same d e g = record {
        runs = set_down (λ k a. a.run ≡ run_from u q n k) walked.runs (d ∙ run_so);
        ons = set_down (λ k a. a.on ≡ on_from u q n k) walked.ons (e ∙ on_so);
        offs = set_down (λ k a. a.off ≡ off_from u q n k) walked.offs (g ∙ off_so);
      }
        where
          set_down : (P : ℕ → Ahead → Type 0) → ((k : ℕ) → t + 1 ≤ k → k ≤ n → P k (ahead k)) → P t (earlier t) → (k : ℕ) → t ≤ k → k ≤ n → P k (earlier k)
          set_down P after here k h l =
              elim (cases_eq k t) [
                | inl e ↦ subst (λ j. P j (earlier j)) (sym e) here
                | inr ne ↦ subst (P k) (sym (same k (omega arith) l)) (after k (omega arith) l)
              ]

    -- the floor, once the walk has come to the first period
    module _ (walked : Walked u q n 0 ahead) where
      floor_running : u.mark ≡ 1 → running_to (ahead 0) (ahead (min (u.least_running - u.lasted) n)) +ℤ pos 1000 *ℤ (at q.fall 0 -ℤ at q.rise 0) *ℤ u.output ≡ floor u q n
      floor_running e =
          (λ i. (walked.runs 0 (omega arith) (omega arith) i -ℤ walked.runs (min (u.least_running - u.lasted) n) (omega arith) (omega arith) i +ℤ walked.ons (min (u.least_running - u.lasted) n) (omega arith) (omega arith) i) +ℤ pos 1000 *ℤ (at q.fall 0 -ℤ at q.rise 0) *ℤ u.output)
          ∙ sym (floor_on u q n e)

      floor_stopped : u.mark ≡ 0 → (ahead (min (u.least_stopped - u.lasted) n)).off +ℤ pos 1000 *ℤ (at q.fall 0 -ℤ at q.rise 0) *ℤ u.output ≡ floor u q n
      floor_stopped e =
          ap (λ z. z +ℤ pos 1000 *ℤ (at q.fall 0 -ℤ at q.rise 0) *ℤ u.output) (walked.offs (min (u.least_stopped - u.lasted) n) (omega arith) (omega arith)) ∙ sym (floor_off u q n e)

      -- and from either mark before the day
      pub floor_walked : u.mark ≤ 1 → from_before u n ahead +ℤ pos 1000 *ℤ (at q.fall 0 -ℤ at q.rise 0) *ℤ u.output ≡ floor u q n
      floor_walked few =
          elim (cases_eq u.mark 1) [
            | inl e ↦ ap (λ z. z +ℤ pos 1000 *ℤ (at q.fall 0 -ℤ at q.rise 0) *ℤ u.output) (cond-true (eqb u.mark 1) _ _ (eq-eqb u.mark 1 e)) ∙ floor_running e
            | inr ne ↦ ap (λ z. z +ℤ pos 1000 *ℤ (at q.fall 0 -ℤ at q.rise 0) *ℤ u.output) (cond-false (eqb u.mark 1) _ _ (ne_eqb u.mark 1 ne)) ∙ floor_stopped (omega arith)
          ]
