-- No lawful schedule of a thermal unit undercuts the floor. Assumes nothing.
use Rattle.std.proofs.Common.{◌≡◌, ℕ, zero, suc, ◌<◌, Bool, true, false, cond, length, ℤ, pos, ◌+ℤ◌, ◌-ℤ◌, ◌*ℤ◌, ◌≤ℤ◌, Decides, Ok, refl, ap, ◌∙◌, subst, arith}
use lib.IntN.{*ℤ-zero, zero-*ℤ}
use lib.Signed.{le_z}
use Rattle.std.proofs.lemmas.List.{get_or_past}
use Rattle.std.proofs.lemmas.Int.{ints}
use Rattle.std.proofs.lemmas.Bool.{and_parts, and_from, leb-true}
use Rattle.std.proofs.lemmas.Bool.Decides.{Decides-below_and}
use Rattle.measures.specs.declared.Grains.{Grains}
use Rattle.market.specs.Fleet.{Schedule, RowPrices}
use Rattle.market.specs.Scans.{at, in_test, all_below}
use Rattle.market.specs.Totals.{total}
use Rattle.market.proofs.Ints.{times_add, times_sub, sub_times, add_times, times_assoc, times_mono}
use Rattle.market.proofs.Scanning.{decides_le}
use Rattle.market.proofs.Totals.{total_sub}
use Rattle.kinds.specs.declared.thermal_unit.ThermalUnit.{ThermalUnit}
use Rattle.kinds.specs.Curves.{lowest, highest, running_cost, net_cost}
use Rattle.kinds.specs.Thermal.{yuan, running, output_before, mark_in, mark_before, period_cost, cost_in, verdict, keeps, value, running_weight, weight_in, weight, lightest, floor}
use Rattle.kinds.proofs.Leasts.{least_over_least}
use Rattle.kinds.proofs.Lawful.{LawfulIn, keeps_each, cost_is}
use Rattle.kinds.proofs.Sequences.{Mark, marks_of, lightest_le}

-- ---- one period: x and y are the ramp prices, x' and y' the next period's, p the output, o the one before, a and b the allowances
linear : (w c qp xp x'p yp y'p xo yo xa yb : ℤ) → w ≤ℤ (c -ℤ (qp -ℤ (xp -ℤ x'p -ℤ yp +ℤ y'p))) → (xp -ℤ xo) ≤ℤ xa → (yo -ℤ yp) ≤ℤ yb → (w -ℤ (xa +ℤ yb) +ℤ (yo -ℤ xo)) ≤ℤ (c -ℤ qp +ℤ (y'p -ℤ x'p))
linear w c qp xp x'p yp y'p xo yo xa yb h k l = omega (arith, ints)

-- a thousand times a product, as one number
abbrev k : ℤ → ℤ → ℤ
k a b = pos 1000 *ℤ (a *ℤ b)

four : (a b c d : ℤ) → pos 1000 *ℤ (a -ℤ b -ℤ c +ℤ d) ≡ pos 1000 *ℤ a -ℤ pos 1000 *ℤ b -ℤ pos 1000 *ℤ c +ℤ pos 1000 *ℤ d
four a b c d = omega (arith, ints)

worth : (q x x' y y' p : ℤ) → (q -ℤ pos 1000 *ℤ (x -ℤ x' -ℤ y +ℤ y')) *ℤ p ≡ q *ℤ p -ℤ (k x p -ℤ k x' p -ℤ k y p +ℤ k y' p)
worth q x x' y y' p =
    sub_times q (pos 1000 *ℤ (x -ℤ x' -ℤ y +ℤ y')) p
    ∙ ap (λ r. q *ℤ p -ℤ r) (times_assoc (pos 1000) (x -ℤ x' -ℤ y +ℤ y') p
    ∙ ap (λ r. pos 1000 *ℤ r) (add_times (x -ℤ x' -ℤ y) y' p ∙ ap (λ r. r +ℤ y' *ℤ p) (sub_times (x -ℤ x') y p ∙ ap (λ r. r -ℤ y *ℤ p) (sub_times x x' p)))
    ∙ four (x *ℤ p) (x' *ℤ p) (y *ℤ p) (y' *ℤ p))

passed_on : (x y p : ℤ) → pos 1000 *ℤ (y -ℤ x) *ℤ p ≡ k y p -ℤ k x p
passed_on x y p = times_assoc (pos 1000) (y -ℤ x) p ∙ ap (λ r. pos 1000 *ℤ r) (sub_times y x p) ∙ times_sub (pos 1000) (y *ℤ p) (x *ℤ p)

priced : (x d e a : ℤ) → pos 0 ≤ℤ x → (d -ℤ e) ≤ℤ a → (k x d -ℤ k x e) ≤ℤ (k x a)
priced x d e a up h =
    subst (λ r. r ≤ℤ (k x a)) (ap (λ r. pos 1000 *ℤ r) (times_sub x d e) ∙ times_sub (pos 1000) (x *ℤ d) (x *ℤ e)) (times_mono (pos 1000) (x *ℤ (d -ℤ e)) (x *ℤ a) (omega (arith, ints)) (times_mono x (d -ℤ e) a up h))

one_period : (x x' y y' q p o a b w c : ℤ) → pos 0 ≤ℤ x → pos 0 ≤ℤ y → (p -ℤ o) ≤ℤ a → (o -ℤ p) ≤ℤ b → w ≤ℤ (c -ℤ (q -ℤ pos 1000 *ℤ (x -ℤ x' -ℤ y +ℤ y')) *ℤ p)
    → (w -ℤ pos 1000 *ℤ (x *ℤ a +ℤ y *ℤ b) +ℤ pos 1000 *ℤ (y -ℤ x) *ℤ o) ≤ℤ (c -ℤ q *ℤ p +ℤ pos 1000 *ℤ (y' -ℤ x') *ℤ p)
one_period x x' y y' q p o a b w c x-up y-up rise fall h =
    rw (times_add (pos 1000) (x *ℤ a) (y *ℤ b), passed_on x y o, passed_on x' y' p)
    (linear w c (q *ℤ p) (k x p) (k x' p) (k y p) (k y' p) (k x o) (k y o) (k x a) (k y b) (subst (λ r. w ≤ℤ (c -ℤ r)) (worth q x x' y y' p) h) (priced x p o a x-up rise) (priced y o p b y-up fall))

-- ---- a lawful period
between : (a z b : ℤ) → a ≤ℤ z → z ≤ℤ b → a ≤ℤ b
between a z b h k = omega (arith, ints)

-- the same added on both sides
both_more : (least cost worth z : ℤ) → least ≤ℤ (cost -ℤ worth) → (least +ℤ z) ≤ℤ (cost +ℤ z -ℤ worth)
both_more least cost worth z h = omega (arith, ints)

-- a test that passes below n, by the test of them all
pub all_pass : (n : ℕ) (test : ℕ → Bool) → Decides (all_below test n) ((t : ℕ) → t < n → test t ≡ true)
all_pass n test = Decides-below_and test (λ t. test t ≡ true) (all_below test) (λ t. (λ e. e, λ e. e)) refl (λ n. refl) n

-- what passes from period to period cancels
total_passing : (n : ℕ) (f g passed : ℕ → ℤ) → ((t : ℕ) → t < n → (f t +ℤ passed t) ≤ℤ (g t +ℤ passed (suc t))) → (total n f +ℤ passed 0) ≤ℤ (total n g +ℤ passed n)
total_passing zero f g passed step = omega (arith, ints)
total_passing (suc n) f g passed step = omega (arith, ints, total_passing n f g passed (λ t h. step t (omega arith)), step n (omega arith))

join : (l w k d m e c v : ℤ) → l ≤ℤ w → (w +ℤ k) ≤ℤ (d +ℤ e) → e ≡ pos 0 → d ≡ m -ℤ v → c ≡ m → (l +ℤ k) ≤ℤ (c -ℤ v)
join l w k d m e c v a b f g h = omega (arith, ints)

module _ (u : ThermalUnit) (q : RowPrices) where
  -- what a running or stopped period weighs is at most what it costs less what its output is worth
  light : (t : ℕ) (z : ℤ) (b : Bool) → cond b (in_test (lowest u.curve) (highest u.curve) z) (in_test (pos 0) (pos 0) z) ≡ true
      → cond b (running_weight u q t) (pos 0) ≤ℤ (cond b (running_cost u.curve z +ℤ yuan u.no_load) (pos 0) -ℤ value q t *ℤ z)
  unfolding running_weight
  light t z true h =
      let on = and_parts (le_z (lowest u.curve) z) (le_z z (highest u.curve)) h in
      let low = (decides_le (lowest u.curve) z).0 on.0 in
      let high = (decides_le z (highest u.curve)).0 on.1 in
      both_more _ (running_cost u.curve z) (value q t *ℤ z) (yuan u.no_load) ((least_over_least (lowest u.curve) (highest u.curve) (net_cost u.curve (value q t)) (between _ z _ low high)).bound z low high)
  light t z false h =
      let none = and_parts (le_z (pos 0) z) (le_z z (pos 0)) h in
      let e : pos 0 ≡ z = omega (arith, ints) in
      subst (λ r. pos 0 ≤ℤ (pos 0 -ℤ value q t *ℤ r)) e (rw *ℤ-zero (omega (arith, ints)))

  module _ (s : Schedule) (n : ℕ) where
    -- what period t passes on from the one before
    abbrev carried : ℕ → ℤ
    carried t = pos 1000 *ℤ (at q.fall t -ℤ at q.rise t) *ℤ output_before u.output s.outputs t

    period : (t : ℕ) → LawfulIn u s n t → pos 0 ≤ℤ at q.rise t → pos 0 ≤ℤ at q.fall t
        → (weight_in u q t (mark_before u s t) (mark_in s t) +ℤ carried t) ≤ℤ (cost_in u s t -ℤ at q.net t *ℤ at s.outputs t +ℤ carried (suc t))
    unfolding weight_in period_cost value
    period t lawful x-up y-up =
        one_period (at q.rise t) (at q.rise (suc t)) (at q.fall t) (at q.fall (suc t)) (at q.net t) (at s.outputs t) (output_before u.output s.outputs t) _ _ _ _ x-up y-up
        ((decides_le _ _).0 lawful.rise) ((decides_le _ _).0 lawful.fall)
        (both_more _ _ (value q t *ℤ at s.outputs t) _ (light t (at s.outputs t) (running (mark_in s t)) lawful.output))

    none_carried : at q.rise n ≡ pos 0 → at q.fall n ≡ pos 0 → carried n ≡ pos 0
    none_carried e f = rw (e, f) (zero-*ℤ (output_before u.output s.outputs n))

    module _ (c : Grains) (accepted : verdict u s n ≡ Ok c) where
      kept : keeps u n u.mark u.lasted s.marks ≡ true
      kept = (all_pass n _).1 (λ t h. let g = keeps_each u s n c accepted t h in and_from _ _ g.stop g.start)

      pub sound : Mark u.mark → length s.marks ≡ n → length q.rise ≡ n → length q.fall ≡ n
          → ((t : ℕ) → t < n → pos 0 ≤ℤ at q.rise t) → ((t : ℕ) → t < n → pos 0 ≤ℤ at q.fall t)
          → floor u q n ≤ℤ (c.0 -ℤ total n (λ t. at q.net t *ℤ at s.outputs t))
      unfolding floor
      sound mark long rises falls x-up y-up =
          let lighter = lightest_le u q mark n s.marks (marks_of n s.marks long (λ t h. leb-true _ _ (keeps_each u s n c accepted t h).mark)) kept in
          let sum = total_passing n (λ t. weight_in u q t (mark_before u s t) (mark_in s t)) (λ t. cost_in u s t -ℤ at q.net t *ℤ at s.outputs t) carried (λ t h. period t (keeps_each u s n c accepted t h) (x-up t h) (y-up t h)) in
          let apart = total_sub n (cost_in u s) (λ t. at q.net t *ℤ at s.outputs t) in
          let end = none_carried (get_or_past q.rise n (pos 0) (omega arith)) (get_or_past q.fall n (pos 0) (omega arith)) in
          join (lightest u q n) (weight u q n s.marks) (carried 0) _ _ (carried n) c.0 (total n (λ t. at q.net t *ℤ at s.outputs t)) lighter sum end apart (cost_is u s n c accepted)
