-- How large a thermal unit's numbers are, and that a table of units shows the facts of a fleet. Assumes nothing.
use Rattle.std.proofs.Common.{◌≡◌, ℕ, suc, ◌+◌, ◌-◌, ◌*◌, ◌<◌, ◌≤◌, Bool, true, false, cond, List, length, get_or, ℤ, pos, ◌+ℤ◌, ◌-ℤ◌, ◌*ℤ◌, ◌≤ℤ◌, sym, subst, inl, inr, arith}
use Rattle.std.proofs.lemmas.List.{get_or_past}
use Rattle.std.proofs.lemmas.Int.{ints}
use Rattle.std.proofs.lemmas.Bool.{cases_lt, cases_eq}
use Rattle.market.specs.Fleet.{Meaning, RowPrices, Priced, Facts, Reserved}
use Rattle.market.specs.Scans.{at, In, Within, UpTo, in_test}
use Rattle.market.proofs.Ints.{times_within}
use Rattle.market.proofs.NetPrices.{difference_within}
use Rattle.market.proofs.Scanning.{decides_in}
use Rattle.market.proofs.Totals.{total_within}
use Rattle.kinds.specs.declared.thermal_unit.ThermalUnit.{ThermalUnit}
use Rattle.kinds.specs.Curves.{lowest, highest, net_cost}
use Rattle.kinds.specs.Leasts.{least_over}
use Rattle.kinds.specs.Thermal.{UnitMade, yuan, running, starts, rise_allowance, fall_allowance, before, mark_in, period_cost, cost_in, value, running_weight, weight_in, lightest, floor, unit, TableMade, units}
use Rattle.kinds.specs.Walks.{best, on_from, off_from, run_from, PricesFit, Ahead, Walked, AheadWithin}
use Rattle.kinds.proofs.Leasts.{least_over_least}
use Rattle.kinds.proofs.Segments.{ends_up, running_cost_within}
use Rattle.kinds.proofs.Falls.{net_cost_within}
use Rattle.kinds.proofs.Lawful.{keeps_each, cost_is, rule_numbered}
use Rattle.kinds.proofs.Sequences.{Mark, on, off, mark_of, best_reached, lightest_reached}
use Rattle.kinds.proofs.Soundness.{sound}

-- ---- bounds of sums and choices
pub wider : (a b : ℕ) (x : ℤ) → a ≤ b → Within a x → Within b x
wider a b x l h = (omega (arith, ints), omega (arith, ints))

within_add : (a b : ℕ) (x y : ℤ) → Within a x → Within b y → Within (a + b) (x +ℤ y)
within_add a b x y h k = (omega (arith, ints), omega (arith, ints))

within_sub : (a b : ℕ) (x y : ℤ) → Within a x → Within b y → Within (a + b) (x -ℤ y)
within_sub a b x y h k = (omega (arith, ints), omega (arith, ints))

within_cond : (a : ℕ) (b : Bool) (x y : ℤ) → Within a x → Within a y → Within a (cond b x y)
within_cond a true x y h k = h
within_cond a false x y h k = k

within_zero : (a : ℕ) → Within a (pos 0)
within_zero a = (omega (arith, ints), omega (arith, ints))

within_up : (a : ℕ) (x : ℤ) → UpTo a x → Within a x
within_up a x h = (omega (arith, ints), h.1)

pub thousand : (a : ℕ) (x : ℤ) → Within a x → Within (1000 * a) (pos 1000 *ℤ x)
thousand a x h = (omega (arith, ints), omega (arith, ints))

yuan_within : (n most : ℕ) → n ≤ most → Within (4000000 * most) (yuan n)
yuan_within n most h = (omega (arith, ints), omega (arith, ints))

value_small : (n x x' y y' : ℤ) → Within 17000000000 n → UpTo 1000000 x → UpTo 1000000 x' → UpTo 1000000 y → UpTo 1000000 y' → Within 20000000000 (n -ℤ pos 1000 *ℤ (x -ℤ x' -ℤ y +ℤ y'))
value_small n x x' y y' h a b c d = wider 19000000000 20000000000 _ (omega arith) (within_sub 17000000000 2000000000 n _ h (thousand 2000000 (x -ℤ x' -ℤ y +ℤ y') (omega (arith, ints), omega (arith, ints))))

-- a price on an allowance, and the output before the day at the prices of a fall and a rise
pub price_small : (x l : ℤ) → UpTo 1000000 x → Within 20000 l → Within 20000000000 (x *ℤ l)
price_small x l h k = times_within x l 1000000 20000 (within_up 1000000 x h) k

pub carried_small : (f r o : ℤ) → UpTo 1000000 f → UpTo 1000000 r → Within 20000 o → Within 20000000000000 (pos 1000 *ℤ (f -ℤ r) *ℤ o)
carried_small f r o h k w = times_within (pos 1000 *ℤ (f -ℤ r)) o 1000000000 20000 (thousand 1000000 _ (difference_within 1000000 f r h k)) w

inside : (low high x : ℤ) → pos 0 ≤ℤ low → high ≤ℤ pos 20000 → In low high x → Within 20000 x
inside low high x a b h = (omega (arith, ints), omega (arith, ints))

none_fits : (x : ℤ) → x ≡ pos 0 → Within 20000 x
none_fits x e = (omega (arith, ints), omega (arith, ints))

-- ---- the numbers of one unit
module _ (u : ThermalUnit) (made : UnitMade u) where
  on_curve : (x : ℤ) → In (lowest u.curve) (highest u.curve) x → Within 20000 x
  on_curve x h = inside (lowest u.curve) (highest u.curve) x (made.curve.ranges.ends 0 (omega arith)).0 (made.curve.ranges.ends u.curve.segments (omega arith)).1 h

  low_high : lowest u.curve ≤ℤ highest u.curve
  low_high = ends_up u.curve made.curve 0 u.curve.segments (omega arith) (omega arith)

  pub mark_is : Mark u.mark
  mark_is = mark_of u.mark made.numbers.mark

  pub output_within : Within 20000 u.output
  output_within =
      elim (cases_eq u.mark 0) [
        | inl e ↦ none_fits u.output (made.numbers.stopped e)
        | inr ne ↦ on_curve u.output (made.numbers.running (omega (arith, made.numbers.mark)))
      ]

  pub no_load_within : Within 400000000000 (yuan u.no_load)
  no_load_within = yuan_within u.no_load 100000 made.numbers.no_load

  start_cost_within : Within 8000000000000 (yuan u.start_cost)
  start_cost_within = yuan_within u.start_cost 2000000 made.numbers.start_cost

  pub rise_allowance_within : (b m : ℕ) → Within 20000 (rise_allowance u b m)
  rise_allowance_within b m =
      within_cond 20000 (running m) _ _ (within_cond 20000 (running b) _ _ (within_up 20000 _ made.numbers.ramp_up) (on_curve _ made.numbers.start_limit)) (within_zero 20000)

  pub fall_allowance_within : (b m : ℕ) → Within 20000 (fall_allowance u b m)
  fall_allowance_within b m =
      within_cond 20000 (running b) _ _ (within_cond 20000 (running m) _ _ (within_up 20000 _ made.numbers.ramp_down) (on_curve _ made.numbers.stop_limit)) (within_zero 20000)

  -- ---- the least of running cost less worth, where a tenth of a megawatt is worth v
  pub least_small : (v : ℤ) → Within 20000000000 v → Within 404000000000000 (least_over (lowest u.curve) (highest u.curve) (net_cost u.curve v))
  least_small v h =
      let r = (least_over_least (lowest u.curve) (highest u.curve) (net_cost u.curve v) low_high).reached in
      subst (λ z. Within 404000000000000 z) (sym r.3) (net_cost_within u.curve made.curve v h r.0 r.1 r.2)

  -- what a period weighs before its allowances, where a running one weighs w before its start
  pub before_allowances : (b m : ℕ) (w : ℤ) → Within 404400000000000 w → Within 412400000000000 (cond (running m) w (pos 0) +ℤ cond (starts b m) (yuan u.start_cost) (pos 0))
  before_allowances b m w h = within_add 404400000000000 8000000000000 _ _ (within_cond 404400000000000 (running m) _ _ h (within_zero 404400000000000)) (within_cond 8000000000000 (starts b m) _ _ start_cost_within (within_zero 8000000000000))

  -- ---- what a period costs
  pub period_cost_within : (b m : ℕ) (p : ℤ) → Within 12400000000000 (period_cost u b m p)
  unfolding period_cost
  period_cost_within b m p =
      within_add 4400000000000 8000000000000 _ _
      (within_cond 4400000000000 (running m) _ _ (within_add 4000000000000 400000000000 _ _ (running_cost_within u.curve made.curve p) no_load_within) (within_zero 4400000000000))
      (within_cond 8000000000000 (starts b m) _ _ start_cost_within (within_zero 8000000000000))

  -- ---- at prices within their limits
  module _ (q : RowPrices) (fit : PricesFit q) where
    pub value_within : (t : ℕ) → Within 20000000000 (value q t)
    unfolding value
    value_within t = value_small (at q.net t) (at q.rise t) (at q.rise (suc t)) (at q.fall t) (at q.fall (suc t)) (fit.net t) (fit.rise t) (fit.rise (suc t)) (fit.fall t) (fit.fall (suc t))

    pub least_within : (t : ℕ) → Within 404000000000000 (least_over (lowest u.curve) (highest u.curve) (net_cost u.curve (value q t)))
    least_within t = least_small (value q t) (value_within t)

    pub running_weight_within : (t : ℕ) → Within 404400000000000 (running_weight u q t)
    unfolding running_weight
    running_weight_within t = within_add 404000000000000 400000000000 _ _ (least_within t) no_load_within

    rise_price_within : (t b m : ℕ) → Within 20000000000 (at q.rise t *ℤ rise_allowance u b m)
    rise_price_within t b m = price_small (at q.rise t) (rise_allowance u b m) (fit.rise t) (rise_allowance_within b m)

    fall_price_within : (t b m : ℕ) → Within 20000000000 (at q.fall t *ℤ fall_allowance u b m)
    fall_price_within t b m = price_small (at q.fall t) (fall_allowance u b m) (fit.fall t) (fall_allowance_within b m)

    pub weight_in_within : (t b m : ℕ) → Within 452400000000000 (weight_in u q t b m)
    unfolding weight_in
    weight_in_within t b m =
        within_sub 412400000000000 40000000000000 _ _
        (before_allowances b m _ (running_weight_within t))
        (thousand 40000000000 _ (within_add 20000000000 20000000000 _ _ (rise_price_within t b m) (fall_price_within t b m)))

    -- ---- what the walk back holds
    module _ (n : ℕ) (day : n ≤ 96) where
      many : (k : ℕ) (x : ℤ) → k ≤ n → Within (k * 452400000000000) x → Within 43430400000000000 x
      many k x h w = wider (k * 452400000000000) 43430400000000000 x (omega arith) w

      best_within : {b : ℕ} (k t h : ℕ) → Mark b → k ≤ n → Within 43430400000000000 (best u (weight_in u q) k t b h)
      best_within {b} k t h mark few =
          let r = best_reached u (weight_in u q) k t h mark in
          subst (λ z. Within 43430400000000000 z) r.3 (many k _ few (total_within k 452400000000000 _ (λ j l. weight_in_within (t + j) (before b r.0 j) (get_or r.0 j 0))))

      on_within : (t : ℕ) → Within 43430400000000000 (on_from u q n t)
      unfolding on_from
      on_within t = best_within (n - t) t u.least_running on (omega arith)

      off_within : (t : ℕ) → Within 43430400000000000 (off_from u q n t)
      unfolding off_from
      off_within t = best_within (n - t) t u.least_stopped off (omega arith)

      run_within : (t : ℕ) → Within 43430400000000000 (run_from u q n t)
      unfolding run_from
      run_within t = many (n - t) _ (omega arith) (total_within (n - t) 452400000000000 _ (λ j l. weight_in_within (t + j) 1 1))

      -- and so what is told of it
      pub cells_within : (t : ℕ) (ahead : ℕ → Ahead) → Walked u q n t ahead → (k : ℕ) → t ≤ k → k ≤ n → AheadWithin (ahead k)
      cells_within t ahead w k h l =
          let W : ℤ → Type 0 = λ z. Within 43430400000000000 z in
          record { run = subst W (sym (w.runs k h l)) (run_within k); on = subst W (sym (w.ons k h l)) (on_within k); off = subst W (sym (w.offs k h l)) (off_within k) }

      -- what the output before the day passes on
      pub carried_within : Within 20000000000000 (pos 1000 *ℤ (at q.fall 0 -ℤ at q.rise 0) *ℤ u.output)
      carried_within = carried_small (at q.fall 0) (at q.rise 0) u.output (fit.fall 0) (fit.rise 0) output_within

      lightest_within : Within 43430400000000000 (lightest u q n)
      lightest_within =
          let r = lightest_reached u q mark_is n in
          subst (λ z. Within 43430400000000000 z) (sym r.3) (many n _ (omega arith) (total_within n 452400000000000 _ (λ t l. weight_in_within t (before u.mark r.0 t) (get_or r.0 t 0))))

      floor_within : Within 50000000000000000 (floor u q n)
      unfolding floor
      floor_within = wider (43430400000000000 + 20000000000000) 50000000000000000 _ (omega arith) (within_add 43430400000000000 20000000000000 _ _ lightest_within carried_within)

-- ---- prices within their limits, past their lists too
up_any : (n k : ℕ) (xs : List ℤ) → length xs ≡ n → ((t : ℕ) → t < n → UpTo k (at xs t)) → (t : ℕ) → UpTo k (at xs t)
up_any n k xs long h t =
    elim (cases_lt t n) [ inl l ↦ h t l | inr l ↦ let e = get_or_past xs t (pos 0) (omega arith) in (omega (arith, ints), omega (arith, ints)) ]

within_any : (n k : ℕ) (xs : List ℤ) → length xs ≡ n → ((t : ℕ) → t < n → Within k (at xs t)) → (t : ℕ) → Within k (at xs t)
within_any n k xs long h t =
    elim (cases_lt t n) [ inl l ↦ h t l | inr l ↦ let e = get_or_past xs t (pos 0) (omega arith) in (omega (arith, ints), omega (arith, ints)) ]

pub prices_fit : (m : Meaning) (q : RowPrices) → Priced m q → PricesFit q
prices_fit m q p = record {
  net = within_any m.periods 17000000000 q.net p.nets p.net_limit;
  rise = up_any m.periods 1000000 q.rise p.rises p.rise_limit;
  fall = up_any m.periods 1000000 q.fall p.falls p.fall_limit;
}

-- ---- the facts
pub output_lawful : (u : ThermalUnit) → UnitMade u → (b : Bool) (z : ℤ) → cond b (in_test (lowest u.curve) (highest u.curve) z) (in_test (pos 0) (pos 0) z) ≡ true → Within 20000 z
output_lawful u made true z h = on_curve u made z ((decides_in (lowest u.curve) (highest u.curve) z).0 h)
output_lawful u made false z h = let w = (decides_in (pos 0) (pos 0) z).0 h in (omega (arith, ints), omega (arith, ints))

reserved : (k : ℕ) → (10 ≤ k) × (k ≤ 15) → Reserved k → ⊥
reserved k h (inl r) = omega arith
reserved k h (inr r) = omega arith

pub facts : (periods : ℕ) (us : List ThermalUnit) → TableMade periods us → Facts (units periods us)
facts periods us made = record {
  day = made.day;
  few = made.few;
  outputs = λ r s c l fits ok t h. output_lawful (unit us r) (made.rows r l) (running (mark_in s t)) (at s.outputs t) (keeps_each (unit us r) s periods c ok t h).output;
  costs = λ r s c l fits ok. subst (λ z. Within 10000000000000000 z) (sym (cost_is (unit us r) s periods c ok))
      (wider (periods * 12400000000000) 10000000000000000 _ (omega (arith, made.day.1)) (total_within periods 12400000000000 (cost_in (unit us r) s) (λ t h. period_cost_within (unit us r) (made.rows r l) _ _ _)));
  floors = λ r q l priced. floor_within (unit us r) (made.rows r l) q (prices_fit (units periods us) q priced) periods made.day.1;
  rules = λ r s e l fits h. reserved e.rule (rule_numbered (unit us r) s periods e h);
  sound = λ r s q c l fits priced ok. sound (unit us r) q s periods c ok (mark_is (unit us r) (made.rows r l)) fits.marks priced.rises priced.falls (λ t h. (priced.rise_limit t h).0) (λ t h. (priced.fall_limit t h).0);
}
