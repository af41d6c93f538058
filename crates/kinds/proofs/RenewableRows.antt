-- A table of renewable stations shows the facts of a fleet. Assumes nothing.
use Rattle.std.proofs.Common.{◌≡◌, ℕ, ◌*◌, ◌<◌, ◌≤◌, true, eqb, List, length, get_or, ℤ, pos, ◌-ℤ◌, ◌*ℤ◌, ◌≤ℤ◌, Ok, sym, ap, ◌∙◌, subst, arith}
use Rattle.std.specs.Int.{int_min}
use Rattle.std.proofs.lemmas.Int.{ints, clamps}
use Rattle.measures.specs.declared.Grains.{Grains}
use Rattle.market.specs.Fleet.{Schedule, RowPrices, Facts, Reserved}
use Rattle.market.specs.Scans.{Within, UpTo, In, at, in_test}
use Rattle.market.specs.Totals.{total}
use Rattle.market.specs.declared.broken.Broken.{Broken}
use Rattle.market.proofs.Cells.{length_part}
use Rattle.market.proofs.Scanning.{decides_in}
use Rattle.market.proofs.Totals.{total_mono, total_sub, total_within}
use Rattle.kinds.specs.declared.curve_numbers.CurveNumbers.{CurveNumbers}
use Rattle.kinds.specs.Curves as Curves
use Rattle.kinds.specs.Curves.{lowest, highest, net_cost, asked_test}
use Rattle.kinds.specs.Leasts.{Least}
use Rattle.kinds.specs.Renewables.{Table, Made, RowFits, curve, power, most_of, most, rule_at, cost_at, least_of, least_at, renewables}
use Rattle.kinds.specs.Verdicts.{Tells, LawfulAt, BreaksFirst, breaks}
use Rattle.kinds.proofs.CurveTests.{asked_told}
use Rattle.kinds.proofs.Falls.{net_cost_within}
use Rattle.kinds.proofs.Leasts.{least_over_least}
use Rattle.kinds.proofs.Running.{both_kept, which_broken, unreserved}
use Rattle.kinds.proofs.Segments.{running_cost_within}
use Rattle.kinds.proofs.Units.{wider}
use Rattle.kinds.proofs.Verdicts.{verdict_tells}

-- the linear steps, over plain variables
most_in : (a b : ℤ) → UpTo 20000 a → UpTo 20000 b → UpTo 20000 (int_min a b) × (int_min a b ≤ℤ b)
most_in a b h k = ((omega (arith, ints, clamps), omega (arith, ints, clamps)), omega (arith, ints, clamps))

costs_joined : (n : ℕ) (x : ℤ) → n ≤ 96 → Within (n * 4000000000000) x → Within 10000000000000000 x
costs_joined n x few h = (omega (arith, ints), omega (arith, ints))

floors_joined : (n : ℕ) (x : ℤ) → n ≤ 96 → Within (n * 404000000000000) x → Within 50000000000000000 x
floors_joined n x few h = (omega (arith, ints), omega (arith, ints))

below_apart : (x y cost c worth : ℤ) → x ≤ℤ y → y ≡ cost -ℤ worth → c ≡ cost → x ≤ℤ (c -ℤ worth)
below_apart x y cost c worth h e g = omega (arith, ints)

-- a row that is made: its curve, and the power that is available to it
module _ (c : CurveNumbers) (power : List ℤ) (made : Curves.Made c) (fits : RowFits c power) where
  -- what the row may feed in in a period
  pub most_small : (t : ℕ) → t < length power → UpTo 20000 (most_of c power t) × (most_of c power t ≤ℤ highest c)
  most_small t h = most_in (at power t) (highest c) (fits.available t h) (made.ranges.ends c.segments (omega arith))

  -- an output that the row may have lies on its curve
  on_curve : (p : ℤ) → pos 0 ≤ℤ p → lowest c ≤ℤ p
  on_curve p k = subst (λ x. x ≤ℤ p) (sym fits.begins) k

  pub least_is : (t : ℕ) (v : ℤ) → t < length power → Least (pos 0) (most_of c power t) (net_cost c v) (least_of c power t v)
  least_is t v h = least_over_least (pos 0) (most_of c power t) (net_cost c v) (most_small t h).0.0

  -- the least of cost less worth, in a period and in the first n
  pub least_small : (t : ℕ) (v : ℤ) → t < length power → Within 17000000000 v → Within 404000000000000 (least_of c power t v)
  least_small t v h w =
      let l = (least_is t v h).reached in
      let m = (most_small t h).1 in
      subst (Within 404000000000000) (sym l.3) (net_cost_within c made v (wider 17000000000 20000000000 v (omega arith) w) l.0 (on_curve l.0 l.1) (omega (arith, ints, l.2)))

  pub leasts_small : (net : List ℤ) (n : ℕ) → n ≤ length power → ((t : ℕ) → t < length power → Within 17000000000 (at net t)) → Within (n * 404000000000000) (total n (λ t. least_of c power t (at net t)))
  leasts_small net n l limits = total_within n 404000000000000 (λ t. least_of c power t (at net t)) (λ t k. least_small t (at net t) (omega arith) (limits t (omega arith)))

  -- the least can be asked for
  pub least_asked : (t : ℕ) (v : ℤ) → t < length power → Within 17000000000 v → asked_test c v (pos 0) (most_of c power t) ≡ true
  least_asked t v h w =
      let m = most_small t h in
      asked_told c v (pos 0) (most_of c power t) (record { value = wider 17000000000 20000000000 v (omega arith) w; on = on_curve (pos 0) (omega (arith, ints)); range = m.0.0; under = m.1 })

module _ (f : Table) (made : Made f) where
  -- the power available to row r has a cell for each period
  pub power_long : (r : ℕ) → r < length f.stations → length (power f r) ≡ f.periods
  power_long r h = length_part f.periods r (length f.stations) f.available h made.shape.lengths.all

  -- what a row's leasts come to
  pub row_floor : (r : ℕ) (c : CurveNumbers) (net xs : List ℤ) → r < length f.stations → c ≡ curve f r → xs ≡ power f r → total (length xs) (λ t. least_of c xs t (at net t)) ≡ total f.periods (λ t. least_at f r t (at net t))
  row_floor r c net xs h d e = (λ j. total (length (e j)) (λ t. least_of (d j) (e j) t (at net t))) ∙ ap (λ n. total n (λ t. least_at f r t (at net t))) (power_long r h)

  most_below : (r t : ℕ) → r < length f.stations → t < f.periods → UpTo 20000 (most f r t) × (most f r t ≤ℤ highest (curve f r))
  most_below r t h k = most_small (curve f r) (power f r) (made.curves r h) (made.rows r h) t (omega (arith, power_long r h))

  -- what a schedule costs
  costs_small : (r : ℕ) (s : Schedule) (n : ℕ) → r < length f.stations → n ≤ f.periods → Within (n * 4000000000000) (total n (cost_at f r s))
  costs_small r s n h l = total_within n 4000000000000 (cost_at f r s) (λ t k. running_cost_within (curve f r) (made.curves r h) (at s.outputs t))

  least_in : (r t : ℕ) (v : ℤ) → r < length f.stations → t < f.periods → Least (pos 0) (most f r t) (net_cost (curve f r) v) (least_at f r t v)
  least_in r t v h k = least_is (curve f r) (power f r) (made.curves r h) (made.rows r h) t v (omega (arith, power_long r h))

  floor_small : (r : ℕ) (net : List ℤ) → r < length f.stations → ((t : ℕ) → t < f.periods → Within 17000000000 (at net t)) → Within (f.periods * 404000000000000) (total f.periods (λ t. least_at f r t (at net t)))
  floor_small r net h limits = leasts_small (curve f r) (power f r) (made.curves r h) (made.rows r h) net f.periods (omega (arith, power_long r h)) (λ t k. limits t (omega (arith, power_long r h)))

  -- what a verdict on row r tells
  lawful : (r : ℕ) (s : Schedule) (c : Grains) → (renewables f).verdict r s ≡ Ok c → LawfulAt (rule_at f r s) (cost_at f r s) f.periods c
  lawful r s c e = subst (Tells (rule_at f r s) (cost_at f r s) f.periods) e (verdict_tells (rule_at f r s) (cost_at f r s) f.periods)

  outputs_in : (r : ℕ) (s : Schedule) (c : Grains) → (renewables f).verdict r s ≡ Ok c → (t : ℕ) → t < f.periods → In (pos 0) (most f r t) (at s.outputs t)
  outputs_in r s c e t h = (decides_in (pos 0) (most f r t) (at s.outputs t)).0 (both_kept (eqb (get_or s.marks t 0) 1) (in_test (pos 0) (most f r t) (at s.outputs t)) ((lawful r s c e).keeps t h))

  broken_rule : (r : ℕ) (s : Schedule) (e : Broken) → BreaksFirst (rule_at f r s) f.periods e → Reserved e.rule → ⊥
  broken_rule r s e (breaks t k h b is) = unreserved k (which_broken (eqb (get_or s.marks t 0) 1) (in_test (pos 0) (most f r t) (at s.outputs t)) k is)

  -- in no period does a lawful output cost less, at the net prices, than the least
  floor_under : (r : ℕ) (s : Schedule) (q : RowPrices) (c : Grains) → r < length f.stations → (renewables f).verdict r s ≡ Ok c
      → total f.periods (λ t. least_at f r t (at q.net t)) ≤ℤ (c.0 -ℤ total f.periods (λ t. at q.net t *ℤ at s.outputs t))
  floor_under r s q c h e =
      let n = f.periods in
      let under = total_mono n (λ t. least_at f r t (at q.net t)) (λ t. cost_at f r s t -ℤ at q.net t *ℤ at s.outputs t)
      (λ t k. let i = outputs_in r s c e t k in (least_in r t (at q.net t) h k).bound (at s.outputs t) i.0 i.1) in
      let apart = total_sub n (cost_at f r s) (λ t. at q.net t *ℤ at s.outputs t) in
      below_apart _ _ (total n (cost_at f r s)) c.0 (total n (λ t. at q.net t *ℤ at s.outputs t)) under apart (lawful r s c e).sum

  pub renewables_show : Facts (renewables f)
  renewables_show = record {
    day = made.shape.day;
    few = made.shape.lengths.few;
    outputs = λ r s c h fits e t k. let i = outputs_in r s c e t k in let m = (most_below r t h k).0 in (omega (arith, ints), omega (arith, ints));
    costs = λ r s c h fits e. subst (Within 10000000000000000) (sym (lawful r s c e).sum) (costs_joined f.periods _ made.shape.day.1 (costs_small r s f.periods h (omega arith)));
    floors = λ r q h p. floors_joined f.periods _ made.shape.day.1 (floor_small r q.net h p.net_limit);
    rules = λ r s e h fits is. broken_rule r s e (subst (Tells (rule_at f r s) (cost_at f r s) f.periods) is (verdict_tells (rule_at f r s) (cost_at f r s) f.periods));
    sound = λ r s q c h fits p e. floor_under r s q c h e;
  }
