-- The parts of a floor, added up: what loads pay, what limits come to, and the rows' floors. Assumes nothing.
use Rattle.std.proofs.Common.{◌≡◌, ℕ, ◌+◌, ◌-◌, ◌*◌, ◌/◌, ◌%◌, ◌<◌, ◌≤◌, List, map, length, take, drop, ℤ, pos, ◌+ℤ◌, ◌-ℤ◌, ◌*ℤ◌, Ok, Err, Result, sym, refl, ap, ◌∙◌, subst, mod-lt, div-add-mod', zero-add, arith}
use Rattle.std.proofs.lemmas.Nat.{div-mul-add, mod-mul-add, mul-le}
use Rattle.std.proofs.lemmas.List.{length-map, ext_get_or}
use Rattle.std.proofs.lemmas.Int.{ints}
use Rattle.std.proofs.lemmas.Bool.{cond-true, and_from, lt-ltb, eq-eqb}
use Rattle.measures.specs.declared.Grains.{Grains}
use Rattle.market.specs.declared.refusal.Refusal.TheVariants.{Price}
use Rattle.market.specs.declared.broken.Broken.{Broken}
use Rattle.market.specs.Bounding.{PricesFit, Over, over, LinesPriced, Ready, Netted, pays, comes, loads_pay, limits_come, PeriodsFloored, RowsFloored, Floored, Bounded}
use Rattle.market.specs.Clearing.{PriceSet, InRange, part, range, load, net_price, row_prices}
use Rattle.market.specs.Days.{Numbers, Made, LimitsFit}
use Rattle.market.specs.Fleet.{Meaning, Facts, Priced, unless, floor_answer}
use Rattle.market.specs.Scans.{at, Within, UpTo, FirstOut}
use Rattle.market.specs.Totals.{total}
use Rattle.market.proofs.Cells.{length_part_within, at_part, length_range, at_range, place_below}
use Rattle.market.proofs.Ints.{times_assoc, times_within}
use Rattle.market.proofs.NetPrices.{moderate_of, net_before_small}
use Rattle.market.proofs.Pricing.{priced_no_fault}
use Rattle.market.proofs.Totals.{total_more, total_within}
use Rattle.market.proofs.Undercut.{priced, no_plan_undercuts}

-- a cell by its item and its period
pub over_at : (n : ℕ) (xs : List ℤ) (i : ℕ) → 1 ≤ n → FirstOut (pos 0) (pos 1000000) xs i → Over n xs (Price (i / n) (i % n + 1))
over_at n xs i some out = over (i / n) (i % n) (mod-lt i some) (subst (FirstOut _ _ xs) (sym (div-add-mod' i n)) out)

module _ (d : Numbers) (m : Meaning) (s : PriceSet) where
  pub lines_priced : Ready d m s → LinesPriced d s
  lines_priced r = record {
    system_cells = r.sized.system;
    upper_cells = r.sized.upper;
    lower_cells = r.sized.lower;
    system = r.fit.system;
    upper = r.fit.upper;
    lower = r.fit.lower;
  }

  pub in_range : Ready d m s → InRange d m s
  in_range r = record {
    system = λ t h. r.fit.system t (omega (arith, r.sized.system));
    upper = λ i h. r.fit.upper i (omega (arith, r.sized.upper));
    lower = λ i h. r.fit.lower i (omega (arith, r.sized.lower));
    rise = λ i h. r.fit.rise i (omega (arith, r.sized.rise));
    fall = λ i h. r.fit.fall i (omega (arith, r.sized.fall));
  }

-- ---- the linear steps, over plain variables
widened : (n : ℕ) (x y : ℤ) → Within (n * 680000000000000) x → Within 680000000000000 y → Within ((n + 1) * 680000000000000) (x +ℤ y)
widened n x y h k = (omega (arith, ints), omega (arith, ints))

limits_apart : (x y : ℤ) → Within 200000000000 x → Within 200000000000 y → Within 400000000000 (x -ℤ y)
limits_apart x y h k = (omega (arith, ints), omega (arith, ints))

limit_step : (t a b x y : ℤ) → x ≡ pos 1000 *ℤ a → y ≡ pos 1000 *ℤ b → (pos 1000 *ℤ t) +ℤ (x -ℤ y) ≡ pos 1000 *ℤ (t +ℤ (a -ℤ b))
limit_step t a b x y e f = omega (arith, ints)

thousandfold : (n : ℕ) (x : ℤ) → Within (n * 400000000000) x → Within (n * 400000000000000) (pos 1000 *ℤ x)
thousandfold n x h = (omega (arith, ints), omega (arith, ints))

period_joined : (k l : ℕ) (x y : ℤ) → k ≤ 16 → l ≤ 16 → Within (k * 680000000000000) x → Within (l * 400000000000000) y → Within 17280000000000000 (x -ℤ y)
period_joined k l x y a b h i = (omega (arith, ints), omega (arith, ints))

period_more : (n : ℕ) (x y : ℤ) → Within (n * 17280000000000000) x → Within 17280000000000000 y → Within ((n + 1) * 17280000000000000) (x +ℤ y)
period_more n x y h k = (omega (arith, ints), omega (arith, ints))

row_more : (n : ℕ) (x y : ℤ) → Within (n * 50000000000000000) x → Within 50000000000000000 y → Within ((n + 1) * 50000000000000000) (x +ℤ y)
row_more n x y h k = (omega (arith, ints), omega (arith, ints))

all_small : (n k : ℕ) (x y : ℤ) → n ≤ 32 → k ≤ 96 → Within (n * 50000000000000000) x → Within (k * 17280000000000000) y → Within 4000000000000000000 (x +ℤ y)
all_small n k x y a b h i = (omega (arith, ints), omega (arith, ints))

-- a limit at its price in grains: how large it becomes
scaled : (x p l : ℤ) → x ≡ (pos 1000 *ℤ p) *ℤ l → Within 200000000000 (p *ℤ l) → Within 200000000000000 x
scaled x p l e h = thousand x (p *ℤ l) (e ∙ times_assoc (pos 1000) p l) h
  where
    thousand : (x y : ℤ) → x ≡ pos 1000 *ℤ y → Within 200000000000 y → Within 200000000000000 x
    thousand x y e h = (omega (arith, ints), omega (arith, ints))

pub apart : (x y : ℤ) → Within 200000000000000 x → Within 200000000000000 y → Within 400000000000000 (x -ℤ y)
apart x y h k = (omega (arith, ints), omega (arith, ints))

up_to : {x : ℤ} → UpTo 1000000 x → Within 1000000 x
up_to h = (omega (arith, ints), omega (arith, ints))

-- ---- a period: loads and limits
module _ (d : Numbers) (s : PriceSet) (made : Made d) (priced : LinesPriced d s) (t : ℕ) (on : t < d.periods) where
  pub load_cell : (k : ℕ) → k < d.nodes → k * d.periods + t < length d.loads
  load_cell k h = omega (arith, place_below k d.nodes d.periods t h on, made.lengths.loads)

  pub pays_small : (k : ℕ) → k < d.nodes → Within 680000000000000 (pays d s t k)
  pays_small k h = times_within (net_price d s k t) (load d k t) 17000000000 40000 (net_before_small d s made priced k t d.lines h on (omega arith)) (made.loads (k * d.periods + t) (load_cell k h))

  pub paid_small : (n : ℕ) → n ≤ d.nodes → Within (n * 680000000000000) (total n (pays d s t))
  paid_small n few = total_within n 680000000000000 (pays d s t) (λ k h. pays_small k (omega arith))

  pub net_cell : (nets : List ℤ) → Netted d s nets → (k : ℕ) → k < d.nodes → at nets (k * d.periods + t) ≡ net_price d s k t
  net_cell nets netted k h =
      netted.told (k * d.periods + t) (place_below k d.nodes d.periods t h on)
      ∙ λ j. net_price d s (div-mul-add k d.periods t on j) (mod-mul-add k d.periods t on j)

  line_cell : (l : ℕ) → l < d.lines → l * d.periods + t < d.lines * d.periods
  line_cell l h = place_below l d.lines d.periods t h on

  -- a limit at its price, of a table of prices and one of limits
  limit_small : (prices limits : List ℤ) → length prices ≡ d.lines * d.periods → PricesFit prices → length limits ≡ d.lines → LimitsFit limits (length limits)
      → (l : ℕ) → l < d.lines → Within 200000000000 (at prices (l * d.periods + t) *ℤ at limits l)
  limit_small prices limits c p e f l h = times_within _ _ 1000000 200000 (up_to (p (l * d.periods + t) (omega (arith, line_cell l h, c)))) (f l (omega (arith, e)))

  upper_small : (l : ℕ) → l < d.lines → Within 200000000000 (at s.upper (l * d.periods + t) *ℤ at d.upper l)
  upper_small = limit_small s.upper d.upper priced.upper_cells priced.upper made.lengths.upper made.upper

  pub upper_worth : (l : ℕ) → l < d.lines → (x : ℤ) → x ≡ (pos 1000 *ℤ at s.upper (l * d.periods + t)) *ℤ at d.upper l → Within 200000000000000 x
  upper_worth l h x e = scaled x (at s.upper (l * d.periods + t)) (at d.upper l) e (upper_small l h)

  lower_small : (l : ℕ) → l < d.lines → Within 200000000000 (at s.lower (l * d.periods + t) *ℤ at d.lower l)
  lower_small = limit_small s.lower d.lower priced.lower_cells priced.lower made.lengths.lower made.lower

  pub lower_worth : (l : ℕ) → l < d.lines → (x : ℤ) → x ≡ (pos 1000 *ℤ at s.lower (l * d.periods + t)) *ℤ at d.lower l → Within 200000000000000 x
  lower_worth l h x e = scaled x (at s.lower (l * d.periods + t)) (at d.lower l) e (lower_small l h)

  pub come_small : (n : ℕ) → n ≤ d.lines → Within (n * 400000000000000) (pos 1000 *ℤ total n (comes d s t))
  come_small n few = thousandfold n (total n (comes d s t)) (total_within n 400000000000 (comes d s t) (λ l h. limits_apart _ _ (upper_small l (omega arith)) (lower_small l (omega arith))))

  -- one line more
  pub comes_more : (l : ℕ) (x y all : ℤ) → all ≡ pos 1000 *ℤ total l (comes d s t) → x ≡ (pos 1000 *ℤ at s.upper (l * d.periods + t)) *ℤ at d.upper l → y ≡ (pos 1000 *ℤ at s.lower (l * d.periods + t)) *ℤ at d.lower l
      → all +ℤ (x -ℤ y) ≡ pos 1000 *ℤ total (l + 1) (comes d s t)
  comes_more l x y all e f g =
      ap (λ z. z +ℤ (x -ℤ y)) e
      ∙ limit_step (total l (comes d s t)) (at s.upper (l * d.periods + t) *ℤ at d.upper l) (at s.lower (l * d.periods + t) *ℤ at d.lower l) x y (f ∙ times_assoc (pos 1000) (at s.upper (l * d.periods + t)) (at d.upper l)) (g ∙ times_assoc (pos 1000) (at s.lower (l * d.periods + t)) (at d.lower l))
      ∙ ap (λ z. pos 1000 *ℤ z) (sym (total_more l (comes d s t)))

  pub period_small : Within 17280000000000000 (loads_pay d s t -ℤ limits_come d s t)
  period_small = period_joined d.nodes d.lines _ _ made.shape.nodes.1 made.shape.lines (paid_small d.nodes (omega arith)) (come_small d.lines (omega arith))

pub periods_none : (d : Numbers) (s : PriceSet) → PeriodsFloored d s 0 (pos 0)
periods_none d s = record { sum = refl; small = (omega (arith, ints), omega (arith, ints)) }

pub rows_none : (d : Numbers) (m : Meaning) (s : PriceSet) → RowsFloored d m s 0 (pos 0)
rows_none d m s = record { sum = refl; small = (omega (arith, ints), omega (arith, ints)) }

-- one period more
module _ (d : Numbers) (s : PriceSet) (made : Made d) (priced : LinesPriced d s) where
  pub periods_more : (t : ℕ) (c x : ℤ) → t < d.periods → x ≡ loads_pay d s t -ℤ limits_come d s t → PeriodsFloored d s t c → PeriodsFloored d s (t + 1) (c +ℤ x)
  periods_more t c x on e so = record {
    sum = (λ j. so.sum j +ℤ e j) ∙ sym (total_more t (λ t. loads_pay d s t -ℤ limits_come d s t));
    small = period_more t c x so.small (subst (Within 17280000000000000) (sym e) (period_small d s made priced t on));
  }

-- ---- the rows
pub not_ok : (e : Broken) (f : Grains) → ◌≡◌ {A = Result Grains Broken} (Err e) (Ok f) → ⊥
not_ok e f is = let z : ◌≡◌ {A = ℕ} 0 1 = cc in omega arith

module _ (d : Numbers) (m : Meaning) (s : PriceSet) (facts : Facts m) (made : Made d) (ready : Ready d m s) where
  row_priced : (r : ℕ) → r < m.size → Priced m (row_prices d m s r)
  row_priced = priced d m s facts ready.placed (moderate_of d made) ready.sized (in_range d m s ready)

  -- the fleet's answer on row r is the floor that it means
  answer_is : (r : ℕ) → r < m.size → floor_answer m r (row_prices d m s r) ≡ Ok (m.floor r (row_prices d m s r))
  answer_is r h =
      let p = row_priced r h in
      cond-true _ _ _ (and_from _ _ (lt-ltb r m.size h) (and_from _ _ (eq-eqb _ _ p.nets) (and_from _ _ (eq-eqb _ _ p.rises) (eq-eqb _ _ p.falls))))
      ∙ ap (λ f. unless f (m.floor r (row_prices d m s r))) (sym (priced_no_fault m (row_prices d m s r) p))

  -- the part of the net prices that the fleet is handed is its node's
  nets_are : (nets : List ℤ) → Netted d s nets → (k : ℕ) → k < d.nodes → part d.periods k nets ≡ map (net_price d s k) (range 0 d.periods)
  nets_are nets netted k h =
      ext_get_or (pos 0) _ _ (long ∙ sym (length-map (range 0 d.periods) (net_price d s k) ∙ length_range 0 d.periods))
      (λ t l. let on : t < d.periods = subst (λ n. t < n) long l in
      at_part d.periods k t nets (pos 0) on ∙ net_cell d s made (lines_priced d m s ready) t on nets netted k h
      ∙ sym (at_range (net_price d s k) 0 d.periods t (pos 0) on ∙ ap (net_price d s k) (zero-add t)))
    where
      long : length (part d.periods k nets) ≡ d.periods
      long = length_part_within d.periods k d.nodes nets h (omega (arith, netted.long, mul-le d.nodes d.periods 16 96 made.shape.nodes.1 made.shape.periods.1))

  pub floor_told : (nets : List ℤ) → Netted d s nets → (r k : ℕ) (v : Result Grains Broken) → r < m.size → k ≡ m.node r
      → v ≡ floor_answer m r (record {
        net = take (k * d.periods + d.periods - k * d.periods) (drop (k * d.periods) nets);
        rise = take (r * d.periods + d.periods - r * d.periods) (drop (r * d.periods) s.rise);
        fall = take (r * d.periods + d.periods - r * d.periods) (drop (r * d.periods) s.fall);
      })
      → v ≡ Ok (m.floor r (row_prices d m s r))
  floor_told nets netted r k v h is e =
      let here : k * d.periods + d.periods - k * d.periods ≡ d.periods = omega arith in
      let size : r * d.periods + d.periods - r * d.periods ≡ d.periods = omega arith in
      let inside : k < d.nodes = omega (arith, ready.placed.nodes r h) in
      let net : take (k * d.periods + d.periods - k * d.periods) (drop (k * d.periods) nets) ≡ (row_prices d m s r).net =
      ap (λ n. take n (drop (k * d.periods) nets)) here ∙ nets_are nets netted k inside ∙ ap (λ k. map (net_price d s k) (range 0 d.periods)) is in
      e ∙ (λ j. floor_answer m r (record { net = net j; rise = take (size j) (drop (r * d.periods) s.rise); fall = take (size j) (drop (r * d.periods) s.fall) }))
      ∙ answer_is r h

  pub rows_more : (r : ℕ) (c : ℤ) (more : Grains) → r < m.size → ◌≡◌ {A = Result Grains Broken} (Ok more) (Ok (m.floor r (row_prices d m s r))) → RowsFloored d m s r c → RowsFloored d m s (r + 1) (c +ℤ more.0)
  rows_more r c more h e so =
      let is : more ≡ m.floor r (row_prices d m s r) = cc in
      let sum : more.0 ≡ (m.floor r (row_prices d m s r)).0 = ap (λ g. g.0) is in
      record {
        sum = (λ j. so.sum j +ℤ sum j) ∙ sym (total_more r (λ r. (m.floor r (row_prices d m s r)).0));
        small = row_more r c more.0 so.small (subst (Within 50000000000000000) (sym sum) (facts.floors r (row_prices d m s r) h (row_priced r h)));
      }

  pub floored : (x y : ℤ) → RowsFloored d m s m.size x → PeriodsFloored d s d.periods y → Floored d m s (x +ℤ y)
  floored x y rows periods = record {
    floor = λ j. rows.sum j +ℤ periods.sum j;
    small = all_small m.size d.periods x y facts.few made.shape.periods.1 rows.small periods.small;
  }

  pub bounded : (c : Grains) → Floored d m s c.0 → Bounded d m s c
  bounded c f = record {
    placed = ready.placed;
    sized = ready.sized;
    within = in_range d m s ready;
    floor = f.floor;
    undercut_by_none = λ p lawful. rw f.floor (no_plan_undercuts d m s facts ready.placed (moderate_of d made) ready.sized (in_range d m s ready) p lawful);
    small = f.small;
  }
