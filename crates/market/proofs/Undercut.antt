-- No lawful plan costs less than the floor that a price set gives: weak duality, summed over rows, lines and periods.
-- A row's own floor is `Facts.sound`; the rest is linear, with prices of line limits that are not negative. Assumes nothing.
use Rattle.std.proofs.Common.{◌≡◌, ℕ, ◌+◌, ◌*◌, ◌<◌, true, ℤ, pos, ◌+ℤ◌, ◌-ℤ◌, ◌*ℤ◌, ◌≤ℤ◌, is_ok, Ok, Err, Result, sym, refl, ap, ◌∙◌, zero-add, arith}
use Rattle.std.proofs.lemmas.List.{length-map}
use Rattle.std.proofs.lemmas.Int.{ints}
use Rattle.market.specs.declared.broken.Broken.{Broken}
use Rattle.measures.specs.declared.Grains.{Grains}
use Rattle.market.specs.Days.{Numbers}
use Rattle.market.specs.Fleet.{Meaning, Facts, Fits, Priced}
use Rattle.market.specs.Scans.{at}
use Rattle.market.specs.Totals.{total}
use Rattle.market.specs.Clearing.{Plan, PriceSet, Lawful, InRange, Placed, Moderate, Sized, FloorsStand, range, row, output, load, factor, supply, demand, flow, amount, cost, floor, net_price, row_prices}
use Rattle.market.proofs.Ints.{sub_times, times_sub, times_assoc, times_left_comm, times_mono}
use Rattle.market.proofs.Totals.{total_cong, total_mono, total_sub, total_times, times_total, total_swap}
use Rattle.market.proofs.Cells.{length_part, at_part, length_range, at_range, place_below}
use Rattle.market.proofs.NetPrices.{line_price, net_within}

-- what a verdict of Ok holds
pub ok_amount : (v : Result Grains Broken) → is_ok v ≡ true → (c : Grains) × (v ≡ Ok c) × (amount v ≡ c.0)
ok_amount (Ok c) e = (c, refl, refl)
ok_amount (Err b) e = let z : ◌≡◌ {A = ℕ} 0 1 = cc in absurd (omega arith)

-- prices over any items x at nodes ν: c is the system's part, v the line's prices, g the factors
spread : (n lines : ℕ) (c : ℤ) (v : ℕ → ℤ) (g : ℕ → ℕ → ℤ) (ν : ℕ → ℕ) (x : ℕ → ℤ)
    → total n (λ i. (c -ℤ total lines (λ l. v l *ℤ g l (ν i))) *ℤ x i)
    ≡ (c *ℤ total n x) -ℤ total lines (λ l. v l *ℤ total n (λ i. g l (ν i) *ℤ x i))
spread n lines c v g ν x =
    total_cong n _ _ (λ i h. sub_times c (total lines (λ l. v l *ℤ g l (ν i))) (x i))
    ∙ total_sub n (λ i. c *ℤ x i) (λ i. total lines (λ l. v l *ℤ g l (ν i)) *ℤ x i)
    ∙ λ j. total_times n c x j -ℤ moved j
  where
    inner : (i : ℕ) → total lines (λ l. v l *ℤ g l (ν i)) *ℤ x i ≡ total lines (λ l. v l *ℤ (g l (ν i) *ℤ x i))
    inner i = sym (times_total lines (λ l. v l *ℤ g l (ν i)) (x i)) ∙ total_cong lines _ _ (λ l h. times_assoc (v l) (g l (ν i)) (x i))

    moved : total n (λ i. total lines (λ l. v l *ℤ g l (ν i)) *ℤ x i) ≡ total lines (λ l. v l *ℤ total n (λ i. g l (ν i) *ℤ x i))
    moved = total_cong n _ _ (λ i h. inner i)
        ∙ total_swap n lines (λ i l. v l *ℤ (g l (ν i) *ℤ x i))
        ∙ total_cong lines _ _ (λ l h. total_times n (v l) (λ i. g l (ν i) *ℤ x i))

-- a line's prices on its flow come to no more than on its limits
line_most : (u w f a b : ℤ) → pos 0 ≤ℤ u → pos 0 ≤ℤ w → f ≤ℤ (pos 1000 *ℤ b) → (pos 1000 *ℤ a) ≤ℤ f → ((u -ℤ w) *ℤ f) ≤ℤ (pos 1000 *ℤ ((u *ℤ b) -ℤ (w *ℤ a)))
line_most u w f a b hu hw under over =
    joined ((u -ℤ w) *ℤ f) (u *ℤ f) (w *ℤ f) (u *ℤ (pos 1000 *ℤ b)) (w *ℤ (pos 1000 *ℤ a)) (u *ℤ b) (w *ℤ a)
    (sub_times u w f) (times_mono u f (pos 1000 *ℤ b) hu under) (times_mono w (pos 1000 *ℤ a) f hw over) (times_left_comm u (pos 1000) b) (times_left_comm w (pos 1000) a)
  where
    joined : (x uf wf ub wa b' a' : ℤ) → x ≡ uf -ℤ wf → uf ≤ℤ ub → wa ≤ℤ wf → ub ≡ pos 1000 *ℤ b' → wa ≡ pos 1000 *ℤ a' → x ≤ℤ (pos 1000 *ℤ (b' -ℤ a'))
    joined x uf wf ub wa b' a' e h k p q = omega (arith, ints)

-- the linear steps, over plain variables: `omega` reads each product or sum handed to one as an unknown
row_joined : (f c x y a : ℤ) → f ≤ℤ (c -ℤ x) → x ≡ y → a ≡ c → f ≤ℤ (a -ℤ y)
row_joined f c x y a h e g = omega (arith, ints)

period_joined : (rows nodes cs cd x y z most : ℤ) → rows ≡ cs -ℤ x → nodes ≡ cd -ℤ y → cs ≡ cd → z ≡ x -ℤ y → z ≤ℤ most → (nodes -ℤ most) ≤ℤ rows
period_joined rows nodes cs cd x y z most a b c e h = omega (arith, ints)

floor_joined : (f per c x y z : ℤ) → f ≤ℤ y → y ≡ c -ℤ x → x ≡ z → per ≤ℤ z → (f +ℤ per) ≤ℤ c
floor_joined f per c x y z h e g k = omega (arith, ints)

module _ (d : Numbers) (m : Meaning) (s : PriceSet) (facts : Facts m) (placed : Placed d m) (moderate : Moderate d) (sized : Sized d m s) (within : InRange d m s) where
  -- the prices of line l's two limits in period t
  abbrev over : ℕ → ℕ → ℤ
  over t l = at s.upper (l * d.periods + t)

  abbrev under : ℕ → ℕ → ℤ
  under t l = at s.lower (l * d.periods + t)

  net_at : (r t : ℕ) → t < d.periods → at (row_prices d m s r).net t ≡ net_price d s (m.node r) t
  net_at r t ht = at_range (net_price d s (m.node r)) 0 d.periods t (pos 0) ht ∙ ap (net_price d s (m.node r)) (zero-add t)

  pub priced : (r : ℕ) → r < m.size → Priced m (row_prices d m s r)
  priced r hr = record {
    nets = length-map (range 0 d.periods) (net_price d s (m.node r)) ∙ length_range 0 d.periods ∙ sym placed.periods;
    rises = length_part d.periods r m.size s.rise hr sized.rise ∙ sym placed.periods;
    falls = length_part d.periods r m.size s.fall hr sized.fall ∙ sym placed.periods;
    net_limit = λ t h. let k : t < d.periods = rw placed.periods at h in rw (net_at r t k) (net_within d s moderate within.system within.upper within.lower (m.node r) t (placed.nodes r hr) k);
    rise_limit = λ t h. let k : t < d.periods = rw placed.periods at h in rw (at_part d.periods r t s.rise (pos 0) k) (within.rise (r * d.periods + t) (place_below r m.size d.periods t hr k));
    fall_limit = λ t h. let k : t < d.periods = rw placed.periods at h in rw (at_part d.periods r t s.fall (pos 0) k) (within.fall (r * d.periods + t) (place_below r m.size d.periods t hr k));
  }

  module _ (p : Plan) (lawful : Lawful d m p) where
    row_fits : (r : ℕ) → r < m.size → Fits m (row d p r)
    row_fits r hr = record {
      marks = length_part d.periods r m.size p.marks hr lawful.marks ∙ sym placed.periods;
      outputs = length_part d.periods r m.size p.outputs hr lawful.outputs ∙ sym placed.periods;
    }

    -- what row r earns over the day at its node's net prices
    abbrev earned : ℕ → ℤ
    earned r = total d.periods (λ t. net_price d s (m.node r) t *ℤ output d p r t)

    -- the same, by the row's own lists
    abbrev listed : ℕ → ℤ
    listed r = total m.periods (λ t. at (row_prices d m s r).net t *ℤ at (row d p r).outputs t)

    listed_is : (r : ℕ) → listed r ≡ earned r
    listed_is r = ap (λ n. total n (λ t. at (row_prices d m s r).net t *ℤ at (row d p r).outputs t)) placed.periods
        ∙ total_cong d.periods _ _ (λ t h j. net_at r t h j *ℤ at_part d.periods r t p.outputs (pos 0) h j)

    abbrev paid : ℕ → ℤ
    paid r = amount (m.verdict r (row d p r))

    row_stands : (r : ℕ) → r < m.size → (m.floor r (row_prices d m s r)).0 ≤ℤ (paid r -ℤ earned r)
    row_stands r hr =
        let v = ok_amount (m.verdict r (row d p r)) (lawful.rows r hr) in
        row_joined (m.floor r (row_prices d m s r)).0 v.0.0 (listed r) (earned r) (paid r)
        (facts.sound r (row d p r) (row_prices d m s r) v.0 hr (row_fits r hr) (priced r hr) v.1) (listed_is r) v.2

    -- in period t: what the rows earn, what the loads pay, and what flows and limits come to at the lines' prices
    abbrev rows_earn : ℕ → ℤ
    rows_earn t = total m.size (λ r. net_price d s (m.node r) t *ℤ output d p r t)

    abbrev loads_pay : ℕ → ℤ
    loads_pay t = total d.nodes (λ k. net_price d s k t *ℤ load d k t)

    abbrev flows_come : ℕ → ℤ
    flows_come t = total d.lines (λ l. line_price d s t l *ℤ flow d m p l t)

    abbrev limit_comes : ℕ → ℕ → ℤ
    limit_comes t l = (over t l *ℤ at d.upper l) -ℤ (under t l *ℤ at d.lower l)

    abbrev limits_come : ℕ → ℤ
    limits_come t = pos 1000 *ℤ total d.lines (limit_comes t)

    -- the two parts of a flow
    abbrev flow_in : ℕ → ℕ → ℤ
    flow_in t l = total m.size (λ r. factor d l (m.node r) *ℤ output d p r t)

    abbrev flow_out : ℕ → ℕ → ℤ
    flow_out t l = total d.nodes (λ k. factor d l k *ℤ load d k t)

    flows_under_limits : (t : ℕ) → t < d.periods → flows_come t ≤ℤ limits_come t
    flows_under_limits t ht = rw (← (total_times d.lines (pos 1000) (limit_comes t))) (total_mono d.lines _ _ (λ l hl.
        let i = place_below l d.lines d.periods t hl ht in
        let kept = (lawful.periods t ht).1 l hl in
        line_most (over t l) (under t l) (flow d m p l t) (at d.lower l) (at d.upper l)
        (within.upper (l * d.periods + t) i).0 (within.lower (l * d.periods + t) i).0 kept.0 kept.1))

    flows_split : (t : ℕ) → flows_come t ≡ total d.lines (λ l. line_price d s t l *ℤ flow_in t l) -ℤ total d.lines (λ l. line_price d s t l *ℤ flow_out t l)
    flows_split t = total_cong d.lines _ _ (λ l h. times_sub (line_price d s t l) (flow_in t l) (flow_out t l))
        ∙ total_sub d.lines (λ l. line_price d s t l *ℤ flow_in t l) (λ l. line_price d s t l *ℤ flow_out t l)

    period_stands : (t : ℕ) → t < d.periods → (loads_pay t -ℤ limits_come t) ≤ℤ rows_earn t
    period_stands t ht =
        let c : ℤ = pos 1000 *ℤ at s.system t in
        period_joined (rows_earn t) (loads_pay t) (c *ℤ supply d m p t) (c *ℤ demand d t)
        (total d.lines (λ l. line_price d s t l *ℤ flow_in t l)) (total d.lines (λ l. line_price d s t l *ℤ flow_out t l)) (flows_come t) (limits_come t)
        (spread m.size d.lines c (line_price d s t) (factor d) m.node (λ r. output d p r t))
        (spread d.nodes d.lines c (line_price d s t) (factor d) (λ k. k) (λ k. load d k t))
        (ap (λ x. c *ℤ x) (lawful.periods t ht).0) (flows_split t) (flows_under_limits t ht)

    undercut_none : floor d m s ≤ℤ cost d m p
    undercut_none =
        floor_joined (total m.size (λ r. (m.floor r (row_prices d m s r)).0)) (total d.periods (λ t. loads_pay t -ℤ limits_come t)) (cost d m p)
        (total m.size earned) (total m.size (λ r. paid r -ℤ earned r)) (total d.periods rows_earn)
        (total_mono m.size _ _ row_stands) (total_sub m.size paid earned)
        (total_swap m.size d.periods (λ r t. net_price d s (m.node r) t *ℤ output d p r t))
        (total_mono d.periods _ _ period_stands)

pub no_plan_undercuts : FloorsStand
no_plan_undercuts = undercut_none
