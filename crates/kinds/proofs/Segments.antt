-- The parts of a curve's segments that lie below an output, and the running cost by them. Assumes nothing.
use Rattle.std.proofs.Common.{◌≡◌, ℕ, zero, suc, ◌+◌, ◌*◌, ◌<◌, ◌≤◌, ℤ, pos, ◌+ℤ◌, ◌-ℤ◌, ◌*ℤ◌, neg_ℤ, ◌≤ℤ◌, sym, ap, ◌∙◌, subst, inl, inr, add-one, arith}
use Rattle.std.specs.Int.{int_min, int_max}
use Rattle.std.proofs.lemmas.Int.{ints, clamps}
use Rattle.std.proofs.lemmas.Bool.{cases_eq}
use Rattle.market.specs.Scans.{Within, UpTo}
use Rattle.market.specs.Totals.{total}
use Rattle.market.proofs.Ints.{times_add, times_sub, sub_times, times_assoc, times_mono, times_within}
use Rattle.market.proofs.Totals.{total_cong, total_mono, total_more, total_sub, total_times, total_within}
use Rattle.kinds.specs.declared.curve_numbers.CurveNumbers.{CurveNumbers}
use Rattle.kinds.specs.Curves.{end, price, lowest, highest, Made, below, running_cost, net_cost}

-- numbers that do not fall from one to the next do not fall at all
pub upward : (f : ℕ → ℤ) (n : ℕ) → ((k : ℕ) → k < n → f k ≤ℤ f (k + 1)) → (i k : ℕ) → i ≤ k → k ≤ n → f i ≤ℤ f k
upward f n step i zero h l = let e : f i ≡ f 0 = ap f (omega arith) in omega (arith, ints)
upward f n step i (suc k) h l =
    elim (cases_eq i (suc k)) [
      | inl e ↦ let d : f i ≡ f (suc k) = ap f e in omega (arith, ints)
      | inr ne ↦ let before = upward f n step i k (omega arith) (omega arith) in let last = step k (omega arith) in let e : f (k + 1) ≡ f (suc k) = ap f (add-one k) in omega (arith, ints)
    ]

part_is : (from to p : ℤ) → from ≤ℤ to → int_max (pos 0) (int_min p to -ℤ from) ≡ int_min p to -ℤ int_min p from
part_is from to p h = omega (arith, ints, clamps)

joined : (s part x y z : ℤ) → s ≡ y -ℤ x → part ≡ z -ℤ y → s +ℤ part ≡ z -ℤ x
joined s part x y z h k = omega (arith, ints)

-- the parts below p add to what lies between the first end and p
parts_sum : (b : ℕ → ℤ) (p : ℤ) (n : ℕ) → ((k : ℕ) → k < n → b k ≤ℤ b (k + 1)) → total n (λ i. int_max (pos 0) (int_min p (b (i + 1)) -ℤ b i)) ≡ int_min p (b n) -ℤ int_min p (b 0)
parts_sum b p zero step = omega (arith, ints)
parts_sum b p (suc n) step =
    joined _ _ (int_min p (b 0)) (int_min p (b n)) (int_min p (b (suc n))) (parts_sum b p n (λ k h. step k (omega arith)))
    (part_is (b n) (b (n + 1)) p (step n (omega arith)) ∙ ap (λ k. int_min p (b k) -ℤ int_min p (b n)) (add-one n))

part_grows : (from to p q : ℤ) → from ≤ℤ to → p ≤ℤ q → int_max (pos 0) (int_min p to -ℤ from) ≤ℤ int_max (pos 0) (int_min q to -ℤ from)
part_grows from to p q h k = omega (arith, ints, clamps)

part_small : (from to p : ℤ) → pos 0 ≤ℤ from → to ≤ℤ pos 20000 → UpTo 20000 (int_max (pos 0) (int_min p to -ℤ from))
part_small from to p h k = (omega (arith, ints, clamps), omega (arith, ints, clamps))

-- prices within ±200,000 on parts that are not below 0
price_part : (x b : ℤ) → pos 0 ≤ℤ b → Within 200000 x → ((neg_ℤ (pos 200000) *ℤ b) ≤ℤ (x *ℤ b)) × ((x *ℤ b) ≤ℤ (pos 200000 *ℤ b))
price_part x b up w = let l = times_mono b (neg_ℤ (pos 200000)) x up w.0 in let m = times_mono b x (pos 200000) up w.1 in (omega (arith, ints), omega (arith, ints))

prices_parts : (n : ℕ) (x b : ℕ → ℤ) → ((i : ℕ) → i < n → pos 0 ≤ℤ b i) → ((i : ℕ) → i < n → Within 200000 (x i)) → ((neg_ℤ (pos 200000) *ℤ total n b) ≤ℤ total n (λ i. x i *ℤ b i)) × (total n (λ i. x i *ℤ b i) ≤ℤ (pos 200000 *ℤ total n b))
prices_parts n x b up w = (
  subst (λ y. y ≤ℤ total n (λ i. x i *ℤ b i)) (total_times n (neg_ℤ (pos 200000)) b) (total_mono n (λ i. neg_ℤ (pos 200000) *ℤ b i) (λ i. x i *ℤ b i) (λ i h. (price_part (x i) (b i) (up i h) (w i h)).0)),
  subst (λ y. total n (λ i. x i *ℤ b i) ≤ℤ y) (total_times n (pos 200000) b) (total_mono n (λ i. x i *ℤ b i) (λ i. pos 200000 *ℤ b i) (λ i h. (price_part (x i) (b i) (up i h) (w i h)).1)),
)

-- the first end and the parts below p come to at most the last end
all_parts : (first parts s low high p : ℤ) → pos 0 ≤ℤ low → low ≤ℤ high → high ≤ℤ pos 20000 → s ≡ int_min p high -ℤ int_min p low
    → ((neg_ℤ (pos 200000) *ℤ low) ≤ℤ first) × (first ≤ℤ (pos 200000 *ℤ low)) → ((neg_ℤ (pos 200000) *ℤ s) ≤ℤ parts) × (parts ≤ℤ (pos 200000 *ℤ s)) → Within 4000000000000 (pos 1000 *ℤ (first +ℤ parts))
all_parts first parts s low high p a b d e f g = (omega (arith, ints, clamps), omega (arith, ints, clamps))

-- cost less worth by slopes
by_slopes : (k s w r u : ℤ) → w ≡ r +ℤ u → (k +ℤ s) -ℤ w ≡ (k -ℤ r) +ℤ (s -ℤ u)
by_slopes k s w r u e = omega (arith, ints)

on_curve : (p low high s : ℤ) → low ≤ℤ p → p ≤ℤ high → s ≡ int_min p high -ℤ int_min p low → p ≡ low +ℤ s
on_curve p low high s h k e = omega (arith, ints, clamps)

apart : (a b x y k : ℤ) → a ≡ k +ℤ x → b ≡ k +ℤ y → a ≡ b +ℤ (x -ℤ y)
apart a b x y k h l = omega (arith, ints)

-- the first end's cost and that of at most ten segments
with_first : (x y : ℤ) (k : ℕ) → k ≤ 10 → Within 4000000000000 x → Within (k * 4000000000000) y → Within 44000000000000 (x +ℤ y)
with_first x y k few f g = (omega (arith, ints), omega (arith, ints))

module _ (c : CurveNumbers) (made : Made c) where
  ends_step : (k : ℕ) → k < c.segments → end c k ≤ℤ end c (k + 1)
  ends_step k h = let l = made.rises.ends k h in omega (arith, ints)

  pub ends_up : (i k : ℕ) → i ≤ k → k ≤ c.segments → end c i ≤ℤ end c k
  ends_up = upward (end c) c.segments ends_step

  pub prices_up : (i k : ℕ) → i ≤ k → k < c.segments → price c i ≤ℤ price c k
  prices_up i k h l = upward (price c) k (λ j m. made.rises.prices j (omega arith)) i k h (omega arith)

  pub below_sum : (p : ℤ) → total c.segments (λ i. below c i p) ≡ int_min p (highest c) -ℤ int_min p (lowest c)
  unfolding below
  below_sum p = parts_sum (end c) p c.segments ends_step

  pub below_grows : (i : ℕ) (p q : ℤ) → i < c.segments → p ≤ℤ q → below c i p ≤ℤ below c i q
  unfolding below
  below_grows i p q h k = part_grows (end c i) (end c (i + 1)) p q (ends_step i h) k

  pub below_small : (i : ℕ) (p : ℤ) → i < c.segments → UpTo 20000 (below c i p)
  unfolding below
  below_small i p h = part_small (end c i) (end c (i + 1)) p (made.ranges.ends i (omega arith)).0 (made.ranges.ends (i + 1) (omega arith)).1

  -- ---- what running costs lies within ±4 × 10^12 grains, for every output
  pub running_cost_within : (p : ℤ) → Within 4000000000000 (running_cost c p)
  unfolding running_cost
  running_cost_within p =
      all_parts (price c 0 *ℤ end c 0) (total c.segments (λ i. price c i *ℤ below c i p)) (total c.segments (λ i. below c i p)) (lowest c) (highest c) p
      (made.ranges.ends 0 (omega arith)).0 (ends_up 0 c.segments (omega arith) (omega arith)) (made.ranges.ends c.segments (omega arith)).1 (below_sum p)
      (price_part (price c 0) (end c 0) (made.ranges.ends 0 (omega arith)).0 (made.ranges.prices 0 (omega (arith, made.count.0))))
      (prices_parts c.segments (price c) (λ i. below c i p) (λ i h. (below_small i p h).0) made.ranges.prices)

  -- ---- running cost less worth, where a tenth of a megawatt is worth v
  module _ (v : ℤ) where
    abbrev pub slope : ℕ → ℤ
    slope i = pos 1000 *ℤ price c i -ℤ v

    slope_part : (i : ℕ) (b : ℤ) → (pos 1000 *ℤ (price c i *ℤ b)) -ℤ (v *ℤ b) ≡ slope i *ℤ b
    slope_part i b = sym (sub_times (pos 1000 *ℤ price c i) v b ∙ ap (λ x. x -ℤ v *ℤ b) (times_assoc (pos 1000) (price c i) b))

    net_cost_is : (p : ℤ) → lowest c ≤ℤ p → p ≤ℤ highest c → net_cost c v p ≡ (pos 1000 *ℤ (price c 0 *ℤ end c 0) -ℤ v *ℤ lowest c) +ℤ total c.segments (λ i. slope i *ℤ below c i p)
    unfolding running_cost
    net_cost_is p h k =
        let n = c.segments in
        let worth : v *ℤ p ≡ v *ℤ lowest c +ℤ total n (λ i. v *ℤ below c i p) =
        ap (λ x. v *ℤ x) (on_curve p (lowest c) (highest c) (total n (λ i. below c i p)) h k (below_sum p)) ∙ times_add v (lowest c) (total n (λ i. below c i p)) ∙ ap (λ x. v *ℤ lowest c +ℤ x) (sym (total_times n v (λ i. below c i p))) in
        let cost : running_cost c p ≡ pos 1000 *ℤ (price c 0 *ℤ end c 0) +ℤ total n (λ i. pos 1000 *ℤ (price c i *ℤ below c i p)) =
        times_add (pos 1000) (price c 0 *ℤ end c 0) (total n (λ i. price c i *ℤ below c i p)) ∙ ap (λ x. pos 1000 *ℤ (price c 0 *ℤ end c 0) +ℤ x) (sym (total_times n (pos 1000) (λ i. price c i *ℤ below c i p))) in
        ap (λ x. x -ℤ v *ℤ p) cost
        ∙ by_slopes (pos 1000 *ℤ (price c 0 *ℤ end c 0)) (total n (λ i. pos 1000 *ℤ (price c i *ℤ below c i p))) (v *ℤ p) (v *ℤ lowest c) (total n (λ i. v *ℤ below c i p)) worth
        ∙ ap (λ x. (pos 1000 *ℤ (price c 0 *ℤ end c 0) -ℤ v *ℤ lowest c) +ℤ x)
        (sym (total_sub n (λ i. pos 1000 *ℤ (price c i *ℤ below c i p)) (λ i. v *ℤ below c i p)) ∙ total_cong n _ _ (λ i l. slope_part i (below c i p)))

    -- from one output on the curve to another
    pub net_cost_from : (low p : ℤ) → lowest c ≤ℤ low → low ≤ℤ highest c → lowest c ≤ℤ p → p ≤ℤ highest c
        → net_cost c v p ≡ net_cost c v low +ℤ total c.segments (λ i. slope i *ℤ (below c i p -ℤ below c i low))
    net_cost_from low p h k l m =
        let n = c.segments in
        apart (net_cost c v p) (net_cost c v low) (total n (λ i. slope i *ℤ below c i p)) (total n (λ i. slope i *ℤ below c i low)) (pos 1000 *ℤ (price c 0 *ℤ end c 0) -ℤ v *ℤ lowest c)
        (net_cost_is p l m) (net_cost_is low h k)
        ∙ ap (λ x. net_cost c v low +ℤ x) (sym (total_sub n (λ i. slope i *ℤ below c i p) (λ i. slope i *ℤ below c i low)) ∙ total_cong n _ _ (λ i o. sym (times_sub (slope i) (below c i p) (below c i low))))

  -- ---- running cost, added segment by segment
  abbrev pub cost_of : ℕ → ℤ → ℤ
  cost_of i p = (pos 1000 *ℤ price c i) *ℤ below c i p

  abbrev pub cost_to : ℕ → ℤ → ℤ
  cost_to k p = (pos 1000 *ℤ price c 0) *ℤ lowest c +ℤ total k (λ i. cost_of i p)

  pub cost_more : (k : ℕ) (p s part : ℤ) → s ≡ cost_to k p → part ≡ cost_of k p → s +ℤ part ≡ cost_to (k + 1) p
  cost_more k p s part e f = more s part _ _ _ _ e f (total_more k (λ i. cost_of i p))
    where
      more : (s part first so_far next all : ℤ) → s ≡ first +ℤ so_far → part ≡ next → all ≡ so_far +ℤ next → s +ℤ part ≡ first +ℤ all
      more s part first so_far next all e f g = omega (arith, ints)

  cost_all : (p : ℤ) → cost_to c.segments p ≡ running_cost c p
  unfolding running_cost
  cost_all p =
      let n = c.segments in
      (λ j. times_assoc (pos 1000) (price c 0) (lowest c) j +ℤ (total_cong n _ _ (λ i h. times_assoc (pos 1000) (price c i) (below c i p)) ∙ total_times n (pos 1000) (λ i. price c i *ℤ below c i p)) j)
      ∙ sym (times_add (pos 1000) (price c 0 *ℤ lowest c) (total n (λ i. price c i *ℤ below c i p)))

  pub cost_end : (k : ℕ) (p s : ℤ) → k ≡ c.segments → s ≡ cost_to k p → s ≡ running_cost c p
  cost_end k p s e f = f ∙ ap (λ n. cost_to n p) e ∙ cost_all p

  pub net_within : (i : ℕ) → i < c.segments → Within 200000000 (pos 1000 *ℤ price c i)
  net_within i h = let w = made.ranges.prices i h in (omega (arith, ints), omega (arith, ints))

  pub first_within : Within 4000000000000 ((pos 1000 *ℤ price c 0) *ℤ lowest c)
  first_within = times_within (pos 1000 *ℤ price c 0) (lowest c) 200000000 20000 (net_within 0 (omega (arith, made.count.0))) (let w = made.ranges.ends 0 (omega arith) in (omega (arith, ints), w.1))

  pub cost_within : (i : ℕ) (p : ℤ) → i < c.segments → Within 4000000000000 (cost_of i p)
  cost_within i p h = times_within (pos 1000 *ℤ price c i) (below c i p) 200000000 20000 (net_within i h) (let w = below_small i p h in (omega (arith, ints), w.1))

  pub cost_to_within : (k : ℕ) (p : ℤ) → k ≤ c.segments → Within 44000000000000 (cost_to k p)
  cost_to_within k p h = with_first ((pos 1000 *ℤ price c 0) *ℤ lowest c) (total k (λ i. cost_of i p)) k (omega (arith, made.count.1)) first_within (total_within k 4000000000000 (λ i. cost_of i p) (λ i l. cost_within i p (omega arith)))
