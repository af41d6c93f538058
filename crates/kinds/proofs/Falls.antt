-- The least of running cost less worth is reached segment by segment. Assumes nothing.
use Rattle.std.proofs.Common.{◌≡◌, ℕ, zero, suc, ◌+◌, ◌*◌, ◌<◌, ◌≤◌, ℤ, pos, ◌+ℤ◌, ◌-ℤ◌, ◌*ℤ◌, ◌≤ℤ◌, ◌<ℤ◌, sym, refl, ap, ◌∙◌, subst, inl, inr, arith}
use lib.IntN.{*ℤ_comm, *ℤ-zero}
use Rattle.std.specs.Int.{int_min, int_max}
use Rattle.std.proofs.lemmas.Int.{ints, clamps, by_lt_z}
use Rattle.std.proofs.lemmas.Bool.{cases_lt, cases_eq}
use Rattle.market.specs.Scans.{Within}
use Rattle.market.specs.Totals.{total}
use Rattle.market.proofs.Ints.{times_sub, times_mono, times_within}
use Rattle.market.proofs.Totals.{total_cong, total_mono, total_more, total_within}
use Rattle.kinds.specs.declared.curve_numbers.CurveNumbers.{CurveNumbers}
use Rattle.kinds.specs.Curves.{end, price, lowest, highest, Made, below, net_cost, fall}
use Rattle.kinds.specs.Leasts.{Least, least_over}
use Rattle.kinds.proofs.Leasts.{least_over_least, least_same, add_le}
use Rattle.kinds.proofs.Segments.{ends_up, prices_up, below_grows, below_small, net_within, running_cost_within, net_cost_from, slope}

-- ---- products and their signs
pub times_up : (s d : ℤ) → pos 0 ≤ℤ s → pos 0 ≤ℤ d → pos 0 ≤ℤ (s *ℤ d)
times_up s d h k = subst (λ x. x ≤ℤ (s *ℤ d)) (*ℤ-zero s) (times_mono s (pos 0) d h k)

pub times_down : (s d : ℤ) → s ≤ℤ pos 0 → pos 0 ≤ℤ d → (s *ℤ d) ≤ℤ pos 0
times_down s d h k = subst (λ x. x ≤ℤ pos 0) (*ℤ_comm d s) (subst (λ x. (d *ℤ s) ≤ℤ x) (*ℤ-zero d) (times_mono d s (pos 0) k h))

-- ---- a part of a segment falls no further than the whole or nothing
fall_le : (s a l : ℤ) → pos 0 ≤ℤ a → a ≤ℤ l → int_min (pos 0) (s *ℤ l) ≤ℤ (s *ℤ a)
fall_le s a l h k =
    by_lt_z s (pos 0)
    (λ d. let e = times_sub s l a in let n = times_down s (l -ℤ a) (omega (arith, ints)) (omega (arith, ints)) in under (s *ℤ l) (s *ℤ a) (subst (λ x. x ≤ℤ pos 0) e n))
    (λ u. let n = times_up s a u h in over (s *ℤ l) (s *ℤ a) n)
  where
    under : (x y : ℤ) → (x -ℤ y) ≤ℤ pos 0 → int_min (pos 0) x ≤ℤ y
    under x y h = omega (arith, ints, clamps)

    over : (x y : ℤ) → pos 0 ≤ℤ y → int_min (pos 0) x ≤ℤ y
    over x y h = omega (arith, ints, clamps)

min_down : (x : ℤ) → x ≤ℤ pos 0 → x ≡ int_min (pos 0) x
min_down x h = omega (arith, ints, clamps)

min_up : (x : ℤ) → pos 0 ≤ℤ x → pos 0 ≡ int_min (pos 0) x
min_up x h = omega (arith, ints, clamps)

-- ---- the number of leading slopes that fall
pub record Turn (s : ℕ → ℤ) (n j : ℕ) : Type 0 where
  pub within : j ≤ n
  pub falling : (i : ℕ) → i < j → s i <ℤ pos 0
  pub level : j < n → pos 0 ≤ℤ s j

turned : (s : ℕ → ℤ) (n j : ℕ) → Turn s n j → (k : ℕ) × Turn s (suc n) k
turned s n j t =
    elim (cases_lt j n) [
      | inl l ↦ (j, record { within = omega (arith, t.within); falling = t.falling; level = λ _. t.level l })
      | inr l ↦ by_lt_z (s n) (pos 0)
          (λ d. (
            suc n,
            record {
              within = omega arith;
              falling = λ i h. elim (cases_eq i n) [ inl e ↦ subst (λ k. s k <ℤ pos 0) (sym e) d | inr ne ↦ t.falling i (omega (arith, t.within)) ];
              level = λ h. absurd (omega arith);
            },
          ))
          (λ u. (n, record { within = omega arith; falling = λ i h. t.falling i (omega (arith, t.within)); level = λ _. u }))
    ]

turn : (s : ℕ → ℤ) (n : ℕ) → (j : ℕ) × Turn s n j
turn s zero = (0, record { within = omega arith; falling = λ i h. absurd (omega arith); level = λ h. absurd (omega arith) })
turn s (suc n) = let r = turn s n in turned s n r.0 r.1

-- ---- at the output b, taken into low to high, the segments up to b are filled and those from b on are not begun
filled : (low high b from to : ℤ) → low ≤ℤ high → from ≤ℤ to → to ≤ℤ b → int_max (pos 0) (int_min (int_max low (int_min high b)) to -ℤ from) ≡ int_max (pos 0) (int_min high to -ℤ from)
filled low high b from to h k l = omega (arith, ints, clamps)

unbegun : (low high b from to : ℤ) → low ≤ℤ high → from ≤ℤ to → b ≤ℤ from → int_max (pos 0) (int_min (int_max low (int_min high b)) to -ℤ from) ≡ int_max (pos 0) (int_min low to -ℤ from)
unbegun low high b from to h k l = omega (arith, ints, clamps)

taken_into : (low high b : ℤ) → low ≤ℤ high → (low ≤ℤ int_max low (int_min high b)) × (int_max low (int_min high b) ≤ℤ high)
taken_into low high b h = (omega (arith, ints, clamps), omega (arith, ints, clamps))

module _ (c : CurveNumbers) (v low high : ℤ) where
  -- the value at low, and what all segments take off from there
  abbrev pub lowered : ℤ
  lowered = net_cost c v low +ℤ total c.segments (fall c v low high)

module _ (c : CurveNumbers) (made : Made c) (v low high : ℤ) (on : lowest c ≤ℤ low) (range : low ≤ℤ high) (under : high ≤ℤ highest c) where
  abbrev n : ℕ
  n = c.segments

  abbrev step : ℤ → ℕ → ℤ
  step p i = slope c made v i *ℤ (below c i p -ℤ below c i low)

  from_low : (p : ℤ) → low ≤ℤ p → p ≤ℤ high → net_cost c v p ≡ net_cost c v low +ℤ total n (step p)
  from_low p h k = net_cost_from c made v low p on (omega (arith, ints)) (omega (arith, ints)) (omega (arith, ints))

  grown : (i : ℕ) (p : ℤ) → i < n → low ≤ℤ p → pos 0 ≤ℤ (below c i p -ℤ below c i low)
  grown i p l h = let g = below_grows c made i low p l h in omega (arith, ints)

  fall_under : (p : ℤ) → low ≤ℤ p → p ≤ℤ high → (i : ℕ) → i < n → fall c v low high i ≤ℤ step p i
  unfolding fall
  fall_under p h k i l =
      let g = below_grows c made i p high l k in
      fall_le (slope c made v i) (below c i p -ℤ below c i low) (below c i high -ℤ below c i low) (grown i p l h) (omega (arith, ints))

  lowered_under : (p : ℤ) → low ≤ℤ p → p ≤ℤ high → lowered c v low high ≤ℤ net_cost c v p
  lowered_under p h k = subst (λ x. lowered c v low high ≤ℤ x) (sym (from_low p h k)) (add_le (net_cost c v low) _ _ _ (total_mono n (fall c v low high) (step p) (fall_under p h k)) refl)

  module _ (j : ℕ) (t : Turn (slope c made v) n j) where
    abbrev best : ℤ
    best = int_max low (int_min high (end c j))

    falls_whole : (i : ℕ) → i < j → fall c v low high i ≡ step best i
    unfolding below fall
    falls_whole i h =
        let l : i < n = omega (arith, t.within) in
        let e : below c i best ≡ below c i high = filled low high (end c j) (end c i) (end c (i + 1)) range (ends_up c made i (i + 1) (omega arith) (omega arith)) (ends_up c made (i + 1) j (omega arith) t.within) in
        let d = t.falling i h in
        sym (ap (λ x. slope c made v i *ℤ (x -ℤ below c i low)) e ∙ min_down _ (times_down (slope c made v i) (below c i high -ℤ below c i low) (omega (arith, ints)) (grown i high l range)))

    falls_not : (i : ℕ) → i < n → j ≤ i → fall c v low high i ≡ step best i
    unfolding below fall
    falls_not i l h =
        let e : below c i best ≡ below c i low = unbegun low high (end c j) (end c i) (end c (i + 1)) range (ends_up c made i (i + 1) (omega arith) (omega arith)) (ends_up c made j i h (omega arith)) in
        let first = t.level (omega arith) in
        let rises = prices_up c made j i h l in
        let none : below c i best -ℤ below c i low ≡ pos 0 = omega (arith, ints) in
        let up : pos 0 ≤ℤ slope c made v i = omega (arith, ints) in
        sym (min_up _ (times_up (slope c made v i) (below c i high -ℤ below c i low) up (grown i high l range))) ∙ sym (ap (λ x. slope c made v i *ℤ x) none ∙ *ℤ-zero (slope c made v i))

    falls_so : (i : ℕ) → i < n → fall c v low high i ≡ step best i
    falls_so i l = elim (cases_lt i j) [ inl h ↦ falls_whole i h | inr h ↦ falls_not i l h ]

    lowered_reached : lowered c v low high ≡ net_cost c v best
    lowered_reached =
        let i = taken_into low high (end c j) range in
        ap (λ x. net_cost c v low +ℤ x) (total_cong n (fall c v low high) (step best) falls_so) ∙ sym (from_low best i.0 i.1)

  pub lowered_least : Least low high (net_cost c v) (lowered c v low high)
  lowered_least =
      let r = turn (slope c made v) n in
      let i = taken_into low high (end c r.0) range in
      record { bound = lowered_under; reached = (best r.0 r.1, i.0, i.1, lowered_reached r.0 r.1) }

  pub lowered_is : lowered c v low high ≡ least_over low high (net_cost c v)
  lowered_is = least_same low high (net_cost c v) _ _ lowered_least (least_over_least low high (net_cost c v) range)

-- ---- how large these numbers are
module _ (c : CurveNumbers) (made : Made c) (v : ℤ) (small : Within 20000000000 v) where
  pub fall_whole_within : (low high : ℤ) (i : ℕ) → i < c.segments → Within 404000000000000 ((pos 1000 *ℤ price c i -ℤ v) *ℤ (below c i high -ℤ below c i low))
  fall_whole_within low high i h =
      let w = net_within c made i h in
      let a = below_small c made i low h in
      let b = below_small c made i high h in
      times_within (pos 1000 *ℤ price c i -ℤ v) (below c i high -ℤ below c i low) 20200000000 20000 (omega (arith, ints), omega (arith, ints)) (omega (arith, ints), omega (arith, ints))

  pub fall_within : (low high : ℤ) (i : ℕ) → i < c.segments → Within 404000000000000 (fall c v low high i)
  unfolding fall
  fall_within low high i h = let w = fall_whole_within low high i h in clipped _ w
    where
      clipped : (x : ℤ) → Within 404000000000000 x → Within 404000000000000 (int_min (pos 0) x)
      clipped x w = (omega (arith, ints, clamps), omega (arith, ints, clamps))

  pub worth_within : (p : ℤ) → lowest c ≤ℤ p → p ≤ℤ highest c → Within 400000000000000 (v *ℤ p)
  worth_within p h k =
      let low = made.ranges.ends 0 (omega arith) in
      let high = made.ranges.ends c.segments (omega arith) in
      times_within v p 20000000000 20000 small (omega (arith, ints), omega (arith, ints))

  pub net_cost_within : (p : ℤ) → lowest c ≤ℤ p → p ≤ℤ highest c → Within 404000000000000 (net_cost c v p)
  net_cost_within p h k = let a = running_cost_within c made p in let b = worth_within p h k in (omega (arith, ints), omega (arith, ints))

  -- the value at low, and what the first k segments take off
  pub lowered_within : (low high : ℤ) (k : ℕ) → k ≤ c.segments → lowest c ≤ℤ low → low ≤ℤ highest c → Within 4444000000000000 (net_cost c v low +ℤ total k (fall c v low high))
  lowered_within low high k h l m =
      summed (net_cost c v low) (total k (fall c v low high)) k (omega (arith, made.count.1)) (net_cost_within low l m) (total_within k 404000000000000 (fall c v low high) (λ i o. fall_within low high i (omega arith)))
    where
      summed : (x y : ℤ) (k : ℕ) → k ≤ 10 → Within 404000000000000 x → Within (k * 404000000000000) y → Within 4444000000000000 (x +ℤ y)
      summed x y k few f g = (omega (arith, ints), omega (arith, ints))

-- ---- what the segments take off, one after another
pub lowered_more : (c : CurveNumbers) (v low high : ℤ) (k : ℕ) (s part : ℤ) → s ≡ net_cost c v low +ℤ total k (fall c v low high) → part ≡ fall c v low high k → s +ℤ part ≡ net_cost c v low +ℤ total (k + 1) (fall c v low high)
lowered_more c v low high k s part e f = more s part _ _ _ _ e f (total_more k (fall c v low high))
  where
    more : (s part first so_far next all : ℤ) → s ≡ first +ℤ so_far → part ≡ next → all ≡ so_far +ℤ next → s +ℤ part ≡ first +ℤ all
    more s part first so_far next all e f g = omega (arith, ints)

pub lowered_end : (c : CurveNumbers) (v low high : ℤ) (k : ℕ) (s : ℤ) → k ≡ c.segments → s ≡ net_cost c v low +ℤ total k (fall c v low high) → s ≡ lowered c v low high
lowered_end c v low high k s e f = f ∙ ap (λ n. net_cost c v low +ℤ total n (fall c v low high)) e
