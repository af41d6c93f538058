-- A curve's questions, by tests and by what they mean. Assumes nothing.
use Rattle.std.proofs.Common.{◌≡◌, ℕ, ◌+◌, ◌-◌, ◌<◌, ◌≤◌, Bool, true, false, ◌&&◌, leb, is_le, int_cmp, List, length, take, get_or, MatchBool, ℤ, pos, neg_ℤ, ◌≤ℤ◌, ◌<ℤ◌, Decides, sym, refl, subst, arith}
use lib.Signed.{le_z, lt_z}
use Rattle.std.proofs.lemmas.List.{get_or-take, length-take}
use Rattle.std.proofs.lemmas.Int.{ints}
use Rattle.std.proofs.lemmas.Bool.{and_parts, and_from, both_ways}
use Rattle.std.proofs.lemmas.Bool.Decides.{Decides-below_and}
use Rattle.std.specs.List.{AllAdjacentBelow, IsAllAdjacentAnswer}
use Rattle.market.specs.Scans.{at, In, Within, InBefore, FirstOut, in_test, all_below}
use Rattle.market.proofs.Scanning.{decides_in, decides_le}
use Rattle.kinds.specs.declared.curve_numbers.CurveNumbers.{CurveNumbers}
use Rattle.kinds.specs.Tables.{CurvesFit}
use Rattle.kinds.specs.Curves.{end, price, CountFits, RangesFit, Rises, Made, Fits, made_test, lowest, highest, asked_test}
use Rattle.kinds.proofs.Shapes.{decides_from_to}

-- the front of a table, told by the cells of the table
pub front_in : (low high : ℤ) (n : ℕ) (xs : List ℤ) → n ≤ length xs → InBefore low high (take n xs) (length (take n xs)) → (i : ℕ) → i < n → In low high (at xs i)
front_in low high n xs within before i h = subst (In low high) (get_or-take n xs i (pos 0) h) (before i (simp length-take (omega arith)))

pub front_out : (low high : ℤ) (n i : ℕ) (xs : List ℤ) → n ≤ length xs → FirstOut low high (take n xs) i → ((k : ℕ) → k < n → In low high (at xs k)) → ⊥
front_out low high n i xs within out all =
    let l : i < n = omega (arith, simp length-take at out.within) in
    out.out (subst (In low high) (sym (get_or-take n xs i (pos 0) l)) (all i l))

-- what each number and the next are, from the front of a table
front_steps : (R : ℤ → ℤ → Type 0) (n : ℕ) (xs : List ℤ) → n ≤ length xs → AllAdjacentBelow R (take n xs) (length (take n xs)) → (i : ℕ) → i + 1 < n → R (at xs i) (at xs (i + 1))
front_steps R n xs within steps i h =
    let s = steps i (pos 0) (simp length-take (omega arith)) in
    subst (λ x. R x (at xs (i + 1))) (get_or-take n xs i (pos 0) (omega arith)) (subst (λ y. R (at (take n xs) i) y) (get_or-take n xs (i + 1) (pos 0) h) s)

-- two neighbours of the front that are not so
front_misstep : (R : ℤ → ℤ → Type 0) (n : ℕ) (xs : List ℤ) → n ≤ length xs → (k : ℕ) × (k + 1 < length (take n xs)) × ((d : ℤ) → R (get_or (take n xs) k d) (get_or (take n xs) (k + 1) d)) → (k : ℕ) × (k + 1 < n) × R (at xs k) (at xs (k + 1))
front_misstep R n xs within m =
    let l : m.0 + 1 < n = omega (arith, simp length-take at m.1) in
    (m.0, l, subst (λ x. R x (at xs (m.0 + 1))) (get_or-take n xs m.0 (pos 0) (omega arith)) (subst (λ y. R (at (take n xs) m.0) y) (get_or-take n xs (m.0 + 1) (pos 0) l) (m.2 (pos 0))))

decides_lt : (a b : ℤ) → Decides (lt_z a b) (a <ℤ b)
decides_lt a b = (λ e. grind (arith, ints), λ h. grind (arith, ints))

module _ (c : CurveNumbers) where
  decides_count : Decides (leb 1 c.segments && leb c.segments 10) (CountFits c)
  decides_count = decides_from_to 1 10 c.segments

  decides_ends : Decides (all_below (λ i. in_test (pos 0) (pos 20000) (end c i)) (c.segments + 1)) ((i : ℕ) → i < c.segments + 1 → In (pos 0) (pos 20000) (end c i))
  decides_ends = Decides-below_and (λ i. in_test (pos 0) (pos 20000) (end c i)) _ (all_below (λ i. in_test (pos 0) (pos 20000) (end c i))) (λ i. decides_in (pos 0) (pos 20000) (end c i)) refl (λ n. refl) (c.segments + 1)

  decides_prices : Decides (all_below (λ i. in_test (neg_ℤ (pos 200000)) (pos 200000) (price c i)) c.segments) ((i : ℕ) → i < c.segments → In (neg_ℤ (pos 200000)) (pos 200000) (price c i))
  decides_prices = Decides-below_and (λ i. in_test (neg_ℤ (pos 200000)) (pos 200000) (price c i)) _ (all_below (λ i. in_test (neg_ℤ (pos 200000)) (pos 200000) (price c i))) (λ i. decides_in (neg_ℤ (pos 200000)) (pos 200000) (price c i)) refl (λ n. refl) c.segments

  decides_rising : Decides (all_below (λ i. lt_z (end c i) (end c (i + 1))) c.segments) ((i : ℕ) → i < c.segments → end c i <ℤ end c (i + 1))
  decides_rising = Decides-below_and (λ i. lt_z (end c i) (end c (i + 1))) _ (all_below (λ i. lt_z (end c i) (end c (i + 1)))) (λ i. decides_lt (end c i) (end c (i + 1))) refl (λ n. refl) c.segments

  decides_climbing : Decides (all_below (λ i. le_z (price c i) (price c (i + 1))) (c.segments - 1)) ((i : ℕ) → i < c.segments - 1 → price c i ≤ℤ price c (i + 1))
  decides_climbing = Decides-below_and (λ i. le_z (price c i) (price c (i + 1))) _ (all_below (λ i. le_z (price c i) (price c (i + 1)))) (λ i. decides_le (price c i) (price c (i + 1))) refl (λ n. refl) (c.segments - 1)

  pub made_so : made_test c ≡ true → Made c
  made_so e =
      let a = and_parts (leb 1 c.segments && leb c.segments 10) _ e in
      let b = and_parts (all_below (λ i. in_test (pos 0) (pos 20000) (end c i)) (c.segments + 1) && all_below (λ i. in_test (neg_ℤ (pos 200000)) (pos 200000) (price c i)) c.segments) _ a.1 in
      let f = and_parts _ _ b.0 in
      let g = and_parts _ _ b.1 in
      record {
        count = decides_count.0 a.0;
        ranges = record { ends = decides_ends.0 f.0; prices = decides_prices.0 f.1 };
        rises = record { ends = decides_rising.0 g.0; prices = λ i h. decides_climbing.0 g.1 i (omega arith) };
      }

  pub made_told : Made c → made_test c ≡ true
  made_told m =
      and_from _ _ (decides_count.1 m.count)
      (and_from _ _ (and_from _ _ (decides_ends.1 m.ranges.ends) (decides_prices.1 m.ranges.prices))
      (and_from _ _ (decides_rising.1 m.rises.ends) (decides_climbing.1 (λ i h. m.rises.prices i (omega arith)))))

  pub fits : CountFits c → RangesFit c → Rises c → Fits c
  fits count ranges rises = let m : Made c = record { count = count; ranges = ranges; rises = rises } in record { test = made_told m; made = m }

-- the curves of n rows
pub decides_curves : (curve : ℕ → CurveNumbers) (n : ℕ) → Decides (all_below (λ r. made_test (curve r)) n) (CurvesFit curve n)
decides_curves curve n = Decides-below_and (λ r. made_test (curve r)) (λ r. Made (curve r)) (all_below (λ r. made_test (curve r))) (λ r. (made_so (curve r), made_told (curve r))) refl (λ n. refl) n

-- the least can be asked for: a value within its limits, and outputs from low to high on the curve
pub record Asked (c : CurveNumbers) (v low high : ℤ) : Type 0 where
  pub value : Within 20000000000 v
  pub on : lowest c ≤ℤ low
  pub range : low ≤ℤ high
  pub under : high ≤ℤ highest c

pub asked_so : (c : CurveNumbers) (v low high : ℤ) → asked_test c v low high ≡ true → Asked c v low high
asked_so c v low high e =
    let a = and_parts (in_test (neg_ℤ (pos 20000000000)) (pos 20000000000) v) _ e in
    let b = and_parts (le_z (lowest c) low) _ a.1 in
    let d = and_parts (le_z low high) _ b.1 in
    record { value = (decides_in _ _ v).0 a.0; on = (decides_le _ _).0 b.0; range = (decides_le _ _).0 d.0; under = (decides_le _ _).0 d.1 }

pub asked_told : (c : CurveNumbers) (v low high : ℤ) → Asked c v low high → asked_test c v low high ≡ true
asked_told c v low high a =
    and_from _ _ ((decides_in (neg_ℤ (pos 20000000000)) (pos 20000000000) v).1 a.value) (and_from _ _ ((decides_le (lowest c) low).1 a.on) (and_from _ _ ((decides_le low high).1 a.range) ((decides_le high (highest c)).1 a.under)))

-- ends and prices in order, as the library tells it
abbrev pub Rising : ℤ → ℤ → Bool → Type 0
Rising x y b = b ≡ lt_z x y

abbrev pub Climbing : ℤ → ℤ → Bool → Type 0
Climbing x y b = is_le (int_cmp x y) ≡ b

climbs : (x y : ℤ) → is_le (int_cmp x y) ≡ true → x ≤ℤ y
climbs x y e = grind (arith, ints)

falls : (x y : ℤ) → is_le (int_cmp x y) ≡ false → x ≤ℤ y → ⊥
falls x y e h = grind (arith, ints)

module _ (c : CurveNumbers) (count : CountFits c) (long : c.segments + 1 ≤ length c.ends) (wide : c.segments ≤ length c.prices) where
  pub rises_told : AllAdjacentBelow (λ x y. Rising x y true) (take (c.segments + 1) c.ends) (length (take (c.segments + 1) c.ends)) → (b : Bool) → IsAllAdjacentAnswer Climbing (take c.segments c.prices) b → MatchBool b (Rises c) (Rises c → ⊥)
  rises_told up true steps = record {
    ends = λ i h. (decides_lt _ _).0 (sym (front_steps (λ x y. Rising x y true) (c.segments + 1) c.ends long up i (omega arith)));
    prices = λ i h. climbs _ _ (front_steps (λ x y. Climbing x y true) c.segments c.prices wide steps i h);
  }
  rises_told up false step = λ r. let m = front_misstep (λ x y. Climbing x y false) c.segments c.prices wide step in falls _ _ m.2 (r.prices m.0 m.1)

  pub steep : IsAllAdjacentAnswer Rising (take (c.segments + 1) c.ends) false → Rises c → ⊥
  steep step r =
      let m = front_misstep (λ x y. Rising x y false) (c.segments + 1) c.ends long step in
      both_ways (lt_z (at c.ends m.0) (at c.ends (m.0 + 1))) (sym m.2) ((decides_lt _ _).1 (r.ends m.0 (omega arith)))
