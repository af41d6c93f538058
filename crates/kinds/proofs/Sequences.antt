-- The least weight over all mark sequences that keep rules 12 and 13 is a recursion over the periods. Assumes nothing.
use Rattle.std.proofs.Common.{◌≡◌, ℕ, zero, suc, ◌+◌, ◌<◌, ◌≤◌, Bool, true, false, cond, ◌&&◌, eqb, ◌⊎◌, List, [], ◌∷◌, map, length, get_or, replicate, ℤ, ◌+ℤ◌, ◌≤ℤ◌, filter, sym, refl, ap, ◌∙◌, subst, inl, inr, add-zero, zero-add, arith}
use mathlib.Core.List.Memᴰ
use mathlib.Core.List.{Memᴰ}
use Rattle.std.specs.Int.{int_min}
use Rattle.std.specs.List.{AllByRecursion}
use Rattle.std.proofs.lemmas.Int.{ints, clamps}
use Rattle.std.proofs.ByRecursion.{All-append, All-map}
use Rattle.std.proofs.lemmas.Bool.{and_parts, and_from}
use Rattle.market.specs.Fleet.{RowPrices}
use Rattle.market.specs.Scans.{all_below}
use Rattle.market.specs.Totals.{total}
use Rattle.market.proofs.Totals.{total_cong}
use Rattle.kinds.specs.declared.thermal_unit.ThermalUnit.{ThermalUnit}
use Rattle.kinds.specs.Thermal.{before, lasting, rule_12, rule_13, sequences, least, keeps, weight_in, weight, lightest}
use Rattle.kinds.specs.Walks.{may_change, best}
use Rattle.kinds.proofs.Leasts.{min_cases, antisym, add_le}

-- ---- the least over what a test keeps of a list
module _ {X : Type 0} (keep : X → Bool) (f : X → ℤ) (a : ℤ) where
  below_head : (x y : X) (xs : List X) (b : Bool) → y ≡ x → keep y ≡ true → keep x ≡ b → least a (map f (cond b (x ∷ xs) xs)) ≤ℤ f y
  below_head x y xs true e k r = omega (arith, ints, clamps, ap f e)
  below_head x y xs false e k r = let z : ◌≡◌ {A = ℕ} 0 1 = cc (ap keep e) in absurd (omega arith)

  below_tail : (x : X) (z : ℤ) (xs : List X) (b : Bool) → least a (map f xs) ≤ℤ z → least a (map f (cond b (x ∷ xs) xs)) ≤ℤ z
  below_tail x z xs true h = omega (arith, ints, clamps)
  below_tail x z xs false h = h

  least_le : {y : X} {xs : List X} → Memᴰ y xs → keep y ≡ true → least a (map f (filter keep xs)) ≤ℤ f y
  least_le {y} (Memᴰ.head {x} {xs} e) k = below_head x y (filter keep xs) (keep x) e k refl
  least_le {y} (Memᴰ.tail {x} {xs} m) k = below_tail x (f y) (filter keep xs) (keep x) (least_le m k)

  -- the least is a, or that of an element that the test keeps
  abbrev Reached : List X → ℤ → Type 0
  Reached xs z = (z ≡ a) ⊎ ((y : X) × Memᴰ y xs × (keep y ≡ true) × (z ≡ f y))

  reached_tail : (x : X) (xs : List X) (z : ℤ) → Reached xs z → Reached (x ∷ xs) z
  reached_tail x xs z (inl e) = inl e
  reached_tail x xs z (inr r) = inr (r.0, Memᴰ.tail r.1, r.2, r.3)

  reached_head : (x : X) (xs ks : List X) (b : Bool) → keep x ≡ b → Reached xs (least a (map f ks)) → Reached (x ∷ xs) (least a (map f (cond b (x ∷ ks) ks)))
  reached_head x xs ks true k r =
      elim (min_cases (f x) (least a (map f ks))) [
        | inl e ↦ inr (x, Memᴰ.head refl, k, e)
        | inr e ↦ rw e (reached_tail x xs (least a (map f ks)) r)
      ]
  reached_head x xs ks false k r = reached_tail x xs (least a (map f ks)) r

  least_reached : (xs : List X) → Reached xs (least a (map f (filter keep xs)))
  least_reached [] = inl refl
  least_reached (x ∷ xs) = reached_head x xs (filter keep xs) (keep x) refl (least_reached xs)

-- ---- marks
pub data Mark : ℕ → Type 0 where
  off : Mark 0
  on : Mark 1

pub mark_of : (m : ℕ) → m ≤ 1 → Mark m
mark_of zero h = off
mark_of (suc zero) h = on
mark_of (suc (suc m)) h = absurd (omega arith)

pub data Marks : ℕ → List ℕ → Type 0 where
  none : Marks zero []
  more : {n m : ℕ} {ms : List ℕ} → Mark m → Marks n ms → Marks (suc n) (m ∷ ms)

pub marks_of : (n : ℕ) (ms : List ℕ) → length ms ≡ n → ((t : ℕ) → t < n → get_or ms t 0 ≤ 1) → Marks n ms
marks_of zero [] e bits = none
marks_of zero (m ∷ ms) e bits = absurd (omega arith)
marks_of (suc n) [] e bits = absurd (omega arith)
marks_of (suc n) (m ∷ ms) e bits = more (mark_of m (bits 0 (omega arith))) (marks_of n ms (omega arith) (λ t h. bits (suc t) (omega arith)))

in_sequences : {n : ℕ} {ms : List ℕ} → Marks n ms → Memᴰ ms (sequences n)
in_sequences none = Memᴰ.head refl
in_sequences (more off rest) = Memᴰ.append_left _ (Memᴰ.map (λ ms. 0 ∷ ms) (in_sequences rest))
in_sequences (more {n} on rest) = Memᴰ.append_right (map (λ ms. 0 ∷ ms) (sequences n)) (Memᴰ.map (λ ms. 1 ∷ ms) (in_sequences rest))

all_marks : (n : ℕ) → AllByRecursion (Marks n) (sequences n)
all_marks zero = (none, tt)
all_marks (suc n) = All-append (Marks (suc n)) _ _ (All-map (Marks (suc n)) (λ ms. 0 ∷ ms) (sequences n) (with_mark 0 off (sequences n) (all_marks n))) (All-map (Marks (suc n)) (λ ms. 1 ∷ ms) (sequences n) (with_mark 1 on (sequences n) (all_marks n)))
  where
    with_mark : (m : ℕ) → Mark m → (xs : List (List ℕ)) → AllByRecursion (Marks n) xs → AllByRecursion (λ ms. Marks (suc n) (m ∷ ms)) xs
    with_mark m k [] h = tt
    with_mark m k (x ∷ xs) h = (more k h.0, with_mark m k xs h.1)

of_all : {X : Type 0} (P : X → Type 0) {y : X} {xs : List X} → Memᴰ y xs → AllByRecursion P xs → P y
of_all P (Memᴰ.head e) h = subst P (sym e) h.0
of_all P (Memᴰ.tail m) h = of_all P m h.1

from_sequences : (n : ℕ) {ms : List ℕ} → Memᴰ ms (sequences n) → Marks n ms
from_sequences n m = of_all (Marks n) m (all_marks n)

-- ---- after the first period
and_swap : (a b c : Bool) → (a && (b && c)) ≡ (b && (a && c))
and_swap true true c = refl
and_swap true false c = refl
and_swap false true c = refl
and_swap false false c = refl

below_same : (n : ℕ) (f g : ℕ → Bool) → ((t : ℕ) → f t ≡ g t) → all_below f n ≡ all_below g n
below_same zero f g e = refl
below_same (suc n) f g e = cc (below_same n f g e, e n)

below_first : (n : ℕ) (f : ℕ → Bool) → all_below f (suc n) ≡ (f 0 && all_below (λ t. f (suc t)) n)
below_first zero f = refl
below_first (suc n) f = ap (λ b. f (suc n) && b) (below_first n f) ∙ and_swap (f (suc n)) (f 0) (all_below (λ t. f (suc t)) n)

-- for how long the mark m, after b for h periods, has lasted
abbrev pub next : ℕ → ℕ → ℕ → ℕ
next b h m = cond (eqb m b) (suc h) 1

before_shift : (b m : ℕ) (ms : List ℕ) (t : ℕ) → before b (m ∷ ms) (suc t) ≡ before m ms t
before_shift b m ms zero = refl
before_shift b m ms (suc t) = refl

lasting_shift : (b h m : ℕ) (ms : List ℕ) (t : ℕ) → lasting b h (m ∷ ms) (suc t) ≡ lasting m (next b h m) ms t
lasting_shift b h m ms zero = refl
lasting_shift b h m ms (suc t) = cc (before_shift b m ms t, before_shift b m ms (suc t), lasting_shift b h m ms t)

pub total_first : (n : ℕ) (f : ℕ → ℤ) → total (suc n) f ≡ f 0 +ℤ total n (λ t. f (suc t))
total_first zero f = omega (arith, ints)
total_first (suc n) f = omega (arith, ints, total_first n f)

module _ (u : ThermalUnit) where
  abbrev pub allowed : ℕ → ℕ → ℕ → Bool
  allowed b h m = rule_12 u b h m && rule_13 u b h m

  keeps_shift : (n b h m : ℕ) (ms : List ℕ) → keeps u (suc n) b h (m ∷ ms) ≡ (allowed b h m && keeps u n m (next b h m) ms)
  keeps_shift n b h m ms =
      below_first n (λ t. allowed (before b (m ∷ ms) t) (lasting b h (m ∷ ms) t) (get_or (m ∷ ms) t 0))
      ∙ ap (λ k. allowed b h m && k) (below_same n _ _ (λ t. cc (before_shift b m ms t, lasting_shift b h m ms t)))

-- ---- the recursion
by_staying : (c : Bool) (x y z : ℤ) → x ≤ℤ z → cond c (int_min x y) x ≤ℤ z
by_staying true x y z h = omega (arith, ints, clamps)
by_staying false x y z h = h

by_changing : (c : Bool) (x y z : ℤ) → c ≡ true → y ≤ℤ z → cond c (int_min x y) x ≤ℤ z
by_changing true x y z e h = omega (arith, ints, clamps)
by_changing false x y z e h = let z : ◌≡◌ {A = ℕ} 0 1 = cc in absurd (omega arith)

module _ (u : ThermalUnit) (g : ℕ → ℕ → ℕ → ℤ) where
  -- the weight of n periods from t on, after the mark b
  abbrev pub weigh : ℕ → ℕ → ℕ → List ℕ → ℤ
  weigh n t b ms = total n (λ k. g (t + k) (before b ms k) (get_or ms k 0))

  weigh_first : (n t b m : ℕ) (ms : List ℕ) → weigh (suc n) t b (m ∷ ms) ≡ g t b m +ℤ weigh n (suc t) m ms
  weigh_first n t b m ms =
      total_first n (λ k. g (t + k) (before b (m ∷ ms) k) (get_or (m ∷ ms) k 0))
      ∙ ap (λ k. g k b m +ℤ total n (λ k. g (t + suc k) (before b (m ∷ ms) (suc k)) (get_or ms k 0))) (add-zero t)
      ∙ ap (λ z. g t b m +ℤ z) (total_cong n _ _ (λ k h. let e : t + suc k ≡ suc t + k = omega arith in cc (before_shift b m ms k)))

  first_le : {b m : ℕ} → Mark b → Mark m → (n t h : ℕ) (w z : ℤ) → allowed u b h m ≡ true → best u g n (suc t) m (next b h m) ≤ℤ w → z ≡ g t b m +ℤ w → best u g (suc n) t b h ≤ℤ z
  first_le on on n t h w z k l e = by_staying (may_change u 1 h) _ _ z (add_le (g t 1 1) (best u g n (suc t) 1 (suc h)) w z l e)
  first_le on off n t h w z k l e = by_changing (may_change u 1 h) _ _ z (and_parts (may_change u 1 h) true k).0 (add_le (g t 1 0) (best u g n (suc t) 0 1) w z l e)
  first_le off on n t h w z k l e = by_changing (may_change u 0 h) _ _ z k (add_le (g t 0 1) (best u g n (suc t) 1 1) w z l e)
  first_le off off n t h w z k l e = by_staying (may_change u 0 h) _ _ z (add_le (g t 0 0) (best u g n (suc t) 0 (suc h)) w z l e)

  -- no sequence is lighter
  best_le : {n b : ℕ} {ms : List ℕ} → Marks n ms → Mark b → (t h : ℕ) → keeps u n b h ms ≡ true → best u g n t b h ≤ℤ weigh n t b ms
  best_le none mark t h k = omega (arith, ints)
  best_le {b = b} (more {n} {m} {ms} first rest) mark t h k =
      let both = and_parts (allowed u b h m) (keeps u n m (next b h m) ms) (sym (keeps_shift u n b h m ms) ∙ k) in
      first_le mark first n t h (weigh n (suc t) m ms) (weigh (suc n) t b (m ∷ ms)) both.0 (best_le rest first (suc t) (next b h m) both.1) (weigh_first n t b m ms)

  -- a sequence that keeps both rules has that weight
  abbrev Sequence : ℕ → ℕ → ℕ → ℕ → ℤ → Type 0
  Sequence n t b h z = (ms : List ℕ) × Marks n ms × (keeps u n b h ms ≡ true) × (weigh n t b ms ≡ z)

  after : {b m : ℕ} → Mark b → Mark m → (n t h : ℕ) (w : ℤ) → allowed u b h m ≡ true → Sequence n (suc t) m (next b h m) w → Sequence (suc n) t b h (g t b m +ℤ w)
  after {b} {m} old new n t h w k r =
      (m ∷ r.0, more new r.1, keeps_shift u n b h m r.0 ∙ and_from _ _ k r.2, weigh_first n t b m r.0 ∙ ap (λ z. g t b m +ℤ z) r.3)

  either : (n t b h : ℕ) (c : Bool) (x y : ℤ) → Sequence n t b h x → (c ≡ true → Sequence n t b h y) → Sequence n t b h (cond c (int_min x y) x)
  either n t b h true x y r s = elim (min_cases x y) [ inl e ↦ rw e r | inr e ↦ rw e (s refl) ]
  either n t b h false x y r s = r

  pub best_reached : {b : ℕ} (n t h : ℕ) → Mark b → Sequence n t b h (best u g n t b h)
  best_reached zero t h mark = ([], none, refl, refl)
  best_reached (suc n) t h on = either (suc n) t 1 h (may_change u 1 h) _ _ (after on on n t h _ refl (best_reached n (suc t) (suc h) on)) (λ k. after on off n t h _ (and_from (may_change u 1 h) true k refl) (best_reached n (suc t) 1 off))
  best_reached (suc n) t h off = either (suc n) t 0 h (may_change u 0 h) _ _ (after off off n t h _ refl (best_reached n (suc t) (suc h) off)) (λ k. after off on n t h _ k (best_reached n (suc t) 1 on))

-- ---- the lightest of the sequences weighs what the recursion gives
module _ (u : ThermalUnit) where
  -- a mark that never changes keeps both rules
  unchanged : {b : ℕ} → Mark b → (n : ℕ) → Marks n (replicate n b)
  unchanged mark zero = none
  unchanged mark (suc n) = more mark (unchanged mark n)

  unchanged_keeps : {b : ℕ} → Mark b → (n h : ℕ) → keeps u n b h (replicate n b) ≡ true
  unchanged_keeps mark zero h = refl
  unchanged_keeps on (suc n) h = keeps_shift u n 1 h 1 (replicate n 1) ∙ unchanged_keeps on n (suc h)
  unchanged_keeps off (suc n) h = keeps_shift u n 0 h 0 (replicate n 0) ∙ unchanged_keeps off n (suc h)

  module _ (q : RowPrices) (mark : Mark u.mark) (n : ℕ) where
    -- what the lightest weighs is at most the weight of any sequence that keeps both rules
    pub lightest_le : (ms : List ℕ) → Marks n ms → keeps u n u.mark u.lasted ms ≡ true → lightest u q n ≤ℤ weight u q n ms
    unfolding lightest
    lightest_le ms m k = least_le (keeps u n u.mark u.lasted) (weight u q n) (weight u q n (replicate n u.mark)) (in_sequences m) k

    -- and is that of one of them
    pub lightest_reached : (ms : List ℕ) × Marks n ms × (keeps u n u.mark u.lasted ms ≡ true) × (lightest u q n ≡ weight u q n ms)
    unfolding lightest
    lightest_reached =
        elim (least_reached (keeps u n u.mark u.lasted) (weight u q n) (weight u q n (replicate n u.mark)) (sequences n)) [
          | inl e ↦ (replicate n u.mark, unchanged mark n, unchanged_keeps mark n u.lasted, e)
          | inr s ↦ (s.0, from_sequences n s.1, s.2, s.3)
        ]

    weigh_all : (ms : List ℕ) → weigh u (weight_in u q) n 0 u.mark ms ≡ weight u q n ms
    weigh_all ms = total_cong n _ _ (λ k h. ap (λ j. weight_in u q j (before u.mark ms k) (get_or ms k 0)) (zero-add k))

    pub lightest_is : lightest u q n ≡ best u (weight_in u q) n 0 u.mark u.lasted
    lightest_is =
        let r = best_reached u (weight_in u q) n 0 u.lasted mark in
        let s = lightest_reached in
        antisym _ _
        (subst (λ z. lightest u q n ≤ℤ z) (sym (weigh_all r.0) ∙ r.3) (lightest_le r.0 r.1 r.2))
        (subst (λ z. best u (weight_in u q) n 0 u.mark u.lasted ≤ℤ z) (weigh_all s.0 ∙ sym s.3) (best_le u (weight_in u q) s.1 mark 0 u.lasted s.2))
