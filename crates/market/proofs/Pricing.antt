-- The first cell of a table that is out of its range, and the first price of a row that is. Assumes nothing.
use Rattle.std.proofs.Common.{◌≡◌, ℕ, ◌+◌, Bool, true, false, not, cond, ltb, ◌<◌, Decides, get_or, List, length, ℤ, pos, neg_ℤ, Some, None, Ok, Err, Option, Result, sym, refl, ◌∙◌, arith}
use Rattle.std.specs.List.{position, position_or_len}
use Rattle.std.proofs.lemmas.Bool.{not-true, not-false, both_ways, ltb-false}
use Rattle.std.proofs.lemmas.List.Quantifiers.{position-Some}
use Rattle.std.proofs.lemmas.List.Sums.{prefix_len_passes}
use Rattle.market.specs.Fleet.{Meaning, broken, RowPrices, Priced, fault_at, row_fault, unless}
use Rattle.measures.specs.declared.Grains.{Grains}
use Rattle.market.specs.declared.broken.Broken.{Broken}
use Rattle.market.specs.Scans.{In, in_test, InBefore, Outside, first_out}
use Rattle.market.proofs.Scanning.{decides_in, scan, scan_is}

pub untaken : (b : Bool) (n : ℕ) → cond b (Some n) None ≡ None → b ≡ false
untaken false n e = refl
untaken true n e = let z : ◌≡◌ {A = ℕ} 0 1 = cc in absurd (omega arith)

-- what a search for the first that fails a test tells, where the test decides a property: all have it, or those before the first and not the first
module _ {A : Type 0} (test : A → Bool) (Has : A → Type 0) (decides : (x : A) → Decides (test x) (Has x)) (xs : List A) (d : A) where
  pub none_fails : None ≡ position (λ x. not (test x)) xs → (k : ℕ) → k < length xs → Has (get_or xs k d)
  none_fails e k l =
      let n = ltb-false _ _ (untaken (ltb (position_or_len (λ x. not (test x)) xs) (length xs)) _ (sym e)) in
      (decides (get_or xs k d)).0 (not-false _ (not-true _ (prefix_len_passes (λ x. not (not (test x))) xs k d (omega (arith, n)))))

  pub first_fails : (i : ℕ) → Some i ≡ position (λ x. not (test x)) xs → (i < length xs) × ((k : ℕ) → k < i → Has (get_or xs k d)) × (Has (get_or xs i d) → ⊥)
  first_fails i e =
      let p = position-Some (λ x. not (test x)) xs i d (sym e) in
      (p.0, λ k l. (decides (get_or xs k d)).0 (not-false _ (p.2 k l)), λ h. both_ways (test (get_or xs i d)) (not-true _ p.1) ((decides (get_or xs i d)).1 h))

module _ (low high : ℤ) (xs : List ℤ) where
  -- the first cell out of the range is what a scan tells
  pub outside_told : (r : Option ℕ) → r ≡ first_out low high xs → Outside low high xs r
  outside_told None e = none_fails (in_test low high) (In low high) (decides_in low high) xs (pos 0) e
  outside_told (Some i) e =
      let p = first_fails (in_test low high) (In low high) (decides_in low high) xs (pos 0) i e in
      record { within = p.0; before = p.1; out = p.2 }

  -- and a scan by the order of the cells' type
  pub scan_told : (r : Option ℕ) → r ≡ scan low high xs → Outside low high xs r
  scan_told r e = outside_told r (e ∙ scan_is low high xs)

  -- and the other way round, where no cell is out
  none_told : InBefore low high xs (length xs) → (r : Option ℕ) → r ≡ first_out low high xs → r ≡ None
  none_told h None e = refl
  none_told h (Some i) e = let o = outside_told (Some i) e in absurd (o.out (h i o.within))

no_faults : (a b c : Option ℕ) → fault_at a (fault_at b (fault_at c None)) ≡ None → (a ≡ None) × (b ≡ None) × (c ≡ None)
no_faults None None None e = (refl, refl, refl)
no_faults None None (Some t) e = let z : ◌≡◌ {A = ℕ} 0 1 = cc in absurd (omega arith)
no_faults None (Some t) c e = let z : ◌≡◌ {A = ℕ} 0 1 = cc in absurd (omega arith)
no_faults (Some t) b c e = let z : ◌≡◌ {A = ℕ} 0 1 = cc in absurd (omega arith)

-- every list has a cell for each of so many periods
pub record Listed (q : RowPrices) (n : ℕ) : Type 0 where
  pub nets : length q.net ≡ n
  pub rises : length q.rise ≡ n
  pub falls : length q.fall ≡ n

-- prices with no fault are within their limits, and the other way round
pub priced_so : (m : Meaning) (q : RowPrices) → Listed q m.periods → row_fault q ≡ None → Priced m q
priced_so m q l e =
    let n = no_faults (first_out (neg_ℤ (pos 17000000000)) (pos 17000000000) q.net) (first_out (pos 0) (pos 1000000) q.rise) (first_out (pos 0) (pos 1000000) q.fall) e in
    record {
      nets = l.nets;
      rises = l.rises;
      falls = l.falls;
      net_limit = λ t h. outside_told _ _ q.net None (sym n.0) t (omega (arith, l.nets));
      rise_limit = λ t h. outside_told _ _ q.rise None (sym n.1) t (omega (arith, l.rises));
      fall_limit = λ t h. outside_told _ _ q.fall None (sym n.2) t (omega (arith, l.falls));
    }

pub priced_no_fault : (m : Meaning) (q : RowPrices) → Priced m q → None ≡ row_fault q
priced_no_fault m q p = λ j.
    fault_at (sym (none_told _ _ q.net (λ k h. p.net_limit k (omega (arith, p.nets))) _ refl) j)
    (fault_at (sym (none_told _ _ q.rise (λ k h. p.rise_limit k (omega (arith, p.rises))) _ refl) j)
    (fault_at (sym (none_told _ _ q.fall (λ k h. p.fall_limit k (omega (arith, p.falls))) _ refl) j) None))

-- yes, or the fault
abbrev answer : Option Broken → Result (Unit {0}) Broken
answer fault = unless fault tt

abbrev yes : Result (Unit {0}) Broken
yes = Ok tt

abbrev no : Broken → Result (Unit {0}) Broken
no e = Err e

-- three lists asked one after another, where the second is the first to answer no, or neither of the first two is
second : (a b c : Option ℕ) (e : Broken) → yes ≡ answer (fault_at a None) → no e ≡ answer (fault_at b None) → no e ≡ answer (fault_at a (fault_at b (fault_at c None)))
second None None c e h k = let z : ◌≡◌ {A = ℕ} 0 1 = cc in absurd (omega arith)
second None (Some t) c e h k = k
second (Some t) b c e h k = let z : ◌≡◌ {A = ℕ} 0 1 = cc in absurd (omega arith)

third : (a b c : Option ℕ) (r : Result (Unit {0}) Broken) → yes ≡ answer (fault_at a None) → yes ≡ answer (fault_at b None) → r ≡ answer (fault_at c None)
    → r ≡ answer (fault_at a (fault_at b (fault_at c None)))
third None None c r h k l = l
third None (Some t) c r h k l = let z : ◌≡◌ {A = ℕ} 0 1 = cc in absurd (omega arith)
third (Some t) b c r h k l = let z : ◌≡◌ {A = ℕ} 0 1 = cc in absurd (omega arith)

-- what asking one list of prices answers
abbrev asked_of : ℤ → ℤ → List ℤ → Result (Unit {0}) Broken
asked_of low high xs = answer (fault_at (scan low high xs) None)

by_first : (low high : ℤ) (xs : List ℤ) → asked_of low high xs ≡ answer (fault_at (first_out low high xs) None)
by_first low high xs = λ j. answer (fault_at (scan_is low high xs j) None)

-- the three questions on a row's prices, up to a no of the second, and all of them
pub rises_tell : (q : RowPrices) (e : Broken) → yes ≡ asked_of (neg_ℤ (pos 17000000000)) (pos 17000000000) q.net → no e ≡ asked_of (pos 0) (pos 1000000) q.rise → no e ≡ answer (row_fault q)
rises_tell q e h k =
    second (first_out (neg_ℤ (pos 17000000000)) (pos 17000000000) q.net) (first_out (pos 0) (pos 1000000) q.rise) (first_out (pos 0) (pos 1000000) q.fall) e
    (h ∙ by_first _ _ q.net) (k ∙ by_first _ _ q.rise)

pub falls_tell : (q : RowPrices) (r : Result (Unit {0}) Broken) → yes ≡ asked_of (neg_ℤ (pos 17000000000)) (pos 17000000000) q.net → yes ≡ asked_of (pos 0) (pos 1000000) q.rise
    → r ≡ asked_of (pos 0) (pos 1000000) q.fall → r ≡ answer (row_fault q)
falls_tell q r h k l =
    third (first_out (neg_ℤ (pos 17000000000)) (pos 17000000000) q.net) (first_out (pos 0) (pos 1000000) q.rise) (first_out (pos 0) (pos 1000000) q.fall) r
    (h ∙ by_first _ _ q.net) (k ∙ by_first _ _ q.rise) (l ∙ by_first _ _ q.fall)

-- a list's fault, or else what is asked next
abbrev pub price_fault : Option ℕ → Result Grains Broken → Result Grains Broken
price_fault None next = next
price_fault (Some t) next = Err (broken 19 (t + 1))

faults_tell : (a b c : Option ℕ) (f : Grains) → price_fault a (price_fault b (price_fault c (Ok f))) ≡ unless (fault_at a (fault_at b (fault_at c None))) f
faults_tell None None None f = refl
faults_tell None None (Some t) f = refl
faults_tell None (Some t) c f = refl
faults_tell (Some t) b c f = refl

-- the answer to a row's prices: its floor, unless one of three lists has a price outside its limits
pub priced_answer_is : (q : RowPrices) (f : Grains)
    → price_fault (first_out (neg_ℤ (pos 17000000000)) (pos 17000000000) q.net) (price_fault (first_out (pos 0) (pos 1000000) q.rise) (price_fault (first_out (pos 0) (pos 1000000) q.fall) (Ok f))) ≡ unless (row_fault q) f
priced_answer_is q f =
    faults_tell (first_out (neg_ℤ (pos 17000000000)) (pos 17000000000) q.net) (first_out (pos 0) (pos 1000000) q.rise) (first_out (pos 0) (pos 1000000) q.fall) f
