-- The walk back over the periods: its start, its steps, and the floor that it ends with. Assumes nothing.
use Rattle.std.proofs.Common.{◌≡◌, ℕ, zero, suc, ◌+◌, ◌-◌, ◌<◌, ◌≤◌, min, leb, ℤ, pos, ◌+ℤ◌, ◌-ℤ◌, ◌*ℤ◌, sym, refl, ap, ◌∙◌, subst, inl, inr, add-zero, add-one, arith}
use lib.IntN.{*ℤ-zero}
use Rattle.std.specs.Int.{int_min}
use Rattle.std.proofs.lemmas.Int.{ints}
use Rattle.std.proofs.lemmas.Bool.{cases_lt, le-leb, lt-leb, cond-true, cond-false}
use Rattle.market.specs.Fleet.{RowPrices}
use Rattle.market.specs.Scans.{at}
use Rattle.market.specs.Totals.{total}
use Rattle.market.proofs.Totals.{total_cong}
use Rattle.kinds.specs.declared.thermal_unit.ThermalUnit.{ThermalUnit}
use Rattle.kinds.specs.Thermal.{weight_in, floor}
use Rattle.kinds.specs.Walks.{best, on_from, off_from, run_from}
use Rattle.kinds.proofs.Sequences.{Mark, on, off, total_first, lightest_is}

-- ---- what a period weighs, by its mark and the mark before
module _ (u : ThermalUnit) (q : RowPrices) (t : ℕ) where
  idle_weight : weight_in u q t 0 0 ≡ pos 0
  unfolding weight_in
  idle_weight = rw (*ℤ-zero (at q.rise t), *ℤ-zero (at q.fall t))

-- ---- linear steps
here : (r o r' o' z : ℤ) → r' ≡ r → o' ≡ o → z ≡ o → z ≡ r -ℤ r' +ℤ o'
here r o r' o' z e f h = omega (arith, ints)

there : (b y z r s r' o' : ℤ) → z ≡ b +ℤ y → y ≡ s -ℤ r' +ℤ o' → r ≡ b +ℤ s → z ≡ r -ℤ r' +ℤ o'
there b y z r s r' o' e f h = omega (arith, ints)

nothing : (a z : ℤ) → a ≡ pos 0 → a +ℤ z ≡ z
nothing a z e = omega (arith, ints)

-- n is the number of periods
module _ (u : ThermalUnit) (q : RowPrices) (n : ℕ) where
  abbrev g : ℕ → ℕ → ℕ → ℤ
  g = weight_in u q

  -- a mark that has lasted long enough is as one that just has
  settled_on : (k t h : ℕ) → u.least_running ≤ h → best u g k t 1 h ≡ best u g k t 1 u.least_running
  settled_on zero t h l = refl
  settled_on (suc k) t h l =
      cc (le-leb u.least_running h l, le-leb u.least_running u.least_running (omega arith), settled_on k (suc t) (suc h) (omega arith), settled_on k (suc t) (suc u.least_running) (omega arith))

  settled_off : (k t h : ℕ) → u.least_stopped ≤ h → best u g k t 0 h ≡ best u g k t 0 u.least_stopped
  settled_off zero t h l = refl
  settled_off (suc k) t h l =
      cc (le-leb u.least_stopped h l, le-leb u.least_stopped u.least_stopped (omega arith), settled_off k (suc t) (suc h) (omega arith), settled_off k (suc t) (suc u.least_stopped) (omega arith))

  run_first : (t : ℕ) → t < n → run_from u q n t ≡ g t 1 1 +ℤ run_from u q n (suc t)
  unfolding run_from
  run_first t l =
      let e : n - t ≡ suc (n - suc t) = omega arith in
      ap (λ k. total k (λ j. g (t + j) 1 1)) e
      ∙ total_first (n - suc t) (λ j. g (t + j) 1 1)
      ∙ ap (λ j. g j 1 1 +ℤ total (n - suc t) (λ k. g (t + suc k) 1 1)) (add-zero t)
      ∙ ap (λ z. g t 1 1 +ℤ z) (total_cong (n - suc t) _ _ (λ k h. ap (λ j. g j 1 1) (omega arith)))

  -- when a mark that has lasted h of l periods by period t may change
  abbrev free : ℕ → ℕ → ℕ → ℕ
  free l t h = min (t + (l - h)) n

  -- a unit that runs before the day, up to period k, and what follows once it may stop
  abbrev on_after : ℕ → ℤ
  on_after k = run_from u q n 0 -ℤ run_from u q n k +ℤ on_from u q n k

  held_on : (k t h : ℕ) → t + k ≡ n → best u g k t 1 h ≡ run_from u q n t -ℤ run_from u q n (free u.least_running t h) +ℤ on_from u q n (free u.least_running t h)
  unfolding on_from
  held_on zero t h e =
      let now : free u.least_running t h ≡ t = omega arith in
      let none : 0 ≡ n - t = omega arith in
      here _ _ _ _ _ (ap (run_from u q n) now) (ap (on_from u q n) now) (ap (λ k. best u g k t 1 u.least_running) none)
  held_on (suc k) t h e =
      let some : suc k ≡ n - t = omega arith in
      elim (cases_lt h u.least_running) [
        | inl l ↦
            let later : free u.least_running (suc t) (suc h) ≡ free u.least_running t h = omega arith in
            there (g t 1 1) (best u g k (suc t) 1 (suc h)) (best u g (suc k) t 1 h) (run_from u q n t) (run_from u q n (suc t)) (run_from u q n (free u.least_running t h)) (on_from u q n (free u.least_running t h))
            (cond-false (leb u.least_running h) _ _ (lt-leb u.least_running h l))
            (held_on k (suc t) (suc h) (omega arith) ∙ ap (λ j. run_from u q n (suc t) -ℤ run_from u q n j +ℤ on_from u q n j) later) (run_first t (omega arith))
        | inr l ↦
            let now : free u.least_running t h ≡ t = omega arith in
            here _ _ _ _ _ (ap (run_from u q n) now) (ap (on_from u q n) now) (settled_on (suc k) t h l ∙ ap (λ k. best u g k t 1 u.least_running) some)
      ]

  held_off : (k t h : ℕ) → t + k ≡ n → best u g k t 0 h ≡ off_from u q n (free u.least_stopped t h)
  unfolding off_from
  held_off zero t h e =
      let now : t ≡ free u.least_stopped t h = omega arith in
      let none : 0 ≡ n - t = omega arith in
      ap (λ k. best u g k t 0 u.least_stopped) none ∙ ap (off_from u q n) now
  held_off (suc k) t h e =
      let some : suc k ≡ n - t = omega arith in
      elim (cases_lt h u.least_stopped) [
        | inl l ↦
            let later : free u.least_stopped (suc t) (suc h) ≡ free u.least_stopped t h = omega arith in
            cond-false (leb u.least_stopped h) _ _ (lt-leb u.least_stopped h l)
            ∙ nothing _ _ (idle_weight u q t) ∙ held_off k (suc t) (suc h) (omega arith) ∙ ap (off_from u q n) later
        | inr l ↦
            let now : t ≡ free u.least_stopped t h = omega arith in
            settled_off (suc k) t h l ∙ ap (λ k. best u g k t 0 u.least_stopped) some ∙ ap (off_from u q n) now
      ]

  -- ---- the walk back: after the last period
  pub run_end : run_from u q n n ≡ pos 0
  unfolding run_from
  run_end = let none : n - n ≡ 0 = omega arith in ap (λ k. total k (λ j. g (n + j) 1 1)) none

  pub on_end : on_from u q n n ≡ pos 0
  unfolding on_from
  on_end = let none : n - n ≡ 0 = omega arith in ap (λ k. best u g k n 1 u.least_running) none

  pub off_end : off_from u q n n ≡ pos 0
  unfolding off_from
  off_end = let none : n - n ≡ 0 = omega arith in ap (λ k. best u g k n 0 u.least_stopped) none

  -- ---- a period earlier
  pub run_step : (t : ℕ) → t < n → run_from u q n t ≡ weight_in u q t 1 1 +ℤ run_from u q n (t + 1)
  run_step t l = run_first t l ∙ ap (λ k. g t 1 1 +ℤ run_from u q n k) (sym (add-one t))

  pub on_step : (t : ℕ) → t < n → 1 ≤ u.least_stopped → on_from u q n t ≡ int_min (weight_in u q t 1 1 +ℤ on_from u q n (t + 1)) (weight_in u q t 1 0 +ℤ off_from u q n (min (t + u.least_stopped) n))
  unfolding on_from
  on_step t l v =
      let some : n - t ≡ suc (n - suc t) = omega arith in
      let now : n - suc t ≡ n - (t + 1) = omega arith in
      let later : free u.least_stopped (suc t) 1 ≡ min (t + u.least_stopped) n = omega arith in
      ap (λ k. best u g k t 1 u.least_running) some
      ∙ cond-true (leb u.least_running u.least_running) _ _ (le-leb u.least_running u.least_running (omega arith))
      ∙ ap (λ z. int_min (g t 1 1 +ℤ z) (g t 1 0 +ℤ best u g (n - suc t) (suc t) 0 1))
      (settled_on (n - suc t) (suc t) (suc u.least_running) (omega arith) ∙ ap (λ k. best u g k (suc t) 1 u.least_running) now ∙ ap (λ k. best u g (n - (t + 1)) k 1 u.least_running) (sym (add-one t)))
      ∙ ap (λ z. int_min (g t 1 1 +ℤ on_from u q n (t + 1)) (g t 1 0 +ℤ z)) (held_off (n - suc t) (suc t) 1 (omega arith) ∙ ap (off_from u q n) later)

  pub off_step : (t : ℕ) → t < n → 1 ≤ u.least_running
      → off_from u q n t ≡ int_min (off_from u q n (t + 1)) (weight_in u q t 0 1 +ℤ (run_from u q n (t + 1) -ℤ run_from u q n (min (t + u.least_running) n) +ℤ on_from u q n (min (t + u.least_running) n)))
  unfolding off_from
  off_step t l v =
      let some : n - t ≡ suc (n - suc t) = omega arith in
      let now : n - suc t ≡ n - (t + 1) = omega arith in
      let later : free u.least_running (suc t) 1 ≡ min (t + u.least_running) n = omega arith in
      ap (λ k. best u g k t 0 u.least_stopped) some
      ∙ cond-true (leb u.least_stopped u.least_stopped) _ _ (le-leb u.least_stopped u.least_stopped (omega arith))
      ∙ ap (λ z. int_min z (g t 0 1 +ℤ best u g (n - suc t) (suc t) 1 1))
      (nothing _ _ (idle_weight u q t) ∙ settled_off (n - suc t) (suc t) (suc u.least_stopped) (omega arith) ∙ ap (λ k. best u g k (suc t) 0 u.least_stopped) now ∙ ap (λ k. best u g (n - (t + 1)) k 0 u.least_stopped) (sym (add-one t)))
      ∙ ap (λ z. int_min (off_from u q n (t + 1)) (g t 0 1 +ℤ z))
      (held_on (n - suc t) (suc t) 1 (omega arith) ∙ ap (λ k. run_from u q n (suc t) -ℤ run_from u q n k +ℤ on_from u q n k) later ∙ ap (λ k. run_from u q n k -ℤ run_from u q n (min (t + u.least_running) n) +ℤ on_from u q n (min (t + u.least_running) n)) (sym (add-one t)))

  -- ---- from the state before the day
  abbrev carried : ℤ
  carried = pos 1000 *ℤ (at q.fall 0 -ℤ at q.rise 0) *ℤ u.output

  pub floor_on : u.mark ≡ 1 → floor u q n ≡ (run_from u q n 0 -ℤ run_from u q n (min (u.least_running - u.lasted) n) +ℤ on_from u q n (min (u.least_running - u.lasted) n)) +ℤ pos 1000 *ℤ (at q.fall 0 -ℤ at q.rise 0) *ℤ u.output
  unfolding floor
  floor_on e =
      let owed : free u.least_running 0 u.lasted ≡ min (u.least_running - u.lasted) n = omega arith in
      ap (λ z. z +ℤ carried) (lightest_is u q (subst Mark (sym e) on) n ∙ ap (λ m. best u g n 0 m u.lasted) e ∙ held_on n 0 u.lasted (omega arith) ∙ ap on_after owed)

  pub floor_off : u.mark ≡ 0 → floor u q n ≡ off_from u q n (min (u.least_stopped - u.lasted) n) +ℤ pos 1000 *ℤ (at q.fall 0 -ℤ at q.rise 0) *ℤ u.output
  unfolding floor
  floor_off e =
      let owed : free u.least_stopped 0 u.lasted ≡ min (u.least_stopped - u.lasted) n = omega arith in
      ap (λ z. z +ℤ carried) (lightest_is u q (subst Mark (sym e) off) n ∙ ap (λ m. best u g n 0 m u.lasted) e ∙ held_off n 0 u.lasted (omega arith) ∙ ap (off_from u q n) owed)
