-- How long a mark has lasted, told by the marks of the periods before. Assumes nothing.
use Rattle.std.proofs.Common.{◌≡◌, ℕ, zero, suc, ◌<◌, ◌≤◌, Bool, true, false, cond, eqb, List, get_or, sym, refl, ap, ◌∙◌, subst, arith}
use Rattle.std.proofs.lemmas.Bool.{eqb-true, eq-eqb, leb-true, le-leb, cond-true}
use Rattle.kinds.specs.declared.thermal_unit.ThermalUnit.{ThermalUnit}
use Rattle.kinds.specs.Thermal.{before, lasting, rule_12, rule_13}
use Rattle.kinds.specs.ThermalLaws.{Was, in_day, before_day, TimesKept}
use Rattle.kinds.proofs.Sequences.{Mark, on, off}

module _ (u : ThermalUnit) (marks : List ℕ) where
  abbrev prior : ℕ → ℕ
  prior = before u.mark marks

  abbrev length_of : ℕ → ℕ
  length_of = lasting u.mark u.lasted marks

  -- a period later and a period earlier
  later : (m t k : ℕ) → Was u marks m t k → Was u marks m (suc t) (suc k)
  later m t k (in_day h e) = in_day (omega arith) (ap (λ i. get_or marks i 0) (omega arith) ∙ e)
  later m t k (before_day h l e) = before_day (omega arith) (omega arith) e

  earlier : (m t k : ℕ) → Was u marks m (suc t) (suc k) → Was u marks m t k
  earlier m t k (in_day h e) = in_day (omega arith) (ap (λ i. get_or marks i 0) (omega arith) ∙ e)
  earlier m t k (before_day h l e) = before_day (omega arith) (omega arith) e

  -- one period before t
  was_prior : (m t : ℕ) → Was u marks m t 1 → prior t ≡ m
  was_prior m zero (in_day h e) = absurd (omega arith)
  was_prior m zero (before_day h l e) = e
  was_prior m (suc t) (in_day h e) = ap (λ i. get_or marks i 0) (omega arith) ∙ e
  was_prior m (suc t) (before_day h l e) = absurd (omega arith)

  -- as far back as the mark before t has lasted, it was that mark
  was_more : (t : ℕ) (b : Bool) → eqb (prior (suc t)) (prior t) ≡ b → ((k : ℕ) → 1 ≤ k → k ≤ length_of t → Was u marks (prior t) t k) → (k : ℕ) → 1 ≤ k → k ≤ cond b (suc (length_of t)) 1 → Was u marks (prior (suc t)) (suc t) k
  was_more t b e before zero h l = absurd (omega arith)
  was_more t b e before (suc zero) h l = in_day (omega arith) (ap (λ i. get_or marks i 0) (omega arith))
  was_more t true e before (suc (suc k)) h l = later (prior (suc t)) t (suc k) (subst (λ m. Was u marks m t (suc k)) (sym (eqb-true _ _ e)) (before (suc k) (omega arith) (omega arith)))
  was_more t false e before (suc (suc k)) h l = absurd (omega arith)

  was_so : (t k : ℕ) → 1 ≤ k → k ≤ length_of t → Was u marks (prior t) t k
  was_so zero k h l = before_day (omega arith) (omega arith) refl
  was_so (suc t) k h l = was_more t (eqb (prior (suc t)) (prior t)) refl (was_so t) k h l

  -- and it has lasted as far back as that
  lasted_so : (t l : ℕ) → ((k : ℕ) → 1 ≤ k → k ≤ l → Was u marks (prior t) t k) → l ≤ length_of t
  lasted_so zero zero h = omega arith
  lasted_so zero (suc l) h = back (h (suc l) (omega arith) (omega arith))
    where
      back : Was u marks (prior 0) 0 (suc l) → suc l ≤ u.lasted
      back (in_day k e) = absurd (omega arith)
      back (before_day k m e) = omega arith
  lasted_so (suc t) zero h = omega arith
  lasted_so (suc t) (suc zero) h = at_least_one (eqb (prior (suc t)) (prior t)) (length_of t)
    where
      at_least_one : (b : Bool) (n : ℕ) → 1 ≤ cond b (suc n) 1
      at_least_one true n = omega arith
      at_least_one false n = omega arith
  lasted_so (suc t) (suc (suc l)) h =
      let same : prior t ≡ prior (suc t) = was_prior (prior (suc t)) t (earlier (prior (suc t)) t 1 (h 2 (omega arith) (omega arith))) in
      let rest : suc l ≤ length_of t = lasted_so t (suc l) (λ k i j. subst (λ m. Was u marks m t k) (sym same) (earlier (prior (suc t)) t k (h (suc k) (omega arith) (omega arith)))) in
      let e : length_of (suc t) ≡ suc (length_of t) = cond-true (eqb (prior (suc t)) (prior t)) _ _ (eq-eqb (prior (suc t)) (prior t) (sym same)) in
      omega arith

-- ---- the tests of rules 12 and 13
module _ (u : ThermalUnit) where
  stop_told : (b h m : ℕ) → rule_12 u b h m ≡ true → b ≡ 1 → m ≡ 0 → u.least_running ≤ h
  stop_told b h m e ran stopped = leb-true _ _ (rw (ran, stopped) at e)

  start_told : (b h m : ℕ) → rule_13 u b h m ≡ true → b ≡ 0 → m ≡ 1 → u.least_stopped ≤ h
  start_told b h m e stood runs = leb-true _ _ (rw (stood, runs) at e)

  stop_passes : {b m : ℕ} → Mark b → Mark m → (h : ℕ) → (b ≡ 1 → m ≡ 0 → u.least_running ≤ h) → rule_12 u b h m ≡ true
  stop_passes on off h long = le-leb _ _ (long refl refl)
  stop_passes on on h long = refl
  stop_passes off off h long = refl
  stop_passes off on h long = refl

  start_passes : {b m : ℕ} → Mark b → Mark m → (h : ℕ) → (b ≡ 0 → m ≡ 1 → u.least_stopped ≤ h) → rule_13 u b h m ≡ true
  start_passes off on h long = le-leb _ _ (long refl refl)
  start_passes off off h long = refl
  start_passes on off h long = refl
  start_passes on on h long = refl

module _ (u : ThermalUnit) (marks : List ℕ) (n : ℕ) where
  -- the tests pass in each period exactly where the times are kept
  pub times_told : ((t : ℕ) → t < n → rule_12 u (prior u marks t) (length_of u marks t) (get_or marks t 0) ≡ true) → ((t : ℕ) → t < n → rule_13 u (prior u marks t) (length_of u marks t) (get_or marks t 0) ≡ true) → TimesKept u marks n
  times_told twelve thirteen = record {
    stops = λ t h ran stopped k i j. subst (λ m. Was u marks m t k) ran (was_so u marks t k i (omega (arith, stop_told u _ _ _ (twelve t h) ran stopped)));
    starts = λ t h stood runs k i j. subst (λ m. Was u marks m t k) stood (was_so u marks t k i (omega (arith, start_told u _ _ _ (thirteen t h) stood runs)));
  }

  module _ (kept : TimesKept u marks n) (t : ℕ) (within : t < n) (old : Mark (prior u marks t)) (new : Mark (get_or marks t 0)) where
    pub stop_kept : rule_12 u (prior u marks t) (length_of u marks t) (get_or marks t 0) ≡ true
    stop_kept = stop_passes u old new _ (λ ran stopped. lasted_so u marks t _ (λ k i j. subst (λ m. Was u marks m t k) (sym ran) (kept.stops t within ran stopped k i j)))

    pub start_kept : rule_13 u (prior u marks t) (length_of u marks t) (get_or marks t 0) ≡ true
    start_kept = start_passes u old new _ (λ stood runs. lasted_so u marks t _ (λ k i j. subst (λ m. Was u marks m t k) (sym stood) (kept.starts t within stood runs k i j)))
