-- Two fleets that show the facts show them as one. Assumes nothing.
use Rattle.std.proofs.Common.{◌≡◌, ℕ, ◌+◌, ◌-◌, ◌<◌, ◌≤◌, Bool, true, false, cond, eqb, ltb, leb, sym, refl, ◌∙◌, subst, ⊎_elim, arith}
use Rattle.std.proofs.lemmas.Bool.{and_parts, cond-true, cond-false, cases_lt, eqb-true, leb-true, lt-ltb, le-ltb}
use Rattle.market.specs.Fleet.{Meaning, Schedule, RowPrices, Facts, Fits, Priced}
use Rattle.kinds.specs.Joined.{join_test, joined}

-- row r of a fleet as a fleet of its own
abbrev alone : Meaning → ℕ → Meaning
alone m r = record { periods = m.periods; size = 1; node = λ _. 0; verdict = λ _. m.verdict r; floor = λ _. m.floor r }

-- a schedule and prices that fit a number of periods fit any fleet of as many
fits_as : (m n : Meaning) → m.periods ≡ n.periods → {s : Schedule} → Fits m s → Fits n s
fits_as m n e f = record { marks = f.marks ∙ e; outputs = f.outputs ∙ e }

priced_as : (m n : Meaning) → m.periods ≡ n.periods → {q : RowPrices} → Priced m q → Priced n q
priced_as m n e p = record {
  nets = p.nets ∙ e;
  rises = p.rises ∙ e;
  falls = p.falls ∙ e;
  net_limit = λ t h. p.net_limit t (omega arith);
  rise_limit = λ t h. p.rise_limit t (omega arith);
  fall_limit = λ t h. p.fall_limit t (omega arith);
}

-- the facts are facts of each row
alone_shows : (m : Meaning) (r : ℕ) → Facts m → r < m.size → Facts (alone m r)
alone_shows m r f h = record {
  day = f.day;
  few = omega arith;
  outputs = λ _ s c _ fits. f.outputs r s c h (fits_as (alone m r) m refl fits);
  costs = λ _ s c _ fits. f.costs r s c h (fits_as (alone m r) m refl fits);
  floors = λ _ q _ p. f.floors r q h (priced_as (alone m r) m refl p);
  rules = λ _ s e _ fits. f.rules r s e h (fits_as (alone m r) m refl fits);
  sound = λ _ s q c _ fits p. f.sound r s q c h (fits_as (alone m r) m refl fits) (priced_as (alone m r) m refl p);
}

each_shows : (m : Meaning) → (1 ≤ m.periods) × (m.periods ≤ 96) → m.size ≤ 32 → ((r : ℕ) → r < m.size → Facts (alone m r)) → Facts m
each_shows m day few each = record {
  day = day;
  few = few;
  outputs = λ r s c h fits. (each r h).outputs 0 s c (omega arith) (fits_as m (alone m r) refl fits);
  costs = λ r s c h fits. (each r h).costs 0 s c (omega arith) (fits_as m (alone m r) refl fits);
  floors = λ r q h p. (each r h).floors 0 q (omega arith) (priced_as m (alone m r) refl p);
  rules = λ r s e h fits. (each r h).rules 0 s e (omega arith) (fits_as m (alone m r) refl fits);
  sound = λ r s q c h fits p. (each r h).sound 0 s q c (omega arith) (fits_as m (alone m r) refl fits) (priced_as m (alone m r) refl p);
}

module _ (a b : Meaning) where
  alone_first : (r : ℕ) → r < a.size → alone a r ≡ alone (joined a b) r
  alone_first r h = λ j. record {
    periods = a.periods;
    size = 1;
    node = λ _. 0;
    verdict = λ _. sym (cond-true (ltb r a.size) (a.verdict r) (b.verdict (r - a.size)) (lt-ltb r a.size h)) j;
    floor = λ _. sym (cond-true (ltb r a.size) (a.floor r) (b.floor (r - a.size)) (lt-ltb r a.size h)) j;
  }

  alone_second : (r : ℕ) → b.periods ≡ a.periods → a.size ≤ r → alone b (r - a.size) ≡ alone (joined a b) r
  alone_second r e h = λ j. record {
    periods = e j;
    size = 1;
    node = λ _. 0;
    verdict = λ _. sym (cond-false (ltb r a.size) (a.verdict r) (b.verdict (r - a.size)) (le-ltb r a.size h)) j;
    floor = λ _. sym (cond-false (ltb r a.size) (a.floor r) (b.floor (r - a.size)) (le-ltb r a.size h)) j;
  }

  -- where the two join, their periods are the same and their rows few; else there is no row
  abbrev size_when : Bool → ℕ
  size_when t = cond t (a.size + b.size) 0

  few_rows : (t : Bool) → join_test a b ≡ t → size_when t ≤ 32
  few_rows true e = leb-true (a.size + b.size) 32 (and_parts (eqb a.periods b.periods) (leb (a.size + b.size) 32) e).1
  few_rows false e = omega arith

  row_shows : Facts a → Facts b → (t : Bool) → join_test a b ≡ t → (r : ℕ) → r < size_when t → Facts (alone (joined a b) r)
  row_shows f g false e r h = absurd (omega arith)
  row_shows f g true e r h =
      let same = eqb-true a.periods b.periods (and_parts (eqb a.periods b.periods) (leb (a.size + b.size) 32) e).0 in
      ⊎_elim (λ k. subst Facts (alone_first r k) (alone_shows a r f k)) (λ k. subst Facts (alone_second r (sym same) k) (alone_shows b (r - a.size) g (omega arith))) (cases_lt r a.size)

  pub joined_shows : Facts a → Facts b → Facts (joined a b)
  joined_shows f g = each_shows (joined a b) f.day (few_rows (join_test a b) refl) (row_shows f g (join_test a b) refl)
