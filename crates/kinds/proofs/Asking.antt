-- What is known of a row with its schedule or its prices once a fleet has asked of them. Assumes nothing.
use Rattle.std.proofs.Common.{◌≡◌, ℕ, ◌<◌, Bool, true, false, cond, eqb, ltb, length, Some, None, Ok, Err, Option, sym, refl, ap, ◌∙◌}
use Rattle.std.proofs.lemmas.Bool.{and_parts, ltb-true, eqb-true}
use Rattle.measures.specs.Amounts.{grains}
use Rattle.measures.specs.declared.Grains.{Grains}
use Rattle.market.specs.declared.broken.Broken.{Broken}
use Rattle.market.specs.Fleet.{Meaning, Schedule, RowPrices, Priced, broken, unless, row_fault, asked, schedule_listed, prices_listed, prices_asked, floor_answer}
use Rattle.market.proofs.Pricing.{Listed, priced_so}
use Rattle.kinds.proofs.Telling.{two}

-- a yes to both questions
yes : (b : Bool) (fault : Option Broken) (u : Unit {0}) (e : Broken) → Ok u ≡ cond b (unless fault tt) (Err e) → (b ≡ true) × (fault ≡ None)
yes true None u e h = (refl, refl)
yes true (Some f) u e h = absurd (two u f (Ok u) refl h)
yes false fault u e h = absurd (two u e (Ok u) refl h)

-- row r is one of n, and its schedule has a mark and an output for each of t periods
pub asked_schedule : (r n t : ℕ) (s : Schedule) (u : Unit {0}) → Ok u ≡ asked (schedule_listed r n t s) → (r < n) × (length s.marks ≡ t) × (length s.outputs ≡ t)
asked_schedule r n t s u e =
    let a = and_parts (ltb r n) _ (yes (schedule_listed r n t s) None u (broken 8 0) e).0 in
    let b = and_parts (eqb (length s.marks) t) _ a.1 in
    (ltb-true _ _ a.0, eqb-true _ _ b.0, eqb-true _ _ b.1)

module _ (m : Meaning) (r : ℕ) (q : RowPrices) (u : Unit {0}) (asked : Ok u ≡ prices_asked r m.size m.periods q) where
  pub asked_row : r < m.size
  asked_row = ltb-true _ _ (and_parts (ltb r m.size) _ (yes (prices_listed r m.size m.periods q) (row_fault q) u (broken 8 0) asked).0).0

  listed : Listed q m.periods
  listed =
      let a = and_parts (ltb r m.size) _ (yes (prices_listed r m.size m.periods q) (row_fault q) u (broken 8 0) asked).0 in
      let b = and_parts (eqb (length q.net) m.periods) _ a.1 in
      let d = and_parts (eqb (length q.rise) m.periods) _ b.1 in
      record { nets = eqb-true _ _ b.0; rises = eqb-true _ _ d.0; falls = eqb-true _ _ d.1 }

  -- the prices are within their limits, a price in each list for each period
  pub asked_priced : Priced m q
  asked_priced = priced_so m q listed (yes (prices_listed r m.size m.periods q) (row_fault q) u (broken 8 0) asked).1

  -- and then the answer is the floor
  pub asked_floor : (g : Grains) → g.0 ≡ (m.floor r q).0 → Ok g ≡ floor_answer m r q
  asked_floor g e =
      let a = yes (prices_listed r m.size m.periods q) (row_fault q) u (broken 8 0) asked in
      ap (λ z. Ok (grains z)) e ∙ λ j. cond (sym a.0 j) (unless (sym a.1 j) (m.floor r q)) (Err (broken 8 0))
