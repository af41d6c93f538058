-- The answer to a plan of right lengths, computed: for days and plans that are written out. Assumes nothing.
use Rattle.std.proofs.Common.{◌≡◌, ℕ, zero, suc, ◌+◌, ◌<◌, ◌≤◌, Bool, true, false, cond, ◌&&◌, ℤ, pos, ◌+ℤ◌, ◌*ℤ◌, ◌≤ℤ◌, Some, None, Ok, Err, Option, Result, refl, subst, add-one, arith, below_more}
use lib.Signed.{le_z}
use Rattle.std.proofs.lemmas.Int.{ints}
use Rattle.std.proofs.lemmas.Bool.{and_parts, and_from, both_ways}
use Rattle.measures.specs.Amounts.{grains}
use Rattle.measures.specs.declared.Grains.{Grains}
use Rattle.market.specs.declared.broken.Broken.{Broken}
use Rattle.market.specs.declared.refusal.Refusal.{Refusal}
use Rattle.market.specs.declared.refusal.Refusal.TheVariants.{Row, Balance, Upper, Lower}
use Rattle.market.specs.Clearing.{Plan, RowsKept, Balanced, LinesKept, Cleared, BreaksFirst, balance, upper_limit, lower_limit, row, supply, demand, flow, UnderUpper, OverLower}
use Rattle.market.specs.Days.{Numbers}
use Rattle.market.specs.Fleet.{Meaning, Facts}
use Rattle.market.specs.Judging.{Ready, Answered, broken}
use Rattle.market.specs.Scans.{at}
use Rattle.market.proofs.Rejecting.{rejected}
use Rattle.market.proofs.RowsCost.{RowsSoFar, rows_more, rows_broken, rows_done}
use Rattle.market.proofs.Scanning.{decides_le}

module _ (d : Numbers) (m : Meaning) (p : Plan) where
  -- the rows before n: their cost, or the first rule that one breaks
  abbrev with_row : Result ℤ Refusal → Result Grains Broken → ℕ → Result ℤ Refusal
  with_row (Err e) v r = Err e
  with_row (Ok c) (Ok x) r = Ok (c +ℤ x.0)
  with_row (Ok c) (Err e) r = Err (Row r e)

  abbrev rows : ℕ → Result ℤ Refusal
  rows zero = Ok (pos 0)
  rows (suc r) = with_row (rows r) (m.verdict r (row d p r)) r

  -- the first of two refusals
  abbrev first_of : Option Refusal → Option Refusal → Option Refusal
  first_of None next = next
  first_of (Some e) next = Some e

  abbrev line : ℕ → ℕ → Option Refusal
  line t l = cond (le_z (flow d m p l t) (pos 1000 *ℤ at d.upper l)) (cond (le_z (pos 1000 *ℤ at d.lower l) (flow d m p l t)) None (Some (Lower l (t + 1)))) (Some (Upper l (t + 1)))

  abbrev lines : ℕ → ℕ → Option Refusal
  lines t zero = None
  lines t (suc l) = first_of (lines t l) (line t l)

  abbrev same_test : ℤ → ℤ → Bool
  same_test x y = le_z x y && le_z y x

  abbrev period : ℕ → Option Refusal
  period t = cond (same_test (supply d m p t) (demand d t)) (lines t d.lines) (Some (Balance (t + 1)))

  abbrev periods : ℕ → Option Refusal
  periods zero = None
  periods (suc t) = first_of (periods t) (period t)

  abbrev answer_of : Result ℤ Refusal → Option Refusal → Result Grains Refusal
  answer_of (Err e) r = Err e
  answer_of (Ok c) (Some e) = Err e
  answer_of (Ok c) None = Ok (grains c)

  -- the answer
  abbrev pub computed : Result Grains Refusal
  computed = answer_of (rows m.size) (periods d.periods)

  -- ---- it is the answer
  module _ (facts : Facts m) (ready : Ready d m p) where
    abbrev RowsTell : ℕ → Result ℤ Refusal → Type 0
    RowsTell n (Ok c) = RowsSoFar d m p n c
    RowsTell n (Err e) = BreaksFirst d m p e

    one_row : (r : ℕ) (a : Result ℤ Refusal) (v : Result Grains Broken) → r < m.size → m.verdict r (row d p r) ≡ v → RowsTell r a → RowsTell (suc r) (with_row a v r)
    one_row r (Err e) v h is so = so
    one_row r (Ok c) (Ok x) h is so = subst (λ n. RowsSoFar d m p n (c +ℤ x.0)) (add-one r) (rows_more d m p facts ready r c x h so is)
    one_row r (Ok c) (Err e) h is so = rows_broken d m p facts ready r c e h so is

    rows_tell : (n : ℕ) → n ≤ m.size → RowsTell n (rows n)
    rows_tell zero few = record { kept = λ k h. absurd (omega arith); sum = refl; small = (omega (arith, ints), omega (arith, ints)) }
    rows_tell (suc r) few = one_row r (rows r) (m.verdict r (row d p r)) (omega arith) refl (rows_tell r (omega arith))

    -- the lines of a period
    abbrev LineTells : ℕ → ℕ → Option Refusal → Type 0
    LineTells t l None = UnderUpper d m p t l × OverLower d m p t l
    LineTells t l (Some e) = LinesKept d m p t l → Balanced d m p t → Cleared d m p t → RowsKept d m p m.size → BreaksFirst d m p e

    abbrev LinesTell : ℕ → ℕ → Option Refusal → Type 0
    LinesTell t l None = LinesKept d m p t l
    LinesTell t l (Some e) = Balanced d m p t → Cleared d m p t → RowsKept d m p m.size → BreaksFirst d m p e

    not_le : (x y : ℤ) → le_z x y ≡ false → x ≤ℤ y → ⊥
    not_le x y e h = both_ways (le_z x y) e ((decides_le x y).1 h)

    line_by : (t l : ℕ) (u w : Bool) → t < d.periods → l < d.lines → le_z (flow d m p l t) (pos 1000 *ℤ at d.upper l) ≡ u → le_z (pos 1000 *ℤ at d.lower l) (flow d m p l t) ≡ w
        → LineTells t l (cond u (cond w None (Some (Lower l (t + 1)))) (Some (Upper l (t + 1))))
    line_by t l false w on lt a b = λ kept even cleared rows. upper_limit t l on lt rows cleared even kept (not_le _ _ a)
    line_by t l true false on lt a b = λ kept even cleared rows. lower_limit t l on lt rows cleared even kept ((decides_le _ _).0 a) (not_le _ _ b)
    line_by t l true true on lt a b = ((decides_le _ _).0 a, (decides_le _ _).0 b)

    line_more : (t l : ℕ) (a b : Option Refusal) → LinesTell t l a → LineTells t l b → LinesTell t (suc l) (first_of a b)
    line_more t l (Some e) b so here = so
    line_more t l None (Some e) so here = here so
    line_more t l None None so here = λ k h. below_more (λ k. UnderUpper d m p t k × OverLower d m p t k) l so here k (omega arith)

    lines_tell : (t l : ℕ) → t < d.periods → l ≤ d.lines → LinesTell t l (lines t l)
    lines_tell t zero on few = λ k h. absurd (omega arith)
    lines_tell t (suc l) on few = line_more t l (lines t l) (line t l) (lines_tell t l on (omega arith)) (line_by t l _ _ on (omega arith) refl refl)

    -- a period, and all of them
    abbrev PeriodTells : ℕ → Option Refusal → Type 0
    PeriodTells t None = Balanced d m p t × LinesKept d m p t d.lines
    PeriodTells t (Some e) = Cleared d m p t → RowsKept d m p m.size → BreaksFirst d m p e

    same : (x y : ℤ) → le_z x y ≡ true → le_z y x ≡ true → x ≡ y
    same x y a b = let h = (decides_le x y).0 a in let k = (decides_le y x).0 b in omega (arith, ints)

    alike : (x y : ℤ) → x ≡ y → same_test x y ≡ true
    alike x y e = and_from _ _ ((decides_le x y).1 (omega (arith, ints))) ((decides_le y x).1 (omega (arith, ints)))

    period_by : (t : ℕ) (b : Bool) (r : Option Refusal) → t < d.periods → same_test (supply d m p t) (demand d t) ≡ b → LinesTell t d.lines r → PeriodTells t (cond b r (Some (Balance (t + 1))))
    period_by t false r on e h = λ cleared rows. balance t on rows cleared (λ even. both_ways _ e (alike _ _ even))
    period_by t true None on e h = let q = and_parts _ _ e in (same _ _ q.0 q.1, h)
    period_by t true (Some f) on e h = let q = and_parts _ _ e in h (same _ _ q.0 q.1)

    abbrev PeriodsTell : ℕ → Option Refusal → Type 0
    PeriodsTell t None = Cleared d m p t
    PeriodsTell t (Some e) = RowsKept d m p m.size → BreaksFirst d m p e

    period_more : (t : ℕ) (a b : Option Refusal) → PeriodsTell t a → PeriodTells t b → PeriodsTell (suc t) (first_of a b)
    period_more t (Some e) b so here = so
    period_more t None (Some e) so here = here so
    period_more t None None so here = λ s h. below_more (λ s. Balanced d m p s × LinesKept d m p s d.lines) t so here s (omega arith)

    periods_tell : (t : ℕ) → t ≤ d.periods → PeriodsTell t (periods t)
    periods_tell zero few = λ s h. absurd (omega arith)
    periods_tell (suc t) few = period_more t (periods t) (period t) (periods_tell t (omega arith)) (period_by t _ (lines t d.lines) (omega arith) refl (lines_tell t d.lines (omega arith) (omega arith)))

    whole : (a : Result ℤ Refusal) (r : Option Refusal) → RowsTell m.size a → PeriodsTell d.periods r → Answered d m p (answer_of a r)
    whole (Err e) r rows periods = rejected d m p e (broken e ready rows)
    whole (Ok c) (Some e) rows periods = rejected d m p e (broken e ready (periods rows.kept))
    whole (Ok c) None rows periods =
        let done = rows_done d m p facts ready m.size (grains c) refl rows in
        (ready.placed, record { marks = ready.sized.marks; outputs = ready.sized.outputs; rows = done.0; periods = periods }, done.1)

    pub computed_answers : Answered d m p computed
    computed_answers = whole (rows m.size) (periods d.periods) (rows_tell m.size (omega arith)) (periods_tell d.periods (omega arith))
