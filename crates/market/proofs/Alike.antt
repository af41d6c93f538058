-- Fleets that no question tells apart are told the same of a plan. Assumes nothing.
use Rattle.std.proofs.Common.{◌≡◌, ℕ, ◌*◌, ◌<◌, ◌≤◌, ℤ, pos, ◌-ℤ◌, ◌*ℤ◌, ◌≤ℤ◌, is_ok, Ok, Err, Result, sym, ap, ◌∙◌, subst, arith}
use Rattle.measures.specs.declared.Grains.{Grains}
use Rattle.market.specs.declared.refusal.Refusal.{Refusal}
use Rattle.market.specs.Clearing.{Plan, Placed, RowsKept, Balanced, LinesKept, Cleared, UnderUpper, OverLower, Lawful, BreaksFirst, row_rule, balance, upper_limit, lower_limit, row, output, load, factor, supply, flow, amount, cost}
use Rattle.market.specs.Days.{Numbers}
use Rattle.market.specs.Fleet.{Meaning, Fits, Same}
use Rattle.market.specs.Judging.{Ready, Refused, PlanSized, unplaced, lengths, broken, Answered}
use Rattle.market.specs.Placing.{Unplaced, sizes}
use Rattle.market.specs.Placing as Placing
use Rattle.market.specs.Scans.{at}
use Rattle.market.specs.Totals.{total}
use Rattle.market.proofs.Cells.{length_part}
use Rattle.market.proofs.Rejecting.{rejected}
use Rattle.market.proofs.Totals.{total_cong}

-- sums over as many rows, term by term
pub total_alike : (n k : ℕ) (f g : ℕ → ℤ) → n ≡ k → ((r : ℕ) → r < n → f r ≡ g r) → total n f ≡ total k g
total_alike n k f g e h = total_cong n f g h ∙ ap (λ n. total n g) e

-- the other way round
pub flip : (m n : Meaning) → Same m n → Same n m
flip m n same = record {
  periods = sym same.periods;
  size = sym same.size;
  node = λ r h. sym (same.node r (omega (arith, same.size)));
  verdict = λ r s h f. sym (same.verdict r s (omega (arith, same.size)) (record { marks = f.marks ∙ sym same.periods; outputs = f.outputs ∙ sym same.periods }));
  floor = λ r q h p. sym (same.floor r q (omega (arith, same.size)) (record {
    nets = p.nets ∙ sym same.periods;
    rises = p.rises ∙ sym same.periods;
    falls = p.falls ∙ sym same.periods;
    net_limit = λ t k. p.net_limit t (omega (arith, same.periods));
    rise_limit = λ t k. p.rise_limit t (omega (arith, same.periods));
    fall_limit = λ t k. p.fall_limit t (omega (arith, same.periods));
  }));
}

plan_sized_alike : (d : Numbers) (m n : Meaning) → Same m n → (p : Plan) → PlanSized d m p → PlanSized d n p
plan_sized_alike d m n same p s = record { marks = s.marks ∙ ap (λ k. k * d.periods) same.size; outputs = s.outputs ∙ ap (λ k. k * d.periods) same.size }

module _ (d : Numbers) (m n : Meaning) (same : Same m n) where
  pub placed_alike : Placed d m → Placed d n
  placed_alike p = record {
    periods = sym same.periods ∙ p.periods;
    some = (omega (arith, same.size, p.some.0), omega (arith, same.size, p.some.1));
    nodes = λ r h. let k : r < m.size = omega (arith, same.size) in omega (arith, same.node r k, p.nodes r k);
  }

  pub unplaced_alike : (e : Refusal) → Unplaced d m e → Unplaced d n e
  unplaced_alike _ (sizes off) = sizes (λ h. off (record { periods = same.periods ∙ h.periods; some = (omega (arith, same.size, h.some.0), omega (arith, same.size, h.some.1)) }))
  unplaced_alike _ (Placing.row r fit out) =
      Placing.row r (record { periods = sym same.periods ∙ fit.periods; some = (omega (arith, same.size, fit.some.0), omega (arith, same.size, fit.some.1)) })
      (record {
        within = omega (arith, same.size, out.within);
        before = λ j h. let k : j < m.size = omega (arith, out.within) in omega (arith, same.node j k, out.before j h);
        out = omega (arith, same.node r out.within, out.out);
      })

  module _ (p : Plan) where
    module _ (ready : Ready d m p) where
      fits : (r : ℕ) → r < m.size → Fits m (row d p r)
      fits r h = record {
        marks = length_part d.periods r m.size p.marks h ready.sized.marks ∙ sym ready.placed.periods;
        outputs = length_part d.periods r m.size p.outputs h ready.sized.outputs ∙ sym ready.placed.periods;
      }

      verdicts : (r : ℕ) → r < m.size → m.verdict r (row d p r) ≡ n.verdict r (row d p r)
      verdicts r h = same.verdict r (row d p r) h (fits r h)

      rows_alike : (r : ℕ) → r ≤ m.size → RowsKept d m p r → RowsKept d n p r
      rows_alike r few kept k h = ap is_ok (sym (verdicts k (omega arith))) ∙ kept k h

      all_rows : RowsKept d m p m.size → RowsKept d n p n.size
      all_rows kept = subst (RowsKept d n p) same.size (rows_alike m.size (omega arith) kept)

      supplies : (t : ℕ) → supply d m p t ≡ supply d n p t
      supplies t = ap (λ k. total k (λ r. output d p r t)) same.size

      flows : (l t : ℕ) → flow d m p l t ≡ flow d n p l t
      flows l t =
          ap (λ x. x -ℤ total d.nodes (λ k. factor d l k *ℤ load d k t))
          (total_alike m.size n.size _ _ same.size (λ r h. ap (λ k. factor d l k *ℤ output d p r t) (same.node r h)))

      balanced : (t : ℕ) → Balanced d m p t → Balanced d n p t
      balanced t e = sym (supplies t) ∙ e

      unbalanced : (t : ℕ) → (Balanced d m p t → ⊥) → Balanced d n p t → ⊥
      unbalanced t off e = off (supplies t ∙ e)

      under : (t l : ℕ) → UnderUpper d m p t l → UnderUpper d n p t l
      under t l h = subst (λ x. x ≤ℤ (pos 1000 *ℤ at d.upper l)) (flows l t) h

      above : (t l : ℕ) → OverLower d m p t l → OverLower d n p t l
      above t l h = subst (λ x. (pos 1000 *ℤ at d.lower l) ≤ℤ x) (flows l t) h

      lines : (t l : ℕ) → LinesKept d m p t l → LinesKept d n p t l
      lines t l kept k h = (under t k (kept k h).0, above t k (kept k h).1)

      cleared : (t : ℕ) → Cleared d m p t → Cleared d n p t
      cleared t c s h = (balanced s (c s h).0, lines s d.lines (c s h).1)

      pub costs : cost d m p ≡ cost d n p
      costs = total_alike m.size n.size _ _ same.size (λ r h. ap amount (verdicts r h))

      breaks_alike : (e : Refusal) → BreaksFirst d m p e → BreaksFirst d n p e
      breaks_alike _ (row_rule r e lt kept is) = row_rule r e (omega (arith, same.size)) (rows_alike r (omega arith) kept) (sym (verdicts r lt) ∙ is)
      breaks_alike _ (balance t on rows before off) = balance t on (all_rows rows) (cleared t before) (unbalanced t off)
      breaks_alike _ (upper_limit t l on lt rows before even kept off) =
          upper_limit t l on lt (all_rows rows) (cleared t before) (balanced t even) (lines t l kept) (λ h. off (subst (λ x. x ≤ℤ (pos 1000 *ℤ at d.upper l)) (sym (flows l t)) h))
      breaks_alike _ (lower_limit t l on lt rows before even kept up off) =
          lower_limit t l on lt (all_rows rows) (cleared t before) (balanced t even) (lines t l kept) (under t l up) (λ h. off (subst (λ x. (pos 1000 *ℤ at d.lower l) ≤ℤ x) (sym (flows l t)) h))

      pub lawful_alike : Lawful d m p → Lawful d n p
      lawful_alike h = let s = plan_sized_alike d m n same p ready.sized in record { marks = s.marks; outputs = s.outputs; rows = all_rows h.rows; periods = cleared d.periods h.periods }

      ready_alike : Ready d n p
      ready_alike = record { placed = placed_alike ready.placed; sized = plan_sized_alike d m n same p ready.sized }

module _ (d : Numbers) (m n : Meaning) (same : Same m n) (p : Plan) where
  refused_alike : (e : Refusal) → Refused d m p e → Refused d n p e
  refused_alike _ (unplaced e u) = unplaced e (unplaced_alike d m n same e u)
  refused_alike _ (lengths fit off) = lengths (placed_alike d m n same fit) (λ s. off (plan_sized_alike d n m (flip m n same) p s))
  refused_alike _ (broken e ready b) = broken e (ready_alike d m n same p ready) (breaks_alike d m n same p ready e b)

  pub answered_alike : (a : Result Grains Refusal) → Answered d m p a → Answered d n p a
  answered_alike (Ok c) h =
      let ready : Ready d m p = record { placed = h.0; sized = record { marks = h.1.marks; outputs = h.1.outputs } } in
      (placed_alike d m n same h.0, lawful_alike d m n same p ready h.1, h.2 ∙ costs d m n same p ready)
  answered_alike (Err e) h = rejected d n p e (refused_alike e h.first)
