-- Rows' outputs gathered at their nodes, one row after another. Assumes nothing.
use Rattle.std.proofs.Common.{◌≡◌, ℕ, ◌+◌, ◌*◌, ◌<◌, ◌≤◌, Bool, true, false, cond, eqb, List, length, set, ℤ, pos, ◌+ℤ◌, ◌-ℤ◌, Ok, Err, sym, ap, ◌∙◌, subst, ⊎_elim, arith}
use Rattle.std.proofs.lemmas.List.{get_or-set_same, get_or-set_other}
use Rattle.std.proofs.lemmas.Int.{ints}
use Rattle.std.proofs.lemmas.Bool.{cond-true, cond-false, eq-eqb, ne_eqb, cases_eq, lt-ltb}
use Rattle.market.specs.declared.broken.Broken.{Broken}
use Rattle.market.specs.Clearing.{Plan, row, output, load, RowsKept}
use Rattle.market.specs.Days.{Numbers, Made}
use Rattle.market.specs.Fleet.{Meaning, Facts, node_answer}
use Rattle.market.specs.Injections.{fed_by, Fed}
use Rattle.market.specs.Judging.{Ready}
use Rattle.market.specs.Scans.{at, Within}
use Rattle.market.specs.Totals.{total}
use Rattle.market.proofs.Cells.{at_part, place_below}
use Rattle.market.proofs.RowsCost.{row_fits}
use Rattle.market.proofs.Totals.{total_more, total_within}
use Rattle.market.proofs.Undercut.{ok_amount}

within_cond : (b : Bool) (n : ℕ) (x : ℤ) → Within n x → Within n (cond b x (pos 0))
within_cond true n x h = h
within_cond false n x h = (omega (arith, ints), omega (arith, ints))

node_told : (b : Bool) (n m : ℕ) (e : Broken) → b ≡ true → Ok n ≡ cond b (Ok m) (Err e) → n ≡ m
node_told true n m e t is = cc
node_told false n m e t is = let z : ◌≡◌ {A = ℕ} 0 1 = cc in absurd (omega arith)

-- the node that a fleet answers is the one that it means
pub node_is : (m : Meaning) (r n : ℕ) → r < m.size → Ok n ≡ node_answer m r → n ≡ m.node r
node_is m r n h is = node_told _ n (m.node r) _ (lt-ltb r m.size h) is

fed_bound : (r : ℕ) (x y : ℤ) → r ≤ 32 → Within (r * 20000) x → Within 40000 y → Within 680000 (x -ℤ y)
fed_bound r x y few h k = (omega (arith, ints), omega (arith, ints))

one_more : (a b x y z : ℤ) → a ≡ x -ℤ y → z ≡ x +ℤ b → a +ℤ b ≡ z -ℤ y
one_more a b x y z e f = omega (arith, ints)

same : (a x y z : ℤ) → a ≡ x -ℤ y → z ≡ x +ℤ pos 0 → a ≡ z -ℤ y
same a x y z e f = omega (arith, ints)

module _ (d : Numbers) (m : Meaning) (p : Plan) (t : ℕ) where
  pub fed_more : (r n : ℕ) (fed : List ℤ) → n ≡ m.node r → n < length fed → n < d.nodes → Fed d m p t r fed → Fed d m p t (r + 1) (set fed n (at fed n +ℤ output d p r t))
  fed_more r n fed is within inside h k kn =
      let step = total_more r (fed_by d m p t k) in
      ⊎_elim
      (λ e. ap (at (set fed n (at fed n +ℤ output d p r t))) e ∙ get_or-set_same fed n _ (pos 0) within
      ∙ one_more (at fed n) (output d p r t) (total r (fed_by d m p t k)) (load d k t) (total (r + 1) (fed_by d m p t k)) (ap (at fed) (sym e) ∙ h k kn)
      (step ∙ ap (λ x. total r (fed_by d m p t k) +ℤ x) (cond-true (eqb (m.node r) k) _ _ (eq-eqb (m.node r) k (sym is ∙ sym e)))))
      (λ ne. get_or-set_other fed n k _ (pos 0) ne
      ∙ same (at fed k) (total r (fed_by d m p t k)) (load d k t) (total (r + 1) (fed_by d m p t k)) (h k kn)
      (step ∙ ap (λ x. total r (fed_by d m p t k) +ℤ x) (cond-false (eqb (m.node r) k) _ _ (ne_eqb (m.node r) k (λ e. ne (sym e ∙ sym is))))))
      (cases_eq k n)

module _ (d : Numbers) (m : Meaning) (p : Plan) (facts : Facts m) (made : Made d) (ready : Ready d m p) (kept : RowsKept d m p m.size) (t : ℕ) (on : t < d.periods) where
  pub output_small : (r : ℕ) → r < m.size → Within 20000 (output d p r t)
  output_small r h =
      let v = ok_amount (m.verdict r (row d p r)) (kept r h) in
      let small = facts.outputs r (row d p r) v.0 h (row_fits d m p facts ready r h) v.1 t (subst (λ n. t < n) (sym ready.placed.periods) on) in
      subst (Within 20000) (at_part d.periods r t p.outputs (pos 0) on) small

  load_small : (k : ℕ) → k < d.nodes → Within 40000 (load d k t)
  load_small k h = made.loads (k * d.periods + t) (omega (arith, place_below k d.nodes d.periods t h on, made.lengths.loads))

  pub fed_small : (r : ℕ) (fed : List ℤ) → r ≤ m.size → Fed d m p t r fed → (k : ℕ) → k < d.nodes → Within 680000 (at fed k)
  fed_small r fed few h k kn =
      subst (Within 680000) (sym (h k kn))
      (fed_bound r (total r (fed_by d m p t k)) (load d k t) (omega (arith, facts.few)) (total_within r 20000 (fed_by d m p t k) (λ i lt. within_cond (eqb (m.node i) k) 20000 (output d p i t) (output_small i (omega arith)))) (load_small k kn))

  pub cell_inside : (r : ℕ) → r < m.size → r * d.periods + t < length p.outputs
  cell_inside r h = omega (arith, place_below r m.size d.periods t h on, ready.sized.outputs)
