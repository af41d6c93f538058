-- The rows of a plan, judged one after another. Assumes nothing.
use Rattle.std.proofs.Common.{◌≡◌, ℕ, suc, ◌+◌, ◌*◌, ◌<◌, ◌≤◌, ℤ, ◌+ℤ◌, is_ok, Ok, Err, Result, sym, ap, ◌∙◌, subst, mul-le-mul_right, arith, below_more}
use Rattle.std.proofs.lemmas.Int.{ints}
use Rattle.std.proofs.lemmas.Bool.{cond-true, and_from, lt-ltb, eq-eqb}
use Rattle.measures.specs.declared.Grains.{Grains}
use Rattle.market.specs.declared.refusal.Refusal.TheVariants.{Row}
use Rattle.market.specs.declared.broken.Broken.{Broken}
use Rattle.market.specs.Clearing.{Plan, row, amount, RowsKept, BreaksFirst, row_rule}
use Rattle.market.specs.Days.{Numbers}
use Rattle.market.specs.Fleet.{Meaning, Facts, Fits, Schedule, verdict_answer}
use Rattle.market.specs.Judging.{Ready, RowsJudged, SmallTold}
use Rattle.market.specs.Scans.{Within}
use Rattle.market.specs.Totals.{total}
use Rattle.market.proofs.Cells.{length_part}
use Rattle.market.proofs.Totals.{total_more}

-- every row before r is lawful, and c is what they cost
pub record RowsSoFar (d : Numbers) (m : Meaning) (p : Plan) (r : ℕ) (c : ℤ) : Type 0 where
  pub kept : RowsKept d m p r
  pub sum : c ≡ total r (λ k. amount (m.verdict k (row d p k)))
  pub small : Within (r * 10000000000000000) c

joined : (r : ℕ) (c x : ℤ) → Within (r * 10000000000000000) c → Within 10000000000000000 x → Within ((r + 1) * 10000000000000000) (c +ℤ x)
joined r c x h k = (omega (arith, ints), omega (arith, ints))

few : (r : ℕ) (c : ℤ) → r ≤ 32 → Within (r * 10000000000000000) c → Within 4000000000000000000 c
few r c l h = (omega (arith, ints), omega (arith, ints))

-- the end of a row's part lies within the table
pub part_ends : (r n size : ℕ) → r < size → r * n + n ≤ size * n
part_ends r n size h = let k : suc r * n ≤ size * n = mul-le-mul_right n h in omega arith

module _ (d : Numbers) (m : Meaning) (p : Plan) (facts : Facts m) (ready : Ready d m p) where
  pub row_fits : (r : ℕ) → r < m.size → Fits m (row d p r)
  row_fits r h = record {
    marks = length_part d.periods r m.size p.marks h ready.sized.marks ∙ sym ready.placed.periods;
    outputs = length_part d.periods r m.size p.outputs h ready.sized.outputs ∙ sym ready.placed.periods;
  }

  -- the fleet's answer on row r is the verdict that it means
  pub answer_is : (r : ℕ) → r < m.size → verdict_answer m r (row d p r) ≡ m.verdict r (row d p r)
  answer_is r h =
      let f = row_fits r h in
      cond-true _ _ _ (and_from _ _ (lt-ltb r m.size h) (and_from _ _ (eq-eqb _ _ f.marks) (eq-eqb _ _ f.outputs)))

  -- the schedule that the fleet is handed is row r
  pub told : (r : ℕ) (s : Schedule) (v : Result Grains Broken) → r < m.size → s ≡ row d p r → v ≡ verdict_answer m r s → m.verdict r (row d p r) ≡ v
  told r s v h e is = sym (answer_is r h) ∙ ap (verdict_answer m r) (sym e) ∙ sym is

  pub rows_broken : (r : ℕ) (c : ℤ) (e : Broken) → r < m.size → RowsSoFar d m p r c → m.verdict r (row d p r) ≡ Err e → BreaksFirst d m p (Row r e)
  rows_broken r c e h so is = row_rule r e h so.kept is

  pub rows_more : (r : ℕ) (c : ℤ) (more : Grains) → r < m.size → RowsSoFar d m p r c → m.verdict r (row d p r) ≡ Ok more → RowsSoFar d m p (r + 1) (c +ℤ more.0)
  rows_more r c more h so is = record {
    kept = below_more _ _ so.kept (ap is_ok is);
    sum = (λ j. so.sum j +ℤ sym (ap amount is) j) ∙ sym (total_more r (λ k. amount (m.verdict k (row d p k))));
    small = joined r c more.0 so.small (facts.costs r (row d p r) more h (row_fits r h) is);
  }

  -- all rows
  pub rows_done : (r : ℕ) (c : Grains) → r ≡ m.size → RowsSoFar d m p r c.0 → RowsJudged d m p (Ok c)
  rows_done r c e so =
      let all = subst (λ n. RowsSoFar d m p n c.0) e so in
      (all.kept, all.sum)

  pub rows_small : (r : ℕ) (c : Grains) → r ≡ m.size → RowsSoFar d m p r c.0 → SmallTold (Ok c)
  rows_small r c e so =
      let all = subst (λ n. RowsSoFar d m p n c.0) e so in
      few m.size c.0 ready.placed.some.1 all.small
