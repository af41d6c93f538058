-- The first two questions of a table, by tests and by what they mean. Assumes nothing.
use Rattle.std.proofs.Common.{◌≡◌, ℕ, ◌*◌, ◌≤◌, Bool, true, false, ◌&&◌, eqb, leb, Decides, Result, sym, refl, subst, MatchResult}
use Rattle.std.proofs.lemmas.Bool.{and_parts, and_from, both_ways, leb-true, le-leb, eqb-true, eq-eqb}
use Rattle.std.proofs.lemmas.Bool.Decides.{Decides-and}
use Rattle.kinds.specs.declared.table_fault.TableFault.{TableFault}
use Rattle.kinds.specs.declared.table_fault.TableFault.TheVariants.{Periods, Sizes}
use Rattle.kinds.specs.Tables as Tables
use Rattle.kinds.specs.Tables.{PeriodsFit, LengthsFit, Shaped, Unshaped, shape_test, first_told, shape_told, rows_told}

pub decides_from_to : (low high n : ℕ) → Decides (leb low n && leb n high) ((low ≤ n) × (n ≤ high))
decides_from_to low high n = Decides-and (leb low n) (leb n high) (leb-true low n, le-leb low n) (leb-true n high, le-leb n high)

module _ (periods rows cells : ℕ) where
  decides_periods : Decides (leb 1 periods && leb periods 96) (PeriodsFit periods)
  decides_periods = decides_from_to 1 96 periods

  decides_lengths : Decides (leb rows 32 && eqb cells (rows * periods)) (LengthsFit periods rows cells)
  decides_lengths = (
    λ e. let p = and_parts (leb rows 32) (eqb cells (rows * periods)) e in record { few = leb-true _ _ p.0; all = eqb-true _ _ p.1 },
    λ h. and_from (leb rows 32) (eqb cells (rows * periods)) (le-leb _ _ h.few) (eq-eqb _ _ h.all),
  )

  pub decides_shape : Decides (shape_test periods rows cells) (Shaped periods rows cells)
  decides_shape = (
    λ e. let p = and_parts (leb 1 periods && leb periods 96) _ e in record { day = decides_periods.0 p.0; lengths = decides_lengths.0 p.1 },
    λ h. and_from (leb 1 periods && leb periods 96) _ (decides_periods.1 h.day) (decides_lengths.1 h.lengths),
  )

  told_by : (a b : Bool) → (leb 1 periods && leb periods 96) ≡ a → (leb rows 32 && eqb cells (rows * periods)) ≡ b
      → MatchResult (first_told a b) (λ _. Shaped periods rows cells) (Unshaped periods rows cells)
  told_by true true s t = record { day = decides_periods.0 s; lengths = decides_lengths.0 t }
  told_by true false s t = Tables.lengths (decides_periods.0 s) (λ h. both_ways (leb rows 32 && eqb cells (rows * periods)) t (decides_lengths.1 h))
  told_by false b s t = Tables.day (λ h. both_ways (leb 1 periods && leb periods 96) s (decides_periods.1 h))

  -- what the computation tells
  pub shape_so : (o : Result (Unit {0}) TableFault) → o ≡ shape_told periods rows cells → MatchResult o (λ _. Shaped periods rows cells) (Unshaped periods rows cells)
  shape_so o e = subst (λ x. MatchResult x (λ _. Shaped periods rows cells) (Unshaped periods rows cells)) (sym e) (told_by _ _ refl refl)

-- a table that has no cells: e tells which of the two questions has the answer no
abbrev pub Crowded : ℕ → ℕ → TableFault → Type 0
Crowded periods rows Periods = PeriodsFit periods → ⊥
Crowded periods rows Sizes = PeriodsFit periods × (rows ≤ 32 → ⊥)
Crowded periods rows _ = ⊥

module _ (periods rows : ℕ) where
  few_by : (a b : Bool) → (leb 1 periods && leb periods 96) ≡ a → leb rows 32 ≡ b
      → MatchResult (first_told a b) (λ _. PeriodsFit periods × (rows ≤ 32)) (Crowded periods rows)
  few_by true true s t = ((decides_periods periods rows rows).0 s, leb-true _ _ t)
  few_by true false s t = ((decides_periods periods rows rows).0 s, λ h. both_ways (leb rows 32) t (le-leb _ _ h))
  few_by false b s t = λ h. both_ways (leb 1 periods && leb periods 96) s ((decides_periods periods rows rows).1 h)

  -- what the computation tells
  pub rows_so : (o : Result (Unit {0}) TableFault) → o ≡ rows_told periods rows → MatchResult o (λ _. PeriodsFit periods × (rows ≤ 32)) (Crowded periods rows)
  rows_so o e = subst (λ x. MatchResult x (λ _. PeriodsFit periods × (rows ≤ 32)) (Crowded periods rows)) (sym e) (few_by _ _ refl refl)
