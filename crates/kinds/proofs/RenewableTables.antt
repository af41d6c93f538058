-- The questions of a table of renewable stations, by a test and by what they mean. Assumes nothing.
use Rattle.std.proofs.Common.{◌≡◌, ℕ, true, length, ℤ, pos, Ok, Err, Decides, Result, refl, arith, MatchResult}
use Rattle.std.proofs.lemmas.Int.{ints}
use Rattle.std.proofs.lemmas.Bool.{and_parts, and_from}
use Rattle.std.proofs.lemmas.Bool.Decides.{Decides-below_and}
use Rattle.market.specs.Scans.{in_test, In, in_all, all_below}
use Rattle.market.proofs.Scanning.{decides_in, decides_all}
use Rattle.kinds.specs.declared.table_fault.TableFault.{TableFault}
use Rattle.kinds.specs.Curves as Curves
use Rattle.kinds.specs.Curves.{lowest}
use Rattle.kinds.specs.Renewables.{Table, curve, power, ShapeFits, RowFits, RowsFit, NoRow, Made, Fits, Refused, rows, row_test, made_test}
use Rattle.kinds.specs.Tables.{shape_test, CurvesFit}
use Rattle.kinds.proofs.CurveTests.{decides_curves}
use Rattle.kinds.proofs.Shapes.{decides_shape}

zero_in : (x : ℤ) → In (pos 0) (pos 0) x → x ≡ pos 0
zero_in x h = omega (arith, ints)

in_zero : (x : ℤ) → x ≡ pos 0 → In (pos 0) (pos 0) x
in_zero x e = (omega (arith, ints), omega (arith, ints))

module _ (f : Table) where
  decides_row : (r : ℕ) → Decides (row_test f r) (RowFits (curve f r) (power f r))
  decides_row r = (
    λ e.
        let p = and_parts (in_test (pos 0) (pos 0) (lowest (curve f r))) (in_all (pos 0) (pos 20000) (power f r)) e in
        record { begins = zero_in _ ((decides_in (pos 0) (pos 0) (lowest (curve f r))).0 p.0); available = (decides_all (pos 0) (pos 20000) (power f r)).0 p.1 },
    λ h. and_from _ _ ((decides_in (pos 0) (pos 0) (lowest (curve f r))).1 (in_zero _ h.begins)) ((decides_all (pos 0) (pos 20000) (power f r)).1 h.available),
  )

  decides_rows : Decides (all_below (row_test f) (length f.stations)) (RowsFit f (length f.stations))
  decides_rows = Decides-below_and (row_test f) (λ r. RowFits (curve f r) (power f r)) (all_below (row_test f)) decides_row refl (λ n. refl) (length f.stations)

  pub made_so : made_test f ≡ true → Made f
  made_so e =
      let p = and_parts (shape_test f.periods (length f.stations) (length f.available)) _ e in
      let q = and_parts (all_below (λ r. Curves.made_test (curve f r)) (length f.stations)) _ p.1 in
      record { shape = (decides_shape _ _ _).0 p.0; curves = (decides_curves (curve f) (length f.stations)).0 q.0; rows = decides_rows.0 q.1 }

  fits : ShapeFits f → CurvesFit (curve f) (length f.stations) → RowsFit f (length f.stations) → Fits f
  fits a b c = record {
    test = and_from _ _ ((decides_shape _ _ _).1 a) (and_from _ _ ((decides_curves (curve f) (length f.stations)).1 b) (decides_rows.1 c));
    made = record { shape = a; curves = b; rows = c };
  }

  -- the last questions, where the ones before have the answer yes
  pub told : ShapeFits f → CurvesFit (curve f) (length f.stations) → (r : Result (Unit {0}) TableFault) → MatchResult r (λ _. RowsFit f (length f.stations)) (NoRow f) → MatchResult r (λ _. Fits f) (Refused f)
  told s c (Ok _) h = fits s c h
  told s c (Err e) h = rows e s c h
