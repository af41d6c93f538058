-- The questions of a table of thermal units, by tests and by what they mean. Assumes nothing.
use Rattle.std.proofs.Common.{◌≡◌, ◌≤◌, true, ◌&&◌, leb, length, Decides, refl}
use Rattle.std.proofs.lemmas.Bool.{and_parts, and_from, leb-true, le-leb}
use Rattle.std.proofs.lemmas.Bool.Decides.{Decides-below_and}
use Rattle.market.specs.Scans.{all_below}
use Rattle.market.proofs.Scanning.{decides_in}
use Rattle.kinds.specs.declared.thermal_unit.ThermalUnit.{ThermalUnit}
use Rattle.kinds.specs.Curves as Curves
use Rattle.kinds.specs.Tables.{PeriodsFit, CurvesFit}
use Rattle.kinds.specs.Thermal.{NumbersFit, unit}
use Rattle.kinds.specs.ThermalTables.{Table, Made, curve, RowsFit, Fits, costs_test, times_test, ramps_test, limits_test, state_test, numbers_test, made_test}
use Rattle.kinds.proofs.CurveTests.{decides_curves}
use Rattle.kinds.proofs.Sequences.{mark_of}
use Rattle.kinds.proofs.Shapes.{decides_from_to}
use Rattle.kinds.proofs.ThermalLaws.{stopped_told, running_told, output_passes, laws}

module _ (u : ThermalUnit) where
  numbers_so : numbers_test u ≡ true → NumbersFit u
  numbers_so e =
      let a = and_parts (costs_test u) _ e in
      let b = and_parts (times_test u) _ a.1 in
      let c = and_parts (ramps_test u) _ b.1 in
      let d = and_parts (limits_test u) (state_test u) c.1 in
      let costs = and_parts _ _ a.0 in
      let times = and_parts _ _ b.0 in
      let ramps = and_parts _ _ c.0 in
      let limits = and_parts _ _ d.0 in
      let state = and_parts (leb u.mark 1) _ d.1 in
      let rest = and_parts (leb 1 u.lasted && leb u.lasted 10000) _ state.1 in
      record {
        no_load = leb-true _ _ costs.0;
        start_cost = leb-true _ _ costs.1;
        least_running = (decides_from_to 1 96 u.least_running).0 times.0;
        least_stopped = (decides_from_to 1 96 u.least_stopped).0 times.1;
        ramp_up = (decides_in _ _ _).0 ramps.0;
        ramp_down = (decides_in _ _ _).0 ramps.1;
        start_limit = (decides_in _ _ _).0 limits.0;
        stop_limit = (decides_in _ _ _).0 limits.1;
        mark = leb-true _ _ state.0;
        lasted = (decides_from_to 1 10000 u.lasted).0 rest.0;
        stopped = stopped_told u u.mark u.output rest.1;
        running = running_told u u.mark u.output rest.1;
      }

  so_numbers : NumbersFit u → numbers_test u ≡ true
  so_numbers h =
      and_from _ _ (and_from _ _ (le-leb _ _ h.no_load) (le-leb _ _ h.start_cost))
      (and_from _ _ (and_from _ _ ((decides_from_to 1 96 u.least_running).1 h.least_running) ((decides_from_to 1 96 u.least_stopped).1 h.least_stopped))
      (and_from _ _ (and_from _ _ ((decides_in _ _ _).1 h.ramp_up) ((decides_in _ _ _).1 h.ramp_down))
      (and_from _ _ (and_from _ _ ((decides_in _ _ _).1 h.start_limit) ((decides_in _ _ _).1 h.stop_limit))
      (and_from _ _ (le-leb _ _ h.mark) (and_from _ _ ((decides_from_to 1 10000 u.lasted).1 h.lasted)
      (output_passes u u.output (mark_of u.mark h.mark) h.stopped h.running))))))

  pub decides_numbers : Decides (numbers_test u) (NumbersFit u)
  decides_numbers = (numbers_so, so_numbers)

module _ (f : Table) where
  decides_rows : Decides (all_below (λ r. numbers_test (unit f.units r)) (length f.units)) (RowsFit f.units (length f.units))
  decides_rows = Decides-below_and (λ r. numbers_test (unit f.units r)) (λ r. NumbersFit (unit f.units r)) (all_below (λ r. numbers_test (unit f.units r))) (λ r. decides_numbers (unit f.units r)) refl (λ n. refl) (length f.units)

  pub made_so : made_test f ≡ true → Made f
  made_so e =
      let p = and_parts (leb 1 f.periods && leb f.periods 96) _ e in
      let q = and_parts (leb (length f.units) 32) _ p.1 in
      let rows = and_parts (all_below (λ r. Curves.made_test (curve f.units r)) (length f.units)) _ q.1 in
      record {
        day = (decides_from_to 1 96 f.periods).0 p.0;
        few = leb-true _ _ q.0;
        rows = λ r h. record { curve = (decides_curves (curve f.units) (length f.units)).0 rows.0 r h; numbers = decides_rows.0 rows.1 r h };
      }

  pub fits : PeriodsFit f.periods → length f.units ≤ 32 → CurvesFit (curve f.units) (length f.units) → RowsFit f.units (length f.units) → Fits f
  fits day few curves rows = record {
    test = and_from _ _ ((decides_from_to 1 96 f.periods).1 day) (and_from _ _ (le-leb _ _ few) (and_from _ _ ((decides_curves (curve f.units) (length f.units)).1 curves) (decides_rows.1 rows)));
    made = record { day = day; few = few; rows = λ r h. record { curve = curves r h; numbers = rows r h } };
    laws = laws f.periods f.units (λ r h. record { curve = curves r h; numbers = rows r h });
  }
