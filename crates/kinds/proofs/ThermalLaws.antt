-- A thermal unit's verdict and floor are what the rules say in words. Assumes nothing.
use Rattle.std.proofs.Common.{◌≡◌, ℕ, zero, suc, ◌<◌, ◌≤◌, true, List, length, get_or, ℤ, pos, ◌-ℤ◌, ◌≤ℤ◌, None, Ok, sym, refl, ap, arith}
use Rattle.std.proofs.lemmas.Int.{ints}
use Rattle.std.proofs.lemmas.Bool.{and_parts, and_from, leb-true, le-leb}
use Rattle.measures.specs.Amounts.{grains}
use Rattle.measures.specs.declared.Grains.{Grains}
use Rattle.market.specs.Fleet.{Schedule, RowPrices}
use Rattle.market.specs.Scans.{at, In}
use Rattle.market.specs.Totals.{total}
use Rattle.market.proofs.Scanning.{decides_in, decides_le}
use Rattle.kinds.specs.declared.thermal_unit.ThermalUnit.{ThermalUnit}
use Rattle.kinds.specs.Curves.{lowest, highest}
use Rattle.kinds.specs.Thermal.{rule_11, rule_14, rule_15, before, output_before, mark_in, mark_before, rule, cost_in, verdict, keeps, lightest, floor, unit, UnitMade}
use Rattle.kinds.specs.ThermalLaws.{RulesKept, VerdictLaw, Sequence, Lightest, FloorLaw, Laws}
use Rattle.kinds.proofs.Units.{mark_is}
use Rattle.kinds.proofs.Lawful.{KeepsAll, all_kept, LawfulIn, keeps_each, cost_is}
use Rattle.kinds.proofs.Sequences.{Mark, on, off, Marks, none, more, mark_of, marks_of, lightest_le, lightest_reached}
use Rattle.kinds.proofs.Soundness.{all_pass}
use Rattle.kinds.proofs.Times.{times_told, stop_kept, start_kept}
use Rattle.kinds.proofs.Verdicts.{judged_so}

-- ---- one period's tests, in words
module _ (u : ThermalUnit) (m : ℕ) (p : ℤ) where
  pub stopped_told : rule_11 u m p ≡ true → m ≡ 0 → p ≡ pos 0
  stopped_told e stopped = let w = (decides_in (pos 0) (pos 0) p).0 (rw stopped at e) in omega (arith, ints)

  pub running_told : rule_11 u m p ≡ true → m ≡ 1 → In (lowest u.curve) (highest u.curve) p
  running_told e runs = (decides_in (lowest u.curve) (highest u.curve) p).0 (rw runs at e)

module _ {u : ThermalUnit} {b h : ℕ} {o : ℤ} {m : ℕ} {p : ℤ} (k : KeepsAll u b h o m p) where
  rise_running : b ≡ 1 → m ≡ 1 → (p -ℤ o) ≤ℤ u.ramp_up
  rise_running ran runs = (decides_le (p -ℤ o) u.ramp_up).0 (rw (ran, runs) at k.rise)

  rise_starting : b ≡ 0 → m ≡ 1 → (p -ℤ o) ≤ℤ u.start_limit
  rise_starting stood runs = (decides_le (p -ℤ o) u.start_limit).0 (rw (stood, runs) at k.rise)

  rise_stopped : m ≡ 0 → (p -ℤ o) ≤ℤ pos 0
  rise_stopped stopped = (decides_le (p -ℤ o) (pos 0)).0 (rw stopped at k.rise)

  fall_running : b ≡ 1 → m ≡ 1 → (o -ℤ p) ≤ℤ u.ramp_down
  fall_running ran runs = (decides_le (o -ℤ p) u.ramp_down).0 (rw (ran, runs) at k.fall)

  fall_stopping : b ≡ 1 → m ≡ 0 → (o -ℤ p) ≤ℤ u.stop_limit
  fall_stopping ran stopped = (decides_le (o -ℤ p) u.stop_limit).0 (rw (ran, stopped) at k.fall)

  fall_stopped : b ≡ 0 → (o -ℤ p) ≤ℤ pos 0
  fall_stopped stood = (decides_le (o -ℤ p) (pos 0)).0 (rw stood at k.fall)

-- and back
pub output_passes : (u : ThermalUnit) (p : ℤ) {m : ℕ} → Mark m → (m ≡ 0 → p ≡ pos 0) → (m ≡ 1 → In (lowest u.curve) (highest u.curve) p) → rule_11 u m p ≡ true
output_passes u p off stopped running = (decides_in (pos 0) (pos 0) p).1 (nothing p (stopped refl))
  where
    nothing : (x : ℤ) → x ≡ pos 0 → In (pos 0) (pos 0) x
    nothing x e = (omega (arith, ints), omega (arith, ints))
output_passes u p on stopped running = (decides_in (lowest u.curve) (highest u.curve) p).1 (running refl)

module _ (u : ThermalUnit) (o p : ℤ) where
  rise_passes : {b m : ℕ} → Mark b → Mark m → (b ≡ 1 → m ≡ 1 → (p -ℤ o) ≤ℤ u.ramp_up) → (b ≡ 0 → m ≡ 1 → (p -ℤ o) ≤ℤ u.start_limit) → (m ≡ 0 → (p -ℤ o) ≤ℤ pos 0) → rule_14 u b m o p ≡ true
  rise_passes on on running starting stopped = (decides_le (p -ℤ o) u.ramp_up).1 (running refl refl)
  rise_passes off on running starting stopped = (decides_le (p -ℤ o) u.start_limit).1 (starting refl refl)
  rise_passes on off running starting stopped = (decides_le (p -ℤ o) (pos 0)).1 (stopped refl)
  rise_passes off off running starting stopped = (decides_le (p -ℤ o) (pos 0)).1 (stopped refl)

  fall_passes : {b m : ℕ} → Mark b → Mark m → (b ≡ 1 → m ≡ 1 → (o -ℤ p) ≤ℤ u.ramp_down) → (b ≡ 1 → m ≡ 0 → (o -ℤ p) ≤ℤ u.stop_limit) → (b ≡ 0 → (o -ℤ p) ≤ℤ pos 0) → rule_15 u b m o p ≡ true
  fall_passes on on running stopping stopped = (decides_le (o -ℤ p) u.ramp_down).1 (running refl refl)
  fall_passes on off running stopping stopped = (decides_le (o -ℤ p) u.stop_limit).1 (stopping refl refl)
  fall_passes off on running stopping stopped = (decides_le (o -ℤ p) (pos 0)).1 (stopped refl)
  fall_passes off off running stopping stopped = (decides_le (o -ℤ p) (pos 0)).1 (stopped refl)

-- the marks before the periods are 0 or 1, where those of the periods are
mark_prior : (b : ℕ) (marks : List ℕ) (n t : ℕ) → Mark b → ((t : ℕ) → t < n → get_or marks t 0 ≤ 1) → t < n → Mark (before b marks t)
mark_prior b marks n zero first each h = first
mark_prior b marks n (suc t) first each h = mark_of (get_or marks t 0) (each t (omega arith))

-- ---- the verdict
module _ (u : ThermalUnit) (first : Mark u.mark) (s : Schedule) (n : ℕ) where
  told : (c : Grains) → verdict u s n ≡ Ok c → RulesKept u s n
  told c ok =
      let each : (t : ℕ) → t < n → LawfulIn u s n t = keeps_each u s n c ok in
      record {
        marks = λ t h. leb-true _ _ (each t h).mark;
        stopped = λ t h. stopped_told u (mark_in s t) (at s.outputs t) (each t h).output;
        running = λ t h. running_told u (mark_in s t) (at s.outputs t) (each t h).output;
        times = times_told u s.marks n (λ t h. (each t h).stop) (λ t h. (each t h).start);
        rises_running = λ t h. rise_running (each t h);
        rises_starting = λ t h. rise_starting (each t h);
        rises_stopped = λ t h. rise_stopped (each t h);
        falls_running = λ t h. fall_running (each t h);
        falls_stopping = λ t h. fall_stopping (each t h);
        falls_stopped = λ t h. fall_stopped (each t h);
      }

  module _ (r : RulesKept u s n) (t : ℕ) (h : t < n) where
    new : Mark (mark_in s t)
    new = mark_of (mark_in s t) (r.marks t h)

    old : Mark (mark_before u s t)
    old = mark_prior u.mark s.marks n t first r.marks h

    passes : rule u s t ≡ None
    passes = all_kept u _ _ _ _ _ (record {
      mark = le-leb _ _ (r.marks t h);
      output = output_passes u (at s.outputs t) new (r.stopped t h) (r.running t h);
      stop = stop_kept u s.marks n r.times t h old new;
      start = start_kept u s.marks n r.times t h old new;
      rise = rise_passes u (output_before u.output s.outputs t) (at s.outputs t) old new (r.rises_running t h) (r.rises_starting t h) (r.rises_stopped t h);
      fall = fall_passes u (output_before u.output s.outputs t) (at s.outputs t) old new (r.falls_running t h) (r.falls_stopping t h) (r.falls_stopped t h);
    })

  verdict_law : VerdictLaw u s n
  verdict_law = record {
    lawful = told;
    cost = cost_is u s n;
    kept = λ r. (grains (total n (cost_in u s)), sym (judged_so (rule u s) (cost_in u s) n (Ok (grains (total n (cost_in u s)))) (record { keeps = passes r; sum = refl })).is);
  }

-- ---- the floor
marks_long : {n : ℕ} {ms : List ℕ} → Marks n ms → length ms ≡ n
marks_long none = refl
marks_long (more m rest) = ap suc (marks_long rest)

mark_small : {m : ℕ} → Mark m → m ≤ 1
mark_small off = omega arith
mark_small on = omega arith

marks_each : {n : ℕ} {ms : List ℕ} → Marks n ms → (t : ℕ) → t < n → get_or ms t 0 ≤ 1
marks_each none t h = absurd (omega arith)
marks_each (more m rest) zero h = mark_small m
marks_each (more m rest) (suc t) h = marks_each rest t (omega arith)

module _ (u : ThermalUnit) (first : Mark u.mark) (q : RowPrices) (n : ℕ) where
  sequence_marks : (marks : List ℕ) → Sequence u n marks → Marks n marks
  sequence_marks marks s = marks_of n marks s.long s.each

  sequence_keeps : (marks : List ℕ) → Sequence u n marks → keeps u n u.mark u.lasted marks ≡ true
  sequence_keeps marks s =
      (all_pass n _).1 (λ t h.
      let old = mark_prior u.mark marks n t first s.each h in
      let new = mark_of (get_or marks t 0) (s.each t h) in
      and_from _ _ (stop_kept u marks n s.times t h old new) (start_kept u marks n s.times t h old new))

  to_sequence : (marks : List ℕ) → Marks n marks → keeps u n u.mark u.lasted marks ≡ true → Sequence u n marks
  to_sequence marks m k = record {
    long = marks_long m;
    each = marks_each m;
    times = times_told u marks n (λ t h. (and_parts _ _ ((all_pass n _).0 k t h)).0) (λ t h. (and_parts _ _ ((all_pass n _).0 k t h)).1);
  }

  lightest_law : Lightest u q n (lightest u q n)
  lightest_law = record {
    bound = λ marks s. lightest_le u q first n marks (sequence_marks marks s) (sequence_keeps marks s);
    reached = let r = lightest_reached u q first n in (r.0, to_sequence r.0 r.1 r.2, r.3);
  }

  floor_law : FloorLaw u q n
  unfolding floor
  floor_law = (lightest u q n, lightest_law, refl)

-- every row of a table whose rows are made
pub laws : (periods : ℕ) (us : List ThermalUnit) → ((r : ℕ) → r < length us → UnitMade (unit us r)) → Laws periods us
laws periods us made = record {
  verdicts = λ r h s. verdict_law (unit us r) (mark_is (unit us r) (made r h)) s periods;
  floors = λ r h q. floor_law (unit us r) (mark_is (unit us r) (made r h)) q periods;
}
