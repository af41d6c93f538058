-- The files of the table are answered as it says: each is read, judged and bounded by computing. Assumes nothing.
use Rattle.std.proofs.Common.{◌≡◌, ℕ, zero, suc, ◌<◌, ◌≤◌, true, List, [], ◌∷◌, length, ℤ, pos, neg_ℤ, Ok, Result, sym, refl, subst, arith, lit<, lit≤}
use Rattle.std.proofs.lemmas.Int.{ints}
use Rattle.measures.specs.Amounts.{grains}
use Rattle.measures.specs.declared.Grains.{Grains}
use Rattle.market.specs.declared.refusal.Refusal.{Refusal}
use Rattle.market.specs.Bounding as Bounding
use Rattle.market.specs.Clearing.{Placed, floor}
use Rattle.market.specs.Days.{Made}
use Rattle.market.specs.Fleet.{Facts}
use Rattle.market.specs.Judging as Judging
use Rattle.market.specs.Scans.{in_all, Within}
use Rattle.market.proofs.Computing.{computed, computed_answers}
use Rattle.market.proofs.FloorParts.{bounded}
use Rattle.market.proofs.Making.{made_so}
use Rattle.market.proofs.Scanning.{decides_all}
use Rattle.kinds.specs.Curves as curves
use Rattle.kinds.specs.Leasts as leasts
use Rattle.kinds.specs.Renewables.{table}
use Rattle.kinds.specs.Thermal as thermal
use Rattle.kinds.specs.ThermalTables as unit-table
use Rattle.kinds.proofs.Joining.{joined_shows}
use Rattle.kinds.proofs.RenewableRows.{renewables_show}
use Rattle.kinds.proofs.RenewableTables as renewable
use Rattle.kinds.proofs.ThermalTables as units-tables
use Rattle.kinds.proofs.Units as units
use Rattle.vendor.specs.declared.tables.Counts.{Counts}
use Rattle.vendor.specs.Files as files
use Rattle.vendor.specs.Files.{Contents, answer, tables_after}
use Rattle.vendor.specs.Numbers.{number}
use Rattle.vendor.specs.Pieces.{pieces}
use Rattle.vendor.specs.Rows.{row_fault}
use Rattle.specimen_day.specs.Specimen.{day, unit_0, unit_1, station, fleet, shape, plan, prices, empty, Tells, taken, StarsFollow}

-- ---- the day is a day, and the fleet a fleet that fits it
made : Made day
made = made_so day refl

pub facts : Facts fleet
facts = joined_shows _ _ (units.facts 2 (unit_0 ∷ unit_1 ∷ []) (units-tables.made_so (unit-table.table 2 (unit_0 ∷ unit_1 ∷ [])) refl)) (renewables_show (table 2 (station ∷ []) (pos 50 ∷ pos 20 ∷ [])) (renewable.made_so (table 2 (station ∷ []) (pos 50 ∷ pos 20 ∷ [])) refl))

nodes : (r : ℕ) → r < 3 → fleet.node r < 2
nodes zero h = lit< tt
nodes (suc zero) h = lit< tt
nodes (suc (suc zero)) h = lit< tt
nodes (suc (suc (suc r))) h = absurd (omega arith)

placed : Placed day fleet
placed = record { periods = refl; some = (lit≤ tt, lit≤ tt); nodes = nodes }

-- ---- a file that is taken
-- its tables: marks, outputs, system prices, prices of the upper limit and of rises; the others are 0
abbrev held : List ℕ → List ℤ → List ℤ → List ℤ → List ℤ → Contents
held marks outputs system upper rise = record { marks = marks; outputs = outputs; system = system; upper = upper; lower = pos 0 ∷ pos 0 ∷ []; rise = rise; fall = pos 0 ∷ pos 0 ∷ pos 0 ∷ pos 0 ∷ pos 0 ∷ pos 0 ∷ [] }

-- the tables have their lengths, and the prices are within their limits
record Right (c : Contents) : Type 0 where
  marks : length c.marks ≡ 6
  outputs : length c.outputs ≡ 6
  system_cells : length c.system ≡ 2
  upper_cells : length c.upper ≡ 2
  lower_cells : length c.lower ≡ 2
  rise_cells : length c.rise ≡ 6
  fall_cells : length c.fall ≡ 6
  system : in_all (neg_ℤ (pos 1000000)) (pos 1000000) c.system ≡ true
  upper : in_all (pos 0) (pos 1000000) c.upper ≡ true
  lower : in_all (pos 0) (pos 1000000) c.lower ≡ true
  rise : in_all (pos 0) (pos 1000000) c.rise ≡ true
  fall : in_all (pos 0) (pos 1000000) c.fall ≡ true

ready : (c : Contents) → Right c → Bounding.Ready day fleet (prices c)
ready c r = record {
  placed = placed;
  sized = record { system = r.system_cells; upper = r.upper_cells; lower = r.lower_cells; rise = r.rise_cells; fall = r.fall_cells };
  fit = record { system = (decides_all _ _ _).0 r.system; upper = (decides_all _ _ _).0 r.upper; lower = (decides_all _ _ _).0 r.lower; rise = (decides_all _ _ _).0 r.rise; fall = (decides_all _ _ _).0 r.fall };
}

-- how such a file is answered, where its plan is judged p and its floor is f
by : (file : List ℕ) (n : Counts) (c : Contents) (p : Result Grains Refusal) (f : ℤ) → length file ≤ 65536 → answer shape file empty ≡ Ok n → tables_after shape file empty ≡ c → Right c
    → computed day fleet (plan c) ≡ p → floor day fleet (prices c) ≡ f → Within 4000000000000000000 f → Tells file (Ok (record { plan = p; prices = Ok (grains f) }))
by file n c p f short reads holds right judged floored small =
    record {
      long = λ h. absurd (omega arith);
      short = λ h. taken n c (record { plan = p; prices = Ok (grains f) }) reads holds
          (subst (Judging.Answered day fleet (plan c)) judged (computed_answers day fleet (plan c) facts (record { placed = placed; sized = record { marks = right.marks; outputs = right.outputs } })))
          (bounded day fleet (prices c) facts made (ready c right) (grains f) (record { floor = sym floored; small = small }));
    }

-- what the prices of the first file come to, and how many rows it has
abbrev all_rows : Counts
all_rows = record { outputs = 6; system = 2; lines = 1; ramps = 1 }

abbrev dear : List ℤ
dear = pos 20000 ∷ pos 40000 ∷ []

abbrev limited : List ℤ
limited = pos 0 ∷ pos 20000 ∷ []

abbrev ramped : List ℤ
ramped = pos 0 ∷ pos 0 ∷ pos 0 ∷ pos 10000 ∷ pos 0 ∷ pos 0 ∷ []

abbrev run : List ℕ
run = 1 ∷ 1 ∷ 1 ∷ 1 ∷ 1 ∷ 1 ∷ []

abbrev outputs : ℕ → ℕ → ℕ → ℕ → ℕ → ℕ → List ℤ
outputs a b c d e f = pos a ∷ pos b ∷ pos c ∷ pos d ∷ pos e ∷ pos f ∷ []

right : {marks : List ℕ} {outs system upper rise : List ℤ} → length marks ≡ 6 → length outs ≡ 6 → length system ≡ 2 → length upper ≡ 2 → length rise ≡ 6
    → in_all (neg_ℤ (pos 1000000)) (pos 1000000) system ≡ true → in_all (pos 0) (pos 1000000) upper ≡ true → in_all (pos 0) (pos 1000000) rise ≡ true → Right (held marks outs system upper rise)
right a b c d e f g h = record { marks = a; outputs = b; system_cells = c; upper_cells = d; lower_cells = refl; rise_cells = e; fall_cells = refl; system = f; upper = g; lower = refl; rise = h; fall = refl }

abbrev small : Within 4000000000000000000 (pos 25200000000)
small = (omega (arith, ints), omega (arith, ints))

pub stars_follow : StarsFollow
unfolding files.lines files.whole_fault row_fault pieces number thermal.first_broken thermal.period_cost thermal.floor thermal.lightest thermal.weight_in thermal.running_weight thermal.value leasts.least_over curves.below curves.running_cost
stars_follow = (
  (by _ all_rows (held run (outputs 270 300 180 280 50 20) dear limited ramped) _ _ (lit≤ tt) refl refl (right refl refl refl refl refl refl refl refl) refl refl small, refl),
  (
    (by _ (record { outputs = 6; system = 2; lines = 0; ramps = 0 }) (held run (outputs 270 300 180 280 50 20) (pos 20000 ∷ pos 20000 ∷ []) (pos 0 ∷ pos 0 ∷ []) (outputs 0 0 0 0 0 0)) _ _ (lit≤ tt) refl refl (right refl refl refl refl refl refl refl refl) refl refl (omega (arith, ints), omega (arith, ints)), refl),
    (
      (by _ all_rows (held run (outputs 300 300 150 280 50 20) dear limited ramped) _ _ (lit≤ tt) refl refl (right refl refl refl refl refl refl refl refl) refl refl small, refl),
      (
        (by _ all_rows (held run (outputs 300 330 150 250 50 20) dear limited ramped) _ _ (lit≤ tt) refl refl (right refl refl refl refl refl refl refl refl) refl refl small, refl),
        (
          (by _ all_rows (held run (outputs 270 300 180 279 50 21) dear limited ramped) _ _ (lit≤ tt) refl refl (right refl refl refl refl refl refl refl refl) refl refl small, refl),
          (
            (by _ all_rows (held (1 ∷ 1 ∷ 0 ∷ 1 ∷ 1 ∷ 1 ∷ []) (outputs 270 300 0 280 50 20) dear limited ramped) _ _ (lit≤ tt) refl refl (right refl refl refl refl refl refl refl refl) refl refl small, refl),
            (
              (by _ all_rows (held (0 ∷ 1 ∷ 1 ∷ 1 ∷ 1 ∷ 1 ∷ []) (outputs 0 200 180 280 50 20) dear limited ramped) _ _ (lit≤ tt) refl refl (right refl refl refl refl refl refl refl refl) refl refl small, refl),
              (
                (by _ all_rows (held run (outputs 270 300 181 280 50 20) dear limited ramped) _ _ (lit≤ tt) refl refl (right refl refl refl refl refl refl refl refl) refl refl small, refl),
                tt,
              ),
            ),
          ),
        ),
      ),
    ),
  ),
)
