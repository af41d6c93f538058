-- What the verdict and the floor of a thermal unit mean, in the words of the rules. Assumes nothing.
use Rattle.std.specs.Prelude.{◌≡◌, ℕ, ◌+◌, ◌-◌, ◌<◌, ◌≤◌, List, length, ℤ, pos, ◌+ℤ◌, ◌-ℤ◌, ◌*ℤ◌, ◌≤ℤ◌, Ok, slice_index}
use Rattle.measures.specs.declared.Grains.{Grains}
use Rattle.market.specs.Fleet.{Schedule, RowPrices}
use Rattle.market.specs.Scans.{at, In}
use Rattle.market.specs.Totals.{total}
use Rattle.kinds.specs.declared.thermal_unit.ThermalUnit.{ThermalUnit}
use Rattle.kinds.specs.Curves.{lowest, highest}
use Rattle.kinds.specs.Thermal.{before, output_before, mark_in, mark_before, cost_in, verdict, weight, floor, unit}

-- k periods before period t the mark was m: one of the day's marks, or the one before the day, as far back as that had lasted
pub data Was (u : ThermalUnit) (marks : List ℕ) (m t k : ℕ) : Type 0 where
  in_day : k ≤ t → slice_index marks (t - k) ≡ m → Was u marks m t k
  before_day : t < k → k ≤ t + u.lasted → u.mark ≡ m → Was u marks m t k

-- where the unit stops, each of the last U periods ran, and where it starts, each of the last V was stopped
pub record TimesKept (u : ThermalUnit) (marks : List ℕ) (n : ℕ) : Type 0 where
  pub stops : (t : ℕ) → t < n → before u.mark marks t ≡ 1 → slice_index marks t ≡ 0 → (k : ℕ) → 1 ≤ k → k ≤ u.least_running → Was u marks 1 t k
  pub starts : (t : ℕ) → t < n → before u.mark marks t ≡ 0 → slice_index marks t ≡ 1 → (k : ℕ) → 1 ≤ k → k ≤ u.least_stopped → Was u marks 0 t k

-- ---- the verdict
-- by how much the output rises into period t, and by how much it falls
abbrev pub rise_in : ThermalUnit → Schedule → ℕ → ℤ
rise_in u s t = at s.outputs t -ℤ output_before u.output s.outputs t

abbrev pub fall_in : ThermalUnit → Schedule → ℕ → ℤ
fall_in u s t = output_before u.output s.outputs t -ℤ at s.outputs t

-- in each of n periods the schedule keeps the rules
pub record RulesKept (u : ThermalUnit) (s : Schedule) (n : ℕ) : Type 0 where
  pub marks : (t : ℕ) → t < n → mark_in s t ≤ 1
  pub stopped : (t : ℕ) → t < n → mark_in s t ≡ 0 → at s.outputs t ≡ pos 0
  pub running : (t : ℕ) → t < n → mark_in s t ≡ 1 → In (lowest u.curve) (highest u.curve) (at s.outputs t)
  pub times : TimesKept u s.marks n
  pub rises_running : (t : ℕ) → t < n → mark_before u s t ≡ 1 → mark_in s t ≡ 1 → rise_in u s t ≤ℤ u.ramp_up
  pub rises_starting : (t : ℕ) → t < n → mark_before u s t ≡ 0 → mark_in s t ≡ 1 → rise_in u s t ≤ℤ u.start_limit
  pub rises_stopped : (t : ℕ) → t < n → mark_in s t ≡ 0 → rise_in u s t ≤ℤ pos 0
  pub falls_running : (t : ℕ) → t < n → mark_before u s t ≡ 1 → mark_in s t ≡ 1 → fall_in u s t ≤ℤ u.ramp_down
  pub falls_stopping : (t : ℕ) → t < n → mark_before u s t ≡ 1 → mark_in s t ≡ 0 → fall_in u s t ≤ℤ u.stop_limit
  pub falls_stopped : (t : ℕ) → t < n → mark_before u s t ≡ 0 → fall_in u s t ≤ℤ pos 0

-- a schedule is lawful exactly where it keeps the rules, and costs what its periods cost
pub record VerdictLaw (u : ThermalUnit) (s : Schedule) (n : ℕ) : Type 0 where
  pub lawful : (c : Grains) → verdict u s n ≡ Ok c → RulesKept u s n
  pub cost : (c : Grains) → verdict u s n ≡ Ok c → c.0 ≡ total n (cost_in u s)
  pub kept : RulesKept u s n → (c : Grains) × (verdict u s n ≡ Ok c)

-- ---- the floor
-- n marks that keep the least running and stopped times
pub record Sequence (u : ThermalUnit) (n : ℕ) (marks : List ℕ) : Type 0 where
  pub long : length marks ≡ n
  pub each : (t : ℕ) → t < n → slice_index marks t ≤ 1
  pub times : TimesKept u marks n

-- z is the least weight of these sequences: at most that of each, and that of one
pub record Lightest (u : ThermalUnit) (q : RowPrices) (n : ℕ) (z : ℤ) : Type 0 where
  pub bound : (marks : List ℕ) → Sequence u n marks → z ≤ℤ weight u q n marks
  pub reached : (marks : List ℕ) × Sequence u n marks × (z ≡ weight u q n marks)

-- the floor is that least, with the rise and fall prices of the output before the day
abbrev pub FloorLaw : ThermalUnit → RowPrices → ℕ → Type 0
FloorLaw u q n = (z : ℤ) × Lightest u q n z × (floor u q n ≡ z +ℤ pos 1000 *ℤ (at q.fall 0 -ℤ at q.rise 0) *ℤ u.output)

-- every row of a table is judged and bounded by these laws
pub record Laws (periods : ℕ) (us : List ThermalUnit) : Type 0 where
  pub verdicts : (r : ℕ) → r < length us → (s : Schedule) → VerdictLaw (unit us r) s periods
  pub floors : (r : ℕ) → r < length us → (q : RowPrices) → FloorLaw (unit us r) q periods
