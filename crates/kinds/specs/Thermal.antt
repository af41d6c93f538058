-- Thermal units: their rules, their cost and their floor. Assumes nothing.
use Rattle.std.specs.Prelude.{◌≡◌, ℕ, zero, suc, ◌<◌, ◌≤◌, Bool, cond, not, ◌&&◌, ◌||◌, List, [], ◌∷◌, ◌++◌, map, length, replicate, ℤ, pos, ◌+ℤ◌, ◌-ℤ◌, ◌*ℤ◌, Some, None, filter, Option, Result, ◌==◌, int_le, nat_le, slice_index, slice_index_or}
use Rattle.std.specs.Int.{int_min}
use Rattle.measures.specs.Amounts.{grains}
use Rattle.measures.specs.declared.Grains.{Grains}
use Rattle.market.specs.Fleet.{Meaning, Schedule, RowPrices}
use Rattle.market.specs.Scans.{at, In, UpTo, in_test, all_below}
use Rattle.market.specs.Totals.{total}
use Rattle.market.specs.declared.broken.Broken.{Broken}
use Rattle.kinds.specs.declared.thermal_unit.ThermalUnit.{ThermalUnit}
use Rattle.kinds.specs.Curves.{lowest, highest, running_cost, net_cost, Made}
use Rattle.kinds.specs.Leasts.{least_over}
use Rattle.kinds.specs.Verdicts.{verdict_over}

-- ---- a record's numbers
-- every number but the curve's lies in its range; a unit that is stopped before the day has the output 0, and one that runs an output on its curve
pub record NumbersFit (u : ThermalUnit) : Type 0 where
  pub no_load : u.no_load ≤ 100000
  pub start_cost : u.start_cost ≤ 2000000
  pub least_running : (1 ≤ u.least_running) × (u.least_running ≤ 96)
  pub least_stopped : (1 ≤ u.least_stopped) × (u.least_stopped ≤ 96)
  pub ramp_up : UpTo 20000 u.ramp_up
  pub ramp_down : UpTo 20000 u.ramp_down
  pub start_limit : In (lowest u.curve) (highest u.curve) u.start_limit
  pub stop_limit : In (lowest u.curve) (highest u.curve) u.stop_limit
  pub mark : u.mark ≤ 1
  pub lasted : (1 ≤ u.lasted) × (u.lasted ≤ 10000)
  pub stopped : u.mark ≡ 0 → u.output ≡ pos 0
  pub running : u.mark ≡ 1 → In (lowest u.curve) (highest u.curve) u.output

-- the numbers are those of a unit
pub record UnitMade (u : ThermalUnit) : Type 0 where
  pub curve : Made u.curve
  pub numbers : NumbersFit u

-- whole yuan in grains
abbrev pub yuan : ℕ → ℤ
yuan n = pos 4000000 *ℤ pos n

-- ---- from the mark b of one period to the mark m of the next
abbrev pub running : ℕ → Bool
running m = m == 1

abbrev pub starts : ℕ → ℕ → Bool
starts b m = not (running b) && running m

abbrev pub stops : ℕ → ℕ → Bool
stops b m = running b && not (running m)

-- RU if it runs in both, SU if it starts, else 0
abbrev pub rise_allowance : ThermalUnit → ℕ → ℕ → ℤ
rise_allowance u b m = cond (running m) (cond (running b) u.ramp_up u.start_limit) (pos 0)

-- RD if it runs in both, SD if it stops, else 0
abbrev pub fall_allowance : ThermalUnit → ℕ → ℕ → ℤ
fall_allowance u b m = cond (running b) (cond (running m) u.ramp_down u.stop_limit) (pos 0)

-- ---- the rules, in a period of mark m and output p after a mark b that has lasted h periods and an output o
-- the mark is 0 or 1
abbrev pub rule_10 : ℕ → Bool
rule_10 m = nat_le m 1

-- the output is 0 when stopped, and on the curve when running
abbrev pub rule_11 : ThermalUnit → ℕ → ℤ → Bool
rule_11 u m p = cond (running m) (in_test (lowest u.curve) (highest u.curve) p) (in_test (pos 0) (pos 0) p)

-- it stops only after at least U unbroken running periods
abbrev pub rule_12 : ThermalUnit → ℕ → ℕ → ℕ → Bool
rule_12 u b h m = not (stops b m) || nat_le u.least_running h

-- it starts only after at least V unbroken stopped periods
abbrev pub rule_13 : ThermalUnit → ℕ → ℕ → ℕ → Bool
rule_13 u b h m = not (starts b m) || nat_le u.least_stopped h

-- the output rises by at most the rise allowance
abbrev pub rule_14 : ThermalUnit → ℕ → ℕ → ℤ → ℤ → Bool
rule_14 u b m o p = int_le (p -ℤ o) (rise_allowance u b m)

-- the output falls by at most the fall allowance
abbrev pub rule_15 : ThermalUnit → ℕ → ℕ → ℤ → ℤ → Bool
rule_15 u b m o p = int_le (o -ℤ p) (fall_allowance u b m)

-- a rule's number where its test fails, or else what is asked next
abbrev pub asked : ℕ → Bool → Option ℕ → Option ℕ
asked number kept next = cond kept next (Some number)

-- the number of the first rule that is broken
unfoldable pub first_broken : ThermalUnit → ℕ → ℕ → ℤ → ℕ → ℤ → Option ℕ
first_broken u b h o m p =
    asked 10 (rule_10 m) (asked 11 (rule_11 u m p) (asked 12 (rule_12 u b h m) (asked 13 (rule_13 u b h m) (asked 14 (rule_14 u b m o p) (asked 15 (rule_15 u b m o p) None)))))

-- the running cost and the no_load cost of a running period, and the start cost of a start
unfoldable pub period_cost : ThermalUnit → ℕ → ℕ → ℤ → ℤ
period_cost u b m p = cond (running m) (running_cost u.curve p +ℤ yuan u.no_load) (pos 0) +ℤ cond (starts b m) (yuan u.start_cost) (pos 0)

-- ---- the verdict on a schedule; periods count from 0 here
-- the mark before period t, where b is the one before the day
abbrev pub before : ℕ → List ℕ → ℕ → ℕ
before b marks zero = b
before b marks (suc t) = slice_index marks t

-- how many unbroken periods the mark before period t has lasted, where the one before the day had lasted h
abbrev pub lasting : ℕ → ℕ → List ℕ → ℕ → ℕ
lasting b h marks zero = h
lasting b h marks (suc t) = cond (before b marks (suc t) == before b marks t) (suc (lasting b h marks t)) 1

-- the output before period t, where o is the one before the day
abbrev pub output_before : ℤ → List ℤ → ℕ → ℤ
output_before o outputs zero = o
output_before o outputs (suc t) = at outputs t

abbrev pub mark_in : Schedule → ℕ → ℕ
mark_in s t = slice_index s.marks t

abbrev pub mark_before : ThermalUnit → Schedule → ℕ → ℕ
mark_before u s t = before u.mark s.marks t

abbrev pub lasted_before : ThermalUnit → Schedule → ℕ → ℕ
lasted_before u s t = lasting u.mark u.lasted s.marks t

-- the first rule that period t breaks, if any
abbrev pub rule : ThermalUnit → Schedule → ℕ → Option ℕ
rule u s t = first_broken u (mark_before u s t) (lasted_before u s t) (output_before u.output s.outputs t) (mark_in s t) (at s.outputs t)

-- what period t costs
abbrev pub cost_in : ThermalUnit → Schedule → ℕ → ℤ
cost_in u s t = period_cost u (mark_before u s t) (mark_in s t) (at s.outputs t)

-- the verdict on the first n periods
abbrev pub verdict : ThermalUnit → Schedule → ℕ → Result Grains Broken
verdict u s n = verdict_over (rule u s) (cost_in u s) n

-- ---- the floor
-- every sequence of n marks
abbrev pub sequences : ℕ → List (List ℕ)
sequences zero = [] ∷ []
sequences (suc n) = map (λ ms. 0 ∷ ms) (sequences n) ++ map (λ ms. 1 ∷ ms) (sequences n)

-- the least of a and the numbers in a list
abbrev pub least : ℤ → List ℤ → ℤ
least a [] = a
least a (x ∷ xs) = int_min x (least a xs)

-- n marks, after a mark b that has lasted h periods, keep rules 12 and 13
abbrev pub keeps : ThermalUnit → ℕ → ℕ → ℕ → List ℕ → Bool
keeps u n b h marks = all_below (λ t. rule_12 u (before b marks t) (lasting b h marks t) (slice_index marks t) && rule_13 u (before b marks t) (lasting b h marks t) (slice_index marks t)) n

-- what a tenth of a megawatt is worth in period t: its net price, with the prices of the rise and fall into the period and out of it
unfoldable pub value : RowPrices → ℕ → ℤ
value q t = at q.net t -ℤ pos 1000 *ℤ (at q.rise t -ℤ at q.rise (suc t) -ℤ at q.fall t +ℤ at q.fall (suc t))

module _ (u : ThermalUnit) (q : RowPrices) where
  -- the least of running cost less worth over the curve, with the no_load cost
  unfoldable pub running_weight : ℕ → ℤ
  running_weight t = least_over (lowest u.curve) (highest u.curve) (net_cost u.curve (value q t)) +ℤ yuan u.no_load

  -- what period t weighs at the mark m after the mark b
  unfoldable pub weight_in : ℕ → ℕ → ℕ → ℤ
  weight_in t b m =
      cond (running m) (running_weight t) (pos 0) +ℤ cond (starts b m) (yuan u.start_cost) (pos 0)
      -ℤ pos 1000 *ℤ (at q.rise t *ℤ rise_allowance u b m +ℤ at q.fall t *ℤ fall_allowance u b m)

  -- what n marks weigh
  abbrev pub weight : ℕ → List ℕ → ℤ
  weight n marks = total n (λ t. weight_in t (before u.mark marks t) (slice_index marks t))

  -- the least weight of the sequences of n marks that keep rules 12 and 13, as the one does that never changes
  unfoldable pub lightest : ℕ → ℤ
  lightest n = least (weight n (replicate n u.mark)) (map (weight n) (filter (keeps u n u.mark u.lasted) (sequences n)))

  -- with the rise and fall prices of the output before the day
  unfoldable pub floor : ℕ → ℤ
  floor n = lightest n +ℤ pos 1000 *ℤ (at q.fall 0 -ℤ at q.rise 0) *ℤ u.output

-- ---- a table of units
-- what stands past a table's end
abbrev pub no_unit : ThermalUnit
no_unit = record {
  node = 0;
  curve = record { segments = 0; ends = []; prices = [] };
  no_load = 0;
  start_cost = 0;
  least_running = 0;
  least_stopped = 0;
  ramp_up = pos 0;
  ramp_down = pos 0;
  start_limit = pos 0;
  stop_limit = pos 0;
  mark = 0;
  lasted = 0;
  output = pos 0;
}

abbrev pub unit : List ThermalUnit → ℕ → ThermalUnit
unit us r = slice_index_or us r no_unit

-- every row of a table of at most 32 is made, for a day of 1 to 96 periods
pub record TableMade (periods : ℕ) (us : List ThermalUnit) : Type 0 where
  pub day : (1 ≤ periods) × (periods ≤ 96)
  pub few : length us ≤ 32
  pub rows : (r : ℕ) → r < length us → UnitMade (unit us r)

-- what a table of units means to the market
abbrev pub units : ℕ → List ThermalUnit → Meaning
units periods us = record {
  periods = periods;
  size = length us;
  node = λ r. (unit us r).node;
  verdict = λ r s. verdict (unit us r) s periods;
  floor = λ r q. grains (floor (unit us r) q periods);
}
