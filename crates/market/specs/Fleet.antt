-- What a fleet means to the market, and the facts that it has to show. Assumes nothing.
use Rattle.std.specs.Prelude.{◌≡◌, ℕ, ◌+◌, ◌<◌, ◌≤◌, Bool, cond, ◌&&◌, ◌⊎◌, List, length, ℤ, pos, ◌-ℤ◌, ◌*ℤ◌, neg_ℤ, ◌≤ℤ◌, Some, None, Ok, Err, Option, Result, ◌==◌, nat_lt}
use Rattle.measures.specs.declared.Grains.{Grains}
use Rattle.market.specs.declared.broken.Broken.{Broken}
use Rattle.market.specs.declared.row_prices.RowPrices.{RowPrices as HandedPrices}
use Rattle.market.specs.declared.schedule.Schedule.{Schedule as HandedSchedule}
use Rattle.market.specs.Scans.{at, Within, UpTo, first_out}
use Rattle.market.specs.Totals.{total}

-- one row's marks and outputs, a cell for each period
pub record Schedule : Type 0 where
  pub marks : List ℕ
  pub outputs : List ℤ

-- what a row is priced at: net prices, and the prices of its rises and falls, a cell for each period
pub record RowPrices : Type 0 where
  pub net : List ℤ
  pub rise : List ℤ
  pub fall : List ℤ

abbrev pub schedule_of : HandedSchedule → Schedule
schedule_of s = record { marks = s.marks.now; outputs = s.outputs.now }

abbrev pub row_prices_of : HandedPrices → RowPrices
row_prices_of q = record { net = q.net.now; rise = q.rise.now; fall = q.fall.now }

-- a verdict is the cost of a lawful schedule, or the first rule that it breaks with its period
pub record Meaning : Type 0 where
  pub periods : ℕ
  pub size : ℕ
  pub node : ℕ → ℕ
  pub verdict : ℕ → Schedule → Result Grains Broken
  pub floor : ℕ → RowPrices → Grains

-- the five ghost members of a fleet as one
abbrev pub meaning_of : ℕ → ℕ → (ℕ → ℕ) → (ℕ → Schedule → Result Grains Broken) → (ℕ → RowPrices → Grains) → Meaning
meaning_of periods size node verdict floor = record { periods = periods; size = size; node = node; verdict = verdict; floor = floor }

-- a schedule has a cell for each period
pub record Fits (m : Meaning) (s : Schedule) : Type 0 where
  pub marks : length s.marks ≡ m.periods
  pub outputs : length s.outputs ≡ m.periods

-- every price list has a cell for each period, and every price is within its limits
pub record Priced (m : Meaning) (q : RowPrices) : Type 0 where
  pub nets : length q.net ≡ m.periods
  pub rises : length q.rise ≡ m.periods
  pub falls : length q.fall ≡ m.periods
  pub net_limit : (t : ℕ) → t < m.periods → Within 17000000000 (at q.net t)
  pub rise_limit : (t : ℕ) → t < m.periods → UpTo 1000000 (at q.rise t)
  pub fall_limit : (t : ℕ) → t < m.periods → UpTo 1000000 (at q.fall t)

-- the numbers of the market's own questions, which no row rule has
abbrev pub Reserved : ℕ → Type 0
Reserved n = ((1 ≤ n) × (n ≤ 9)) ⊎ ((16 ≤ n) × (n ≤ 26))

-- what a fleet has to show of its meaning; that its calls answer by the meaning, and alter nothing, is in their contracts
pub record Facts (m : Meaning) : Type 0 where
  pub day : (1 ≤ m.periods) × (m.periods ≤ 96)
  pub few : m.size ≤ 32
  pub outputs : (r : ℕ) (s : Schedule) (c : Grains) → r < m.size → Fits m s → m.verdict r s ≡ Ok c → (t : ℕ) → t < m.periods → Within 20000 (at s.outputs t)
  pub costs : (r : ℕ) (s : Schedule) (c : Grains) → r < m.size → Fits m s → m.verdict r s ≡ Ok c → Within 10000000000000000 c.0
  pub floors : (r : ℕ) (q : RowPrices) → r < m.size → Priced m q → Within 50000000000000000 (m.floor r q).0
  pub rules : (r : ℕ) (s : Schedule) (e : Broken) → r < m.size → Fits m s → m.verdict r s ≡ Err e → Reserved e.rule → ⊥
  pub sound : (r : ℕ) (s : Schedule) (q : RowPrices) (c : Grains) → r < m.size → Fits m s → Priced m q → m.verdict r s ≡ Ok c
      → (m.floor r q).0 ≤ℤ (c.0 -ℤ total m.periods (λ t. at q.net t *ℤ at s.outputs t))

-- two fleets that no question tells apart
pub record Same (m n : Meaning) : Type 0 where
  pub periods : m.periods ≡ n.periods
  pub size : m.size ≡ n.size
  pub node : (r : ℕ) → r < m.size → m.node r ≡ n.node r
  pub verdict : (r : ℕ) (s : Schedule) → r < m.size → Fits m s → m.verdict r s ≡ n.verdict r s
  pub floor : (r : ℕ) (q : RowPrices) → r < m.size → Priced m q → m.floor r q ≡ n.floor r q

abbrev pub broken : ℕ → ℕ → Broken
broken rule period = record { rule = rule; period = period }

-- whether a row of a fleet of n rows has the schedule, or the prices, of t periods
abbrev pub schedule_listed : ℕ → ℕ → ℕ → Schedule → Bool
schedule_listed r n t s = nat_lt r n && (length s.marks == t && length s.outputs == t)

abbrev pub prices_listed : ℕ → ℕ → ℕ → RowPrices → Bool
prices_listed r n t q = nat_lt r n && (length q.net == t && (length q.rise == t && length q.fall == t))

-- how a fleet answers, for every row: 8 with no period where the row is not below the size
abbrev pub node_answer : Meaning → ℕ → Result ℕ Broken
node_answer m r = cond (nat_lt r m.size) (Ok (m.node r)) (Err (broken 8 0))

-- for every row and schedule: 8 where the row is not below the size or a list has not T cells
abbrev pub verdict_answer : Meaning → ℕ → Schedule → Result Grains Broken
verdict_answer m r s =
    cond (schedule_listed r m.size m.periods s) (m.verdict r s) (Err (broken 8 0))

-- 19 with the period of a price outside its limits, or else what is asked next
abbrev pub fault_at : Option ℕ → Option Broken → Option Broken
fault_at None next = next
fault_at (Some t) next = Some (broken 19 (t + 1))

-- the first price outside its limits, if any: net prices, then prices of rises, then of falls
abbrev pub row_fault : RowPrices → Option Broken
row_fault q =
    fault_at (first_out (neg_ℤ (pos 17000000000)) (pos 17000000000) q.net) (fault_at (first_out (pos 0) (pos 1000000) q.rise) (fault_at (first_out (pos 0) (pos 1000000) q.fall) None))

-- yes, or 8 with no period
abbrev pub asked : Bool → Result (Unit {0}) Broken
asked b = cond b (Ok tt) (Err (broken 8 0))

-- what comes next, unless there is a fault
abbrev pub unless : {A : Type 0} → Option Broken → A → Result A Broken
unless None next = Ok next
unless (Some e) next = Err e

-- how a fleet answers, for every row and price list: 8 as for a schedule, then 19 with the period of the first price outside its limits
abbrev pub priced_answer : RowPrices → Grains → Result Grains Broken
priced_answer q floor = unless (row_fault q) floor

abbrev pub floor_answer : Meaning → ℕ → RowPrices → Result Grains Broken
floor_answer m r q =
    cond (prices_listed r m.size m.periods q) (priced_answer q (m.floor r q)) (Err (broken 8 0))

-- what a fleet asks of a row's prices
abbrev pub prices_asked : ℕ → ℕ → ℕ → RowPrices → Result (Unit {0}) Broken
prices_asked r n t q = cond (prices_listed r n t q) (unless (row_fault q) tt) (Err (broken 8 0))
