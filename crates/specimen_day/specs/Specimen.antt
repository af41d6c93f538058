-- The specimen's day and fleet, and how a vendor's file is answered for them. Assumes nothing.
use Rattle.std.specs.Prelude.{◌≡◌, ℕ, ◌<◌, ◌≤◌, List, [], ◌∷◌, length, pos, neg_ℤ, Ok, Err, codes, Result}
use Rattle.std.specs.List.{AllByRecursion}
use Rattle.measures.specs.Amounts.{grains}
use Rattle.measures.specs.declared.Grains.{Grains}
use Rattle.market.specs.declared.refusal.Refusal.{Refusal}
use Rattle.market.specs.declared.refusal.Refusal.TheVariants.{Row, Balance, Upper}
use Rattle.market.specs.Bounding as Bounding
use Rattle.market.specs.Clearing.{Plan, PriceSet}
use Rattle.market.specs.Days.{Numbers}
use Rattle.market.specs.Faults.{number_of, place_of, period_of}
use Rattle.market.specs.Fleet.{Meaning}
use Rattle.market.specs.Judging as Judging
use Rattle.kinds.specs.declared.station.Station.{Station}
use Rattle.kinds.specs.declared.thermal_unit.ThermalUnit.{ThermalUnit}
use Rattle.kinds.specs.Joined.{joined}
use Rattle.kinds.specs.Renewables.{table, renewables}
use Rattle.kinds.specs.Thermal.{units}
use Rattle.vendor.specs.declared.faults.FileFault.{FileFault}
use Rattle.vendor.specs.declared.faults.FileFault.TheVariants.{Whole}
use Rattle.vendor.specs.declared.rows.Shape.{Shape}
use Rattle.vendor.specs.declared.tables.Counts.{Counts}
use Rattle.vendor.specs.Files.{Contents, answer, tables_after}
use Rattle.specimen_day.specs.declared.answers.Answers.{Answers}

-- two periods, two nodes and one line, which all of what node 0 feeds in goes over; node 1 draws 500 and 600
abbrev pub day : Numbers
day = record {
  periods = 2;
  nodes = 2;
  lines = 1;
  loads = pos 0 ∷ pos 0 ∷ pos 500 ∷ pos 600 ∷ [];
  factors = pos 1000 ∷ pos 0 ∷ [];
  lower = neg_ℤ (pos 300) ∷ [];
  upper = pos 300 ∷ [];
}

-- row 0, at node 0: 100 to 400 at 20,000
abbrev pub unit_0 : ThermalUnit
unit_0 = record {
  node = 0;
  curve = record {
    segments = 1;
    ends = pos 100 ∷ pos 400 ∷ pos 0 ∷ pos 0 ∷ pos 0 ∷ pos 0 ∷ pos 0 ∷ pos 0 ∷ pos 0 ∷ pos 0 ∷ pos 0 ∷ [];
    prices = pos 20000 ∷ pos 0 ∷ pos 0 ∷ pos 0 ∷ pos 0 ∷ pos 0 ∷ pos 0 ∷ pos 0 ∷ pos 0 ∷ pos 0 ∷ [];
  };
  no_load = 0;
  start_cost = 100;
  least_running = 2;
  least_stopped = 2;
  ramp_up = pos 100;
  ramp_down = pos 100;
  start_limit = pos 200;
  stop_limit = pos 300;
  mark = 1;
  lasted = 4;
  output = pos 300;
}

-- row 1, at node 1: 100 to 300 at 30,000, to 500 at 35,000
abbrev pub unit_1 : ThermalUnit
unit_1 = record {
  node = 1;
  curve = record {
    segments = 2;
    ends = pos 100 ∷ pos 300 ∷ pos 500 ∷ pos 0 ∷ pos 0 ∷ pos 0 ∷ pos 0 ∷ pos 0 ∷ pos 0 ∷ pos 0 ∷ pos 0 ∷ [];
    prices = pos 30000 ∷ pos 35000 ∷ pos 0 ∷ pos 0 ∷ pos 0 ∷ pos 0 ∷ pos 0 ∷ pos 0 ∷ pos 0 ∷ pos 0 ∷ [];
  };
  no_load = 0;
  start_cost = 100;
  least_running = 2;
  least_stopped = 2;
  ramp_up = pos 100;
  ramp_down = pos 100;
  start_limit = pos 100;
  stop_limit = pos 100;
  mark = 1;
  lasted = 10;
  output = pos 200;
}

-- row 2, at node 1: 0 to 200 at 0, of which 50 and 20 are available
abbrev pub station : Station
station = record {
  node = 1;
  curve = record {
    segments = 1;
    ends = pos 0 ∷ pos 200 ∷ pos 0 ∷ pos 0 ∷ pos 0 ∷ pos 0 ∷ pos 0 ∷ pos 0 ∷ pos 0 ∷ pos 0 ∷ pos 0 ∷ [];
    prices = pos 0 ∷ pos 0 ∷ pos 0 ∷ pos 0 ∷ pos 0 ∷ pos 0 ∷ pos 0 ∷ pos 0 ∷ pos 0 ∷ pos 0 ∷ [];
  };
}

abbrev pub fleet : Meaning
fleet = joined (units 2 (unit_0 ∷ unit_1 ∷ [])) (renewables (table 2 (station ∷ []) (pos 50 ∷ pos 20 ∷ [])))

-- what the reader of files is told of the day
abbrev pub shape : Shape
shape = record { periods = 2; lines = 1; size = 3 }

-- the plan and the price set that a file's tables hold
abbrev pub plan : Contents → Plan
plan c = record { marks = c.marks; outputs = c.outputs }

abbrev pub prices : Contents → PriceSet
prices c = record { system = c.system; upper = c.upper; lower = c.lower; rise = c.rise; fall = c.fall }

-- tables of the day's lengths that hold nothing
abbrev pub empty : Contents
empty = record {
  marks = 0 ∷ 0 ∷ 0 ∷ 0 ∷ 0 ∷ 0 ∷ [];
  outputs = pos 0 ∷ pos 0 ∷ pos 0 ∷ pos 0 ∷ pos 0 ∷ pos 0 ∷ [];
  system = pos 0 ∷ pos 0 ∷ [];
  upper = pos 0 ∷ pos 0 ∷ [];
  lower = pos 0 ∷ pos 0 ∷ [];
  rise = pos 0 ∷ pos 0 ∷ pos 0 ∷ pos 0 ∷ pos 0 ∷ pos 0 ∷ [];
  fall = pos 0 ∷ pos 0 ∷ pos 0 ∷ pos 0 ∷ pos 0 ∷ pos 0 ∷ [];
}

-- a file of at most 65,536 bytes has a fault, or its plan is judged and its prices are bounded
pub data Answered (file : List ℕ) : Result Answers FileFault → Type 0 where
  faulty : (f : FileFault) → answer shape file empty ≡ Err f → Answered file (Err f)
  taken : (n : Counts) (c : Contents) (a : Answers) → answer shape file empty ≡ Ok n → tables_after shape file empty ≡ c
      → Judging.Answered day fleet (plan c) a.plan → Bounding.Answered day fleet (prices c) a.prices → Answered file (Ok a)

-- how a file is answered: a longer one is refused whole
pub record Tells (file : List ℕ) (r : Result Answers FileFault) : Type 0 where
  pub long : 65536 < length file → r ≡ Err Whole
  pub short : length file ≤ 65536 → Answered file r

-- ---- files whose answers follow from these definitions
-- a file, what its plan and its prices are answered with, and the number, place and period that a refused plan is told with
pub record Starred : Type 0 where
  pub file : List ℕ
  pub plan : Result Grains Refusal
  pub told : ℕ × ℕ × ℕ
  pub prices : Result Grains Refusal

-- the amount of a plan or a price set that is taken, and what one is refused with
abbrev pub cost : ℕ → Result Grains Refusal
cost n = Ok (grains (pos n))

abbrev pub breaks : ℕ → ℕ → ℕ → Result Grains Refusal
breaks rule row period = Err (Row row (record { rule = rule; period = period }))

-- none where the plan is taken
abbrev pub numbers : Result Grains Refusal → ℕ × ℕ × ℕ
numbers (Ok c) = (0, 0, 0)
numbers (Err e) = (number_of e, place_of e, period_of e)

abbrev pub starred : List Starred
starred =
    record { file = codes "R;0;1;1;270\nR;0;2;1;300\nR;1;1;1;180\nR;1;2;1;280\nR;2;1;1;50\nR;2;2;1;20\nS;1;20000\nS;2;40000\nL;0;2;20000;0\nG;1;2;10000;0\n"; plan = cost 25200000000; told = (0, 0, 0); prices = cost 25200000000 }
    ∷ record { file = codes "R;0;1;1;270\nR;0;2;1;300\nR;1;1;1;180\nR;1;2;1;280\nR;2;1;1;50\nR;2;2;1;20\nS;1;20000\nS;2;20000\n"; plan = cost 25200000000; told = (0, 0, 0); prices = cost 20600000000 }
    ∷ record { file = codes "R;0;1;1;300\nR;0;2;1;300\nR;1;1;1;150\nR;1;2;1;280\nR;2;1;1;50\nR;2;2;1;20\nS;1;20000\nS;2;40000\nL;0;2;20000;0\nG;1;2;10000;0\n"; plan = breaks 14 1 2; told = (14, 1, 2); prices = cost 25200000000 }
    ∷ record { file = codes "R;0;1;1;300\nR;0;2;1;330\nR;1;1;1;150\nR;1;2;1;250\nR;2;1;1;50\nR;2;2;1;20\nS;1;20000\nS;2;40000\nL;0;2;20000;0\nG;1;2;10000;0\n"; plan = Err (Upper 0 2); told = (17, 0, 2); prices = cost 25200000000 }
    ∷ record { file = codes "R;0;1;1;270\nR;0;2;1;300\nR;1;1;1;180\nR;1;2;1;279\nR;2;1;1;50\nR;2;2;1;21\nS;1;20000\nS;2;40000\nL;0;2;20000;0\nG;1;2;10000;0\n"; plan = breaks 11 2 2; told = (11, 2, 2); prices = cost 25200000000 }
    ∷ record { file = codes "R;0;1;1;270\nR;0;2;1;300\nR;1;1;0;0\nR;1;2;1;280\nR;2;1;1;50\nR;2;2;1;20\nS;1;20000\nS;2;40000\nL;0;2;20000;0\nG;1;2;10000;0\n"; plan = breaks 15 1 1; told = (15, 1, 1); prices = cost 25200000000 }
    ∷ record { file = codes "R;0;1;0;0\nR;0;2;1;200\nR;1;1;1;180\nR;1;2;1;280\nR;2;1;1;50\nR;2;2;1;20\nS;1;20000\nS;2;40000\nL;0;2;20000;0\nG;1;2;10000;0\n"; plan = breaks 13 0 2; told = (13, 0, 2); prices = cost 25200000000 }
    ∷ record { file = codes "R;0;1;1;270\nR;0;2;1;300\nR;1;1;1;181\nR;1;2;1;280\nR;2;1;1;50\nR;2;2;1;20\nS;1;20000\nS;2;40000\nL;0;2;20000;0\nG;1;2;10000;0\n"; plan = Err (Balance 1); told = (16, 0, 1); prices = cost 25200000000 }
    ∷ []

-- each of them is answered and told so
abbrev pub StarsFollow : Type 0
StarsFollow = AllByRecursion (λ s. Tells s.file (Ok (record { plan = s.plan; prices = s.prices })) × (numbers s.plan ≡ s.told)) starred
