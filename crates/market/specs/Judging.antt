-- When a fleet fits and a plan is judged: its rows, and then its periods. Assumes nothing.
use Rattle.std.specs.Prelude.{◌≡◌, ℕ, ◌*◌, length, Ok, Err, Result}
use Rattle.measures.specs.declared.Grains.{Grains}
use Rattle.market.specs.declared.plan.Plan.{Plan as Handed}
use Rattle.market.specs.declared.refusal.Refusal.{Refusal}
use Rattle.market.specs.declared.refusal.Refusal.TheVariants.{Lengths}
use Rattle.market.specs.Clearing.{Plan, Placed, RowsKept, Balanced, LinesKept, Cleared, Lawful, BreaksFirst, cost}
use Rattle.market.specs.Days.{Numbers}
use Rattle.market.specs.Fleet.{Meaning, Same}
use Rattle.market.specs.Placing.{Unplaced}
use Rattle.market.specs.Scans.{Within}

abbrev pub plan_of : Handed → Plan
plan_of p = record { marks = p.marks.now; outputs = p.outputs.now }

-- the plan has a cell for each row and period
pub record PlanSized (d : Numbers) (m : Meaning) (p : Plan) : Type 0 where
  pub marks : length p.marks ≡ m.size * d.periods
  pub outputs : length p.outputs ≡ m.size * d.periods

-- the fleet fits the day, and the plan has its lengths
pub record Ready (d : Numbers) (m : Meaning) (p : Plan) : Type 0 where
  pub placed : Placed d m
  pub sized : PlanSized d m p

-- every row is lawful, and their costs come to c; or e tells the first rule that a row breaks
abbrev pub RowsJudged : Numbers → (m : Meaning) → Plan → Result Grains Refusal → Type 0
RowsJudged d m p (Ok c) = RowsKept d m p m.size × (c.0 ≡ cost d m p)
RowsJudged d m p (Err e) = BreaksFirst d m p e

-- a period keeps the market rules, or e tells the first that is broken in it, where all before it are kept
abbrev pub PeriodTold : Numbers → (m : Meaning) → Plan → ℕ → Result (Unit {0}) Refusal → Type 0
PeriodTold d m p t (Ok u) = Balanced d m p t × LinesKept d m p t d.lines
PeriodTold d m p t (Err e) = Cleared d m p t → BreaksFirst d m p e

-- the first no: the fleet does not fit the day, or the plan has not its lengths, or it breaks a rule
pub data Refused (d : Numbers) (m : Meaning) (p : Plan) : Refusal → Type 0 where
  unplaced : (e : Refusal) → Unplaced d m e → Refused d m p e
  lengths : Placed d m → (PlanSized d m p → ⊥) → Refused d m p Lengths
  broken : (e : Refusal) → Ready d m p → BreaksFirst d m p e → Refused d m p e

-- told rightly: the fleet does not fit, or the plan is not lawful
pub record Rejected (d : Numbers) (m : Meaning) (p : Plan) (e : Refusal) : Type 0 where
  pub first : Refused d m p e
  pub rightly : Placed d m → Lawful d m p → ⊥

-- a lawful plan and its cost, or the first no
abbrev pub Answered : Numbers → (m : Meaning) → Plan → Result Grains Refusal → Type 0
Answered d m p (Ok c) = Placed d m × Lawful d m p × (c.0 ≡ cost d m p)
Answered d m p (Err e) = Rejected d m p e

-- an amount that is told fits
abbrev pub SmallTold : Result Grains Refusal → Type 0
SmallTold (Ok c) = Within 4000000000000000000 c.0
SmallTold (Err e) = Unit {0}

-- the answer to a plan: it alone tells what is so, and every fleet that no question tells from this one gets it too
pub record Told (d : Numbers) (m : Meaning) (p : Plan) (a : Result Grains Refusal) : Type 0 where
  pub answer : Answered d m p a
  pub small : SmallTold a
  pub alone : (b : Result Grains Refusal) → Answered d m p b → b ≡ a
  pub alike : (n : Meaning) → Same m n → Answered d n p a
