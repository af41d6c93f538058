-- Fixed schedules: a table of them, when it is one, and what it means as a fleet. Assumes nothing.
use Rattle.std.specs.Prelude.{◌≡◌, ℕ, ◌+◌, ◌*◌, ◌<◌, Bool, true, ◌&&◌, List, [], length, ℤ, pos, ◌-ℤ◌, ◌*ℤ◌, neg_ℤ, Option, slice_index}
use Rattle.measures.specs.Amounts.{grains}
use Rattle.market.specs.Fleet.{Meaning, Schedule}
use Rattle.market.specs.Scans.{at, in_test, InBefore, FirstOut, in_all}
use Rattle.market.specs.Totals.{total}
use Rattle.kinds.specs.declared.table_fault.TableFault.{TableFault}
use Rattle.kinds.specs.declared.table_fault.TableFault.TheVariants.{Cell}
use Rattle.kinds.specs.Rules.{running_rule}
use Rattle.kinds.specs.Tables.{Shaped, Unshaped, shape_test}
use Rattle.kinds.specs.Verdicts.{verdict_over}

-- a node for each row, and an output for each row and period, row by row
pub record Table : Type 0 where
  pub periods : ℕ
  pub nodes : List ℕ
  pub outputs : List ℤ

abbrev pub table : ℕ → List ℕ → List ℤ → Table
table periods nodes outputs = record { periods = periods; nodes = nodes; outputs = outputs }

-- one period and no row
abbrev pub no_rows : Table
no_rows = table 1 [] []

-- the table answers the first two questions with yes
abbrev pub ShapeFits : Table → Type 0
ShapeFits f = Shaped f.periods (length f.nodes) (length f.outputs)

-- every output before cell i is within its limits
abbrev pub OutputsFit : Table → ℕ → Type 0
OutputsFit f i = InBefore (neg_ℤ (pos 20000)) (pos 20000) f.outputs i

-- the numbers are those of a table
pub record Made (f : Table) : Type 0 where
  pub shape : ShapeFits f
  pub outputs : OutputsFit f (length f.outputs)

-- the same as a test
abbrev pub made_test : Table → Bool
made_test f = shape_test f.periods (length f.nodes) (length f.outputs) && in_all (neg_ℤ (pos 20000)) (pos 20000) f.outputs

-- both, for the struct that holds the table
pub record Fits (f : Table) : Type 0 where
  pub test : made_test f ≡ true
  pub made : Made f

-- the first no, where the numbers are not those of a table
pub data Refused (f : Table) : TableFault → Type 0 where
  shape : (e : TableFault) → Unshaped f.periods (length f.nodes) (length f.outputs) e → Refused f e
  row_output : ShapeFits f → (r t : ℕ) → t < f.periods → FirstOut (neg_ℤ (pos 20000)) (pos 20000) f.outputs (r * f.periods + t) → Refused f (Cell r (t + 1))

-- the output that row r has in period t; periods count from 0 here
abbrev pub fixed_at : Table → ℕ → ℕ → ℤ
fixed_at f r t = at f.outputs (r * f.periods + t)

-- x is y, as a test
abbrev pub is_test : ℤ → ℤ → Bool
is_test x y = in_test x x y

-- the first rule that a period breaks, if any: the output is the fixed one
abbrev pub rule_in : ℤ → ℕ → ℤ → Option ℕ
rule_in fixed mark output = running_rule mark (is_test fixed output)

-- the same in period t of row r's schedule
abbrev pub rule_at : Table → ℕ → Schedule → ℕ → Option ℕ
rule_at f r s t = rule_in (fixed_at f r t) (slice_index s.marks t) (at s.outputs t)

-- a lawful schedule costs nothing, and the floor is minus what the fixed outputs earn at the net prices
abbrev pub fixed : Table → Meaning
fixed f = record {
  periods = f.periods;
  size = length f.nodes;
  node = λ r. slice_index f.nodes r;
  verdict = λ r s. verdict_over (rule_at f r s) (λ _. pos 0) f.periods;
  floor = λ r q. grains (pos 0 -ℤ total f.periods (λ t. at q.net t *ℤ fixed_at f r t));
}
