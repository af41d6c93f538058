-- A whole file: its rows, its fault, and what its tables hold. Assumes nothing.
use Rattle.std.specs.Prelude.{◌≡◌, ℕ, ◌+◌, ◌-◌, ◌*◌, ◌≤◌, Bool, true, false, cond, ◌&&◌, List, [], ◌∷◌, map, length, ℤ, pos, Some, None, Option, Result, ◌==◌, nat_le}
use Rattle.std.specs.List.{range_with_len}
use Rattle.vendor.specs.declared.faults.RowFault.{RowFault}
use Rattle.vendor.specs.declared.faults.FileFault.{FileFault}
use Rattle.vendor.specs.declared.faults.FileFault.TheVariants.{Whole, Row}
use Rattle.vendor.specs.declared.rows.Shape.{Shape}
use Rattle.vendor.specs.declared.rows.Last.{Last}
use Rattle.vendor.specs.declared.rows.Entry.{Entry}
use Rattle.vendor.specs.declared.rows.Entry.TheVariants.{Output, Line, Ramp}
use Rattle.vendor.specs.declared.rows.Entry.TheVariants as entry
use Rattle.vendor.specs.declared.rows.Group.{Group}
use Rattle.vendor.specs.declared.rows.Group.TheVariants.{Outputs, System, Lines, Ramps}
use Rattle.vendor.specs.declared.tables.Counts.{Counts}
use Rattle.vendor.specs.declared.tables.Tables as tables
use Rattle.vendor.specs.Pieces.{pieces}
use Rattle.vendor.specs.Rows as rows
use Rattle.vendor.specs.Rows.{fields, unless_no, natural, rank, entry_of, place_of, row_fault}

-- what stands before each byte 10 is a row that it ended; what follows the last, if anything, is a row that none ended
abbrev pub lines_of : List (List ℕ) → List rows.Line
lines_of [] = []
lines_of ([] ∷ []) = []
lines_of ((b ∷ bs) ∷ []) = record { bytes = b ∷ bs; ended = false } ∷ []
lines_of (p ∷ q ∷ ps) = record { bytes = p; ended = true } ∷ lines_of (q ∷ ps)

unfoldable pub lines : List ℕ → List rows.Line
lines file = lines_of (pieces 10 file)

-- the place of a row in the order
abbrev pub place : rows.Line → Last
place l = place_of (entry_of (fields l))

-- the row's fault, or else that of the rows after it
abbrev pub row_or : Option RowFault → ℕ → Option FileFault → Option FileFault
row_or (Some e) n later = Some (Row n e)
row_or None n later = later

-- the fault of the first faulty row, of rows that are counted from n and come after `last`
abbrev pub fault_from : Shape → ℕ → Option Last → List rows.Line → Option FileFault
fault_from sh n last [] = None
fault_from sh n last (l ∷ ls) = row_or (row_fault sh last l) n (fault_from sh (n + 1) (Some (place l)) ls)

abbrev pub fault_of : Shape → List ℕ → Option FileFault
fault_of sh file = fault_from sh 1 None (lines file)

abbrev pub entries : List rows.Line → List Entry
entries ls = map (λ l. entry_of (fields l)) ls

-- tables lie item by item and then by period
abbrev pub cell : Shape → ℕ → ℕ → ℕ
cell sh item period = item * sh.periods + (period - 1)

-- a row's two numbers after its period: mark and output, upper and lower price, rise and fall price; an S row has one
abbrev pub numbers_of : Entry → ℤ × ℤ
numbers_of (Output row period mark output) = (pos mark, output)
numbers_of (entry.System period price) = (price, pos 0)
numbers_of (Line line period upper lower) = (upper, lower)
numbers_of (Ramp row period rise fall) = (rise, fall)

abbrev pub first : ℤ × ℤ → ℤ
first p = p.0

abbrev pub second : ℤ × ℤ → ℤ
second p = p.1

abbrev pub first_natural : ℤ × ℤ → ℕ
first_natural p = natural p.0

-- which cell a row names in a table of its letter, and what it tells there; rows of other letters name none
abbrev pub told : {A : Type 0} → Shape → Group → (ℤ × ℤ → A) → Entry → Option (ℕ × A)
told sh g pick e = cond (rank g == rank (place_of e).group) (Some (cell sh (place_of e).index (place_of e).period, pick (numbers_of e))) None

-- a cell that held x, after a row that tells this
abbrev pub after : {A : Type 0} → Option (ℕ × A) → ℕ → A → A
after None i x = x
after (Some p) i x = cond (p.0 == i) p.1 x

-- a cell that held x, after these rows: what the row that names it tells, else x
abbrev pub after_all : {A : Type 0} → (Entry → Option (ℕ × A)) → ℕ → A → List Entry → A
after_all told i x [] = x
after_all told i x (e ∷ es) = after_all told i (after (told e) i x) es

-- a table of n cells, each of what the row that names it tells, else zero
abbrev pub table : {A : Type 0} → (Entry → Option (ℕ × A)) → ℕ → A → List Entry → List A
table told n zero es = map (λ i. after_all told i zero es) (range_with_len 0 n)

-- what the lent tables hold
pub record Contents : Type 0 where
  pub marks : List ℕ
  pub outputs : List ℤ
  pub system : List ℤ
  pub upper : List ℤ
  pub lower : List ℤ
  pub rise : List ℤ
  pub fall : List ℤ

abbrev pub contents : tables.Tables → Contents
contents t = record { marks = t.marks.now; outputs = t.outputs.now; system = t.system.now; upper = t.upper.now; lower = t.lower.now; rise = t.rise.now; fall = t.fall.now }

-- a size of at most 32, and every table of its exact length
pub record RightLengths (sh : Shape) (c : Contents) : Type 0 where
  pub size : sh.size ≤ 32
  pub marks : length c.marks ≡ sh.size * sh.periods
  pub outputs : length c.outputs ≡ sh.size * sh.periods
  pub system : length c.system ≡ sh.periods
  pub upper : length c.upper ≡ sh.lines * sh.periods
  pub lower : length c.lower ≡ sh.lines * sh.periods
  pub rise : length c.rise ≡ sh.size * sh.periods
  pub fall : length c.fall ≡ sh.size * sh.periods

abbrev pub sized : Shape → Contents → Bool
sized sh c =
    nat_le sh.size 32 && (length c.marks == sh.size * sh.periods && (length c.outputs == sh.size * sh.periods
    && (length c.system == sh.periods && (length c.upper == sh.lines * sh.periods && (length c.lower == sh.lines * sh.periods
    && (length c.rise == sh.size * sh.periods && length c.fall == sh.size * sh.periods))))))

-- what the tables hold after a file of these rows was taken
abbrev pub filled : Shape → List Entry → Contents
filled sh es = record {
  marks = table (told sh Outputs first_natural) (sh.size * sh.periods) 0 es;
  outputs = table (told sh Outputs second) (sh.size * sh.periods) (pos 0) es;
  system = table (told sh System first) sh.periods (pos 0) es;
  upper = table (told sh Lines first) (sh.lines * sh.periods) (pos 0) es;
  lower = table (told sh Lines second) (sh.lines * sh.periods) (pos 0) es;
  rise = table (told sh Ramps first) (sh.size * sh.periods) (pos 0) es;
  fall = table (told sh Ramps second) (sh.size * sh.periods) (pos 0) es;
}

-- how many rows there are of each letter
abbrev pub one_more : Entry → Counts → Counts
one_more (Output row period mark output) c = record { outputs = c.outputs + 1; system = c.system; lines = c.lines; ramps = c.ramps }
one_more (entry.System period price) c = record { outputs = c.outputs; system = c.system + 1; lines = c.lines; ramps = c.ramps }
one_more (Line line period upper lower) c = record { outputs = c.outputs; system = c.system; lines = c.lines + 1; ramps = c.ramps }
one_more (Ramp row period rise fall) c = record { outputs = c.outputs; system = c.system; lines = c.lines; ramps = c.ramps + 1 }

abbrev pub counted : Counts → List Entry → Counts
counted c [] = c
counted c (e ∷ es) = counted (one_more e c) es

abbrev pub none_counted : Counts
none_counted = record { outputs = 0; system = 0; lines = 0; ramps = 0 }

-- a file's fault: 8 first, then that of its first faulty row
unfoldable pub whole_fault : Shape → List ℕ → Contents → Option FileFault
whole_fault sh file c = cond (sized sh c) (fault_of sh file) (Some Whole)

-- how rows are answered that are counted from n and come after `last`, with c counted before them
abbrev pub rows_answer_from : Shape → ℕ → Option Last → Counts → List rows.Line → Result Counts FileFault
rows_answer_from sh n last c ls = unless_no (fault_from sh n last ls) (counted c (entries ls))

abbrev pub rows_answer : Shape → List ℕ → Result Counts FileFault
rows_answer sh file = rows_answer_from sh 1 None none_counted (lines file)

-- how a file is answered
abbrev pub answer : Shape → List ℕ → Contents → Result Counts FileFault
answer sh file c = unless_no (whole_fault sh file c) (counted none_counted (entries (lines file)))

abbrev pub unless : {A : Type 0} → Option FileFault → A → A → A
unless None refused taken = taken
unless (Some e) refused taken = refused

-- what the tables hold then: as they were where the file is refused
abbrev pub tables_after : Shape → List ℕ → Contents → Contents
tables_after sh file c = unless (whole_fault sh file c) c (filled sh (entries (lines file)))
