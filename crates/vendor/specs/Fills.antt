-- One row written into the tables, and all rows one after another. Assumes nothing.
use Rattle.std.specs.Prelude.{◌≡◌, ℕ, ◌+◌, ◌*◌, ◌<◌, ◌≤◌, List, length, replicate, pos, Some, None, Option, slice_set}
use Rattle.vendor.specs.declared.rows.Shape.{Shape}
use Rattle.vendor.specs.declared.rows.Entry.{Entry}
use Rattle.vendor.specs.declared.rows.Entry.TheVariants.{Output, Line, Ramp}
use Rattle.vendor.specs.declared.rows.Entry.TheVariants as entry
use Rattle.vendor.specs.declared.rows.Group.TheVariants.{Outputs, System, Lines, Ramps}
use Rattle.vendor.specs.declared.tables.Tables.{Tables}
use Rattle.vendor.specs.declared.tables.Counts.{Counts}
use Rattle.vendor.specs.Files.{Contents, RightLengths, lines, entries, fault_of, filled, tables_after, cell, told, first, second, first_natural}

-- the same memory is lent before and after
pub record SamePlaces (before after : Tables) : Type 0 where
  pub marks : after.marks.ghost_name ≡ before.marks.ghost_name
  pub outputs : after.outputs.ghost_name ≡ before.outputs.ghost_name
  pub system : after.system.ghost_name ≡ before.system.ghost_name
  pub upper : after.upper.ghost_name ≡ before.upper.ghost_name
  pub lower : after.lower.ghost_name ≡ before.lower.ghost_name
  pub rise : after.rise.ghost_name ≡ before.rise.ghost_name
  pub fall : after.fall.ghost_name ≡ before.fall.ghost_name

-- every cell zero
abbrev pub cleared : Contents → Contents
cleared c = record {
  marks = replicate (length c.marks) 0;
  outputs = replicate (length c.outputs) (pos 0);
  system = replicate (length c.system) (pos 0);
  upper = replicate (length c.upper) (pos 0);
  lower = replicate (length c.lower) (pos 0);
  rise = replicate (length c.rise) (pos 0);
  fall = replicate (length c.fall) (pos 0);
}

-- a table after a row that tells this
abbrev pub put : {A : Type 0} → Option (ℕ × A) → List A → List A
put None xs = xs
put (Some p) xs = slice_set xs p.0 p.1

-- the tables after one row
abbrev pub written : Shape → Entry → Contents → Contents
written sh e c = record {
  marks = put (told sh Outputs first_natural e) c.marks;
  outputs = put (told sh Outputs second e) c.outputs;
  system = put (told sh System first e) c.system;
  upper = put (told sh Lines first e) c.upper;
  lower = put (told sh Lines second e) c.lower;
  rise = put (told sh Ramps first e) c.rise;
  fall = put (told sh Ramps second e) c.fall;
}

-- the cells that a row names are there
abbrev pub NamesACell : Shape → Entry → Type 0
NamesACell sh (Output row period mark output) = (1 ≤ period) × (cell sh row period < sh.size * sh.periods)
NamesACell sh (entry.System period price) = (1 ≤ period) × (period ≤ sh.periods)
NamesACell sh (Line line period upper lower) = (1 ≤ period) × (cell sh line period < sh.lines * sh.periods)
NamesACell sh (Ramp row period rise fall) = (1 ≤ period) × (cell sh row period < sh.size * sh.periods)

-- one row more can be counted
pub record Room (c : Counts) : Type 0 where
  pub outputs : c.outputs + 1 < 18446744073709551616
  pub system : c.system + 1 < 18446744073709551616
  pub lines : c.lines + 1 < 18446744073709551616
  pub ramps : c.ramps + 1 < 18446744073709551616

-- a file that can be read into tables that hold c
pub record Readable (sh : Shape) (file : List ℕ) (c : Contents) : Type 0 where
  pub sound : fault_of sh file ≡ None
  pub sized : RightLengths sh c
  pub after : filled sh (entries (lines file)) ≡ tables_after sh file c
