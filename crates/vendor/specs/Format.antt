-- What a file says, in the words of its format: the page to read first. Assumes nothing.
use Rattle.std.specs.Prelude.{◌≡◌, ℕ, zero, suc, ◌+◌, ◌*◌, ◌<◌, Bool, true, false, List, [], ◌∷◌, ◌++◌, length, ℤ, pos, neg_ℤ, ◌≤ℤ◌, Some, None, Ok, Err, Option, Result, ◌≢◌, slice_index_or}
use Rattle.std.specs.Fmt.{signed_decimal}
use Rattle.vendor.specs.declared.faults.RowFault.{RowFault}
use Rattle.vendor.specs.declared.faults.FileFault.{FileFault}
use Rattle.vendor.specs.declared.faults.FileFault.TheVariants.{Whole, Row}
use Rattle.vendor.specs.declared.rows.Shape.{Shape}
use Rattle.vendor.specs.declared.rows.Last.{Last}
use Rattle.vendor.specs.declared.rows.Entry.{Entry}
use Rattle.vendor.specs.declared.rows.Group.TheVariants.{Outputs, System, Lines, Ramps}
use Rattle.vendor.specs.declared.tables.Counts.{Counts}
use Rattle.vendor.specs.Files.{lines, place, told, first, second, first_natural, Contents, RightLengths, entries, counted, none_counted}
use Rattle.vendor.specs.Numbers.{number}
use Rattle.vendor.specs.Pieces.{Lacks, PiecesAreWhatStandsBetween}
use Rattle.vendor.specs.Rows.{Line, fields, entry_of, row_fault}

-- a number is written as decimals are, with at most 8 digits; each text writes one number at most, and each number has one text
pub record WrittenAs (bs : List ℕ) (z : ℤ) : Type 0 where
  pub text : bs ≡ signed_decimal z
  pub small : (neg_ℤ (pos 99999999) ≤ℤ z) × (z ≤ℤ pos 99999999)

abbrev pub NumbersAreDecimals : Type 0
NumbersAreDecimals = (bs : List ℕ) (z : ℤ) → (number bs ≡ Some z → WrittenAs bs z) × (WrittenAs bs z → number bs ≡ Some z)

-- rows put together again: each with its byte 10, unless none ended it
abbrev pub ends : Bool → List ℕ
ends true = 10 ∷ []
ends false = []

abbrev pub unsplit : List Line → List ℕ
unsplit [] = []
unsplit (l ∷ ls) = l.bytes ++ (ends l.ended ++ unsplit ls)

-- no row holds byte 10, and one that none ended is the last and not empty
abbrev pub RowsProper : List Line → Type 0
RowsProper [] = Unit {0}
RowsProper (l ∷ ls) = Lacks 10 l.bytes × (l.ended ≡ false → (ls ≡ []) × (0 < length l.bytes)) × RowsProper ls

abbrev pub RowsAreWhatByte10Ends : Type 0
RowsAreWhatByte10Ends = (file : List ℕ) → (unsplit (lines file) ≡ file) × RowsProper (lines file)

-- row k of the file, from 0
abbrev pub row_at : List ℕ → ℕ → Line
row_at file k = slice_index_or (lines file) k (record { bytes = []; ended = false })

-- the place of the row before it, if there is one
abbrev pub place_before : List ℕ → ℕ → Option Last
place_before file zero = None
place_before file (suc k) = Some (place (row_at file k))

-- the fault of row k: the first of its questions that has the answer no, asked beside the row before it
abbrev pub fault_at : Shape → List ℕ → ℕ → Option RowFault
fault_at sh file k = row_fault sh (place_before file k) (row_at file k)

-- no row before row k has a fault
abbrev pub SoundBefore : Shape → List ℕ → ℕ → Type 0
SoundBefore sh file k = (j : ℕ) → j < k → fault_at sh file j ≡ None

-- every row is without fault, or f is the fault of row k, the first that has one
abbrev pub AllSound : Shape → List ℕ → Type 0
AllSound sh file = SoundBefore sh file (length (lines file))

pub record FirstFaulty (sh : Shape) (file : List ℕ) (k : ℕ) (f : RowFault) : Type 0 where
  pub within : k < length (lines file)
  pub before : SoundBefore sh file k
  pub fault : fault_at sh file k ≡ Some f

abbrev pub entry_at : List ℕ → ℕ → Entry
entry_at file k = entry_of (fields (row_at file k))

-- a table of n cells: a cell is named by one row at most, holds what that row tells, and where none names it zero
pub record Holds {A : Type 0} (tells : Entry → Option (ℕ × A)) (n : ℕ) (zero : A) (file : List ℕ) (xs : List A) : Type 0 where
  pub long : length xs ≡ n
  pub named : (k i : ℕ) (v : A) → k < length (lines file) → tells (entry_at file k) ≡ Some (i, v) → (i < n) × (slice_index_or xs i zero ≡ v)
  pub once : (j k i : ℕ) (v w : A) → j < length (lines file) → k < length (lines file) → tells (entry_at file j) ≡ Some (i, v) → tells (entry_at file k) ≡ Some (i, w) → j ≡ k
  pub unnamed : (i : ℕ) → i < n → ((k : ℕ) (v : A) → k < length (lines file) → tells (entry_at file k) ≢ Some (i, v)) → slice_index_or xs i zero ≡ zero

-- the seven tables of a taken file
pub record TablesHold (sh : Shape) (file : List ℕ) (c : Contents) : Type 0 where
  pub marks : Holds (told sh Outputs first_natural) (sh.size * sh.periods) 0 file c.marks
  pub outputs : Holds (told sh Outputs second) (sh.size * sh.periods) (pos 0) file c.outputs
  pub system : Holds (told sh System first) sh.periods (pos 0) file c.system
  pub upper : Holds (told sh Lines first) (sh.lines * sh.periods) (pos 0) file c.upper
  pub lower : Holds (told sh Lines second) (sh.lines * sh.periods) (pos 0) file c.lower
  pub rise : Holds (told sh Ramps first) (sh.size * sh.periods) (pos 0) file c.rise
  pub fall : Holds (told sh Ramps second) (sh.size * sh.periods) (pos 0) file c.fall

-- what a file is answered with, and what the tables hold before and after
pub data Answered (sh : Shape) (file : List ℕ) (before : Contents) : Result Counts FileFault → Contents → Type 0 where
  wrong_lengths : (RightLengths sh before → ⊥) → Answered sh file before (Err Whole) before
  faulty : (k : ℕ) (f : RowFault) → RightLengths sh before → FirstFaulty sh file k f → Answered sh file before (Err (Row (k + 1) f)) before
  taken : (after : Contents) → RightLengths sh before → AllSound sh file → TablesHold sh file after → Answered sh file before (Ok (counted none_counted (entries (lines file)))) after

-- the words that the page above rests on: pieces, numbers and rows are what the format calls so
pub record WordsMean : Type 0 where
  pub pieces : PiecesAreWhatStandsBetween
  pub numbers : NumbersAreDecimals
  pub rows : RowsAreWhatByte10Ends
