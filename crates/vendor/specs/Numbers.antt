-- Which texts are numbers, and which number each is. Assumes nothing.
use Rattle.std.specs.Prelude.{ℕ, zero, suc, Bool, cond, not, ◌&&◌, ◌||◌, List, length, drop, ℤ, pos, negsuc, Some, None, Option, ◌==◌, nat_le, slice_index}
use Rattle.std.specs.Str.Parse.{digits_value}
use Rattle.std.specs.Str.{all_ascii_digits}
use Rattle.std.specs.Option.{option_map}

-- 1 to 8 digits, of which the first is no zero unless it is the only one
abbrev pub plain : List ℕ → Bool
plain ds = all_ascii_digits ds && (nat_le 1 (length ds) && (nat_le (length ds) 8 && (length ds == 1 || not (slice_index ds 0 == 48))))

-- the number that plain digits write
abbrev pub magnitude_of : List ℕ → Option ℕ
magnitude_of ds = cond (plain ds) (Some (digits_value 10 ds)) None

-- a minus stands only before a number above zero
abbrev pub below_zero : Option ℕ → Option ℤ
below_zero None = None
below_zero (Some zero) = None
below_zero (Some (suc n)) = Some (negsuc n)

-- plain digits, and a minus (byte 45) before them where the number is below zero
unfoldable pub number : List ℕ → Option ℤ
number text = cond (slice_index text 0 == 45) (below_zero (magnitude_of (drop 1 text))) (option_map pos (magnitude_of text))
