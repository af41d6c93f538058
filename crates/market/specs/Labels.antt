-- The label of a period: the time at its end, and its text. Assumes nothing.
use Rattle.std.specs.Prelude.{ℕ, ◌*◌, ◌/◌, ◌%◌, cond, ◌&&◌, List, ◌∷◌, ◌++◌, Some, None, Option, nat_le}
use Rattle.std.specs.Fmt.{decimal}
use Rattle.market.specs.declared.label.Label.{Label}

-- periods 1 to 96 of a quarter hour each: the hour is the whole part of the minutes over 60, and the minute is the rest
abbrev pub label : ℕ → Option Label
label t = cond (nat_le 1 t && nat_le t 96) (Some (record { hour = 15 * t / 60; minute = 15 * t % 60 })) None

-- at least two digits
abbrev pub two_digits : ℕ → List ℕ
two_digits n = decimal (n / 10) ++ decimal (n % 10)

-- hours and minutes, with a colon (byte 58) between them
abbrev pub label_text : Label → List ℕ
label_text l = two_digits l.hour ++ (58 ∷ two_digits l.minute)
