-- What every no is told with: its number, its place and its period, 0 where it names none. Assumes nothing.
use Rattle.std.specs.Prelude.{ℕ, List, [], ◌∷◌, ◌++◌, Some, None, Option}
use Rattle.std.specs.Fmt.{decimal}
use Rattle.market.specs.declared.day_fault.DayFault.{DayFault}
use Rattle.market.specs.declared.day_fault.DayFault.TheVariants as day
use Rattle.market.specs.declared.refusal.Refusal.{Refusal}
use Rattle.market.specs.declared.refusal.Refusal.TheVariants as offer
use Rattle.market.specs.declared.label.Label.{Label}
use Rattle.market.specs.Labels.{label, label_text}

-- a day: 1 its shape, 2 its lengths, 3 a number of it; a load names its node and period, a factor and a limit their line
abbrev pub day_number : DayFault → ℕ
day_number day.Shape = 1
day_number day.Lengths = 2
day_number (day.Load k t) = 3
day_number (day.Factor l) = 3
day_number (day.Lower l) = 3
day_number (day.Upper l) = 3
day_number (day.Crossed l) = 3

abbrev pub day_place : DayFault → ℕ
day_place day.Shape = 0
day_place day.Lengths = 0
day_place (day.Load k t) = k
day_place (day.Factor l) = l
day_place (day.Lower l) = l
day_place (day.Upper l) = l
day_place (day.Crossed l) = l

abbrev pub day_period : DayFault → ℕ
day_period day.Shape = 0
day_period day.Lengths = 0
day_period (day.Load k t) = t
day_period (day.Factor l) = 0
day_period (day.Lower l) = 0
day_period (day.Upper l) = 0
day_period (day.Crossed l) = 0

-- an offer: 4 a fleet that does not fit, 6 a row's node, 8 a length, a row's rule by its own number, 16 the balance of a period, 17 and 18
-- the upper and the lower limit of a line, 19 a price
abbrev pub number_of : Refusal → ℕ
number_of offer.Misfit = 4
number_of (offer.Node r) = 6
number_of offer.Lengths = 8
number_of (offer.Row r e) = e.rule
number_of (offer.Balance t) = 16
number_of (offer.Upper l t) = 17
number_of (offer.Lower l t) = 18
number_of (offer.Price p t) = 19

abbrev pub place_of : Refusal → ℕ
place_of offer.Misfit = 0
place_of (offer.Node r) = r
place_of offer.Lengths = 0
place_of (offer.Row r e) = r
place_of (offer.Balance t) = 0
place_of (offer.Upper l t) = l
place_of (offer.Lower l t) = l
place_of (offer.Price p t) = p

abbrev pub period_of : Refusal → ℕ
period_of offer.Misfit = 0
period_of (offer.Node r) = 0
period_of offer.Lengths = 0
period_of (offer.Row r e) = e.period
period_of (offer.Balance t) = t
period_of (offer.Upper l t) = t
period_of (offer.Lower l t) = t
period_of (offer.Price p t) = t

-- the label of a period, or a dash (byte 45)
abbrev pub when : Option Label → List ℕ
when None = 45 ∷ []
when (Some l) = label_text l

-- as a refusal is printed: number, place, and the label of the period, with semicolons (byte 59) between them
abbrev pub text_of : Refusal → List ℕ
text_of e = decimal (number_of e) ++ (59 ∷ (decimal (place_of e) ++ (59 ∷ when (label (period_of e)))))
