use Rattle.market.specs.Days.{UpToLoads, UpToFactors, UpToLower, lower_limit, upper_limit, crossed, numbers_of}
use Rattle.market.proofs.Making.{refused_shape, refused_lengths, refused_load, refused_factor, to_loads, fits}
use Rattle.market.proofs.numbers.DayNumbers.asked.Goals as goal
use Rattle.market.proofs.numbers.DayNumbers.asked.Goals.{Else-not-lengths_fit, In_default, In_default-outside}

-- what has been answered yes, question by question
loads : (c : Else-not-lengths_fit) → UpToLoads (numbers_of c.args.self.now)
loads c = to_loads _ c.if-not-shape_fits.ensures c.if-not-lengths_fit.ensures

factors : (c : In_default) → UpToFactors (numbers_of c.args.self.now)
factors c = record { before = to_loads _ c.if-not-shape_fits.ensures c.if-not-lengths_fit.ensures; loads = c.in_default.ensures }

lower : (c : In_default-outside) → UpToLower (numbers_of c.args.self.now)
lower c = record { before = record { before = to_loads _ c.if-not-shape_fits.ensures c.if-not-lengths_fit.ensures; loads = c.in_default.ensures }; factors = c.in_default-outside.ensures }

pub returns-then-not-shape_fits : goal.returns-then-not-shape_fits
returns-then-not-shape_fits c = refused_shape _ c.if-not-shape_fits.ensures

pub returns-then-not-lengths_fit : goal.returns-then-not-lengths_fit
returns-then-not-lengths_fit c = refused_lengths _ c.if-not-shape_fits.ensures c.if-not-lengths_fit.ensures

pub returns-in-Some : goal.returns-in-Some
returns-in-Some c = refused_load _ (loads (goal.at.returns-in-Some c).Else-not-lengths_fit) _ c.in-Some.ensures

pub returns-in-Some-outside : goal.returns-in-Some-outside
returns-in-Some-outside c = refused_factor _ (factors (goal.at.returns-in-Some-outside c).In_default) _ c.in-Some-outside.ensures

pub returns-in-Some-outside-2 : goal.returns-in-Some-outside-2
returns-in-Some-outside-2 c = lower_limit (lower (goal.at.returns-in-Some-outside-2 c).In_default-outside) _ c.in-Some-outside-2.ensures

pub returns-in-Some-outside-3 : goal.returns-in-Some-outside-3
returns-in-Some-outside-3 c =
    upper_limit (record { before = lower (goal.at.returns-in-Some-outside-3 c).In_default-outside; lower = c.in_default-outside-2.ensures }) _ c.in-Some-outside-3.ensures

pub returns-in-Some-crossed : goal.returns-in-Some-crossed
returns-in-Some-crossed c =
    crossed (record { before = record { before = lower (goal.at.returns-in-Some-crossed c).In_default-outside; lower = c.in_default-outside-2.ensures }; upper = c.in_default-outside-3.ensures }) _ c.in-Some-crossed.ensures

pub returns-in-None : goal.returns-in-None
returns-in-None c =
    fits _ (record { before = record { before = lower (goal.at.returns-in-None c).In_default-outside; lower = c.in_default-outside-2.ensures }; upper = c.in_default-outside-3.ensures }) c.in-None.ensures
