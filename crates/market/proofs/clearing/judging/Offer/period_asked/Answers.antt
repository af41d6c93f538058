use Rattle.std.proofs.Common.{◌≡◌, ℕ, List, take, ℤ, pos, ◌∙◌, ◌<◌, length, sym, arith}
use Rattle.std.proofs.lemmas.Bool.{both_ways, not-true, not-false}
use Rattle.std.proofs.lemmas.Bool.Decides.{Decides-int_eq}
use Rattle.std.proofs.lemmas.List.{length-take, get_or-take}
use Rattle.market.specs.Clearing.{Plan, balance}
use Rattle.market.specs.Days.{Made, Numbers, numbers_of}
use Rattle.market.specs.Fleet.{Meaning}
use Rattle.market.specs.Scans.{Within, at}
use Rattle.market.specs.Injections.{Fed}
use Rattle.market.specs.Judging.{plan_of}
use Rattle.market.specs.Meanings.{meaning}
use Rattle.market.proofs.Gathering.{fed_small}
use Rattle.market.proofs.Making.{made_of}
use Rattle.market.proofs.Periods.{unbalanced, balanced, period_told}
use Rattle.market.proofs.clearing.judging.Offer.period_asked.Given as given
use Rattle.market.proofs.clearing.judging.Offer.period_asked.Goals as goal
use Rattle.market.proofs.clearing.judging.Offer.period_asked.Goals.{After-gathered-all}

abbrev numbers : (g : given.Over) → After-gathered-all g → Numbers
numbers g c = numbers_of c.args.self.now.day.now.numbers

abbrev m : (g : given.Over) → After-gathered-all g → Meaning
m g c = meaning g.F.Fleet c.args.self.now.fleet.now

abbrev plan : (g : given.Over) → After-gathered-all g → Plan
plan g c = plan_of c.args.self.now.plan.now

made : (g : given.Over) (c : After-gathered-all g) → Made (numbers g c)
made g c = made_of c.args.self.now.day.now

-- what the day's nodes feed in
abbrev fed : (g : given.Over) → After-gathered-all g → List ℤ
fed g c = take c.args.self.now.day.now.numbers.nodes c.gathered-all.result

long : (g : given.Over) (c : After-gathered-all g) → length (fed g c) ≡ c.args.self.now.day.now.numbers.nodes
long g c = simp length-take (omega (arith, (made g c).shape.nodes.1, c.gathered-all.ensures.long))

is_fed : (g : given.Over) (c : After-gathered-all g) → Fed (numbers g c) (m g c) (plan g c) c.args.period (g.F.Fleet.size c.args.self.now.fleet.now) (fed g c)
is_fed g c k h = get_or-take c.args.self.now.day.now.numbers.nodes c.gathered-all.result k (pos 0) h ∙ c.gathered-all.ensures.fed k h

small : (g : given.Over) (c : After-gathered-all g) (k : ℕ) → k < c.args.self.now.day.now.numbers.nodes → Within 680000 (at (fed g c) k)
small g c = fed_small (numbers g c) (m g c) (plan g c) (g.met.F.Fleet.facts c.args.self.now.fleet.now) (made g c) c.args.self.now.ready c.requires.kept c.args.period c.requires.on (g.F.Fleet.size c.args.self.now.fleet.now) (fed g c) (omega arith) (is_fed g c)

pub invariant_of-fed : goal.invariant_of-fed
invariant_of-fed g c = let i = (goal.at.invariant_of-fed g c).After-gathered-all in record { long = long g i; small = small g i }

pub returns-then-ne : goal.returns-then-ne
returns-then-ne g c cleared =
    let i = (goal.at.returns-then-ne g c).After-gathered-all in
    let off : c.sum.result.0 ≡ pos 0 → ⊥ = λ z. both_ways _ (not-true _ (sym c.if-ne.ensures)) ((Decides-int_eq c.sum.result.0 (pos 0)).1 z) in
    balance c.args.period c.requires.on c.requires.kept cleared
    (unbalanced (numbers g i) (m g i) (plan g i) c.args.period (fed g i) c.args.self.now.ready.placed.nodes (is_fed g i) c.sum.result.0 c.sum.ensures off)

pub lines_asked-requires : goal.lines_asked-requires
lines_asked-requires g c = let i = (goal.at.lines_asked-requires g c).After-gathered-all in omega (arith, (made g i).shape.periods.1, c.requires.on)

pub returns : goal.returns
returns g c =
    let i = (goal.at.returns g c).After-gathered-all in
    let none = (Decides-int_eq c.sum.result.0 (pos 0)).0 (not-false _ (sym c.if-ne.ensures)) in
    let even = balanced (numbers g i) (m g i) (plan g i) c.args.period (fed g i) c.args.self.now.ready.placed.nodes (is_fed g i) c.sum.result.0 c.sum.ensures none in
    period_told (numbers g i) (m g i) (plan g i) c.args.period (fed g i) c.args.self.now.ready.placed.nodes (is_fed g i) c.requires.on c.requires.kept even c.lines_asked.result c.lines_asked.ensures
