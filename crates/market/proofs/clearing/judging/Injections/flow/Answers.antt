use Rattle.std.proofs.Common.{◌≡◌, ℕ, ◌*◌, ◌<◌, [], ◌∷◌, length, w32, to_z, of_z, ℤ, pos, ◌+ℤ◌, ◌*ℤ◌, sym, ap, ◌∙◌, subst, rules, arith}
use Rattle.std.proofs.lemmas.Int.{ints}
use Rattle.std.proofs.lemmas.List.{length-append}
use Rattle.std.proofs.lemmas.Slice.Zip.{zip_turn, zip_end}
use Rattle.std.specs.Iterator.Adapters.{zip_first, zip_second}
use Rattle.std.specs.Slice.Iter.{iter_rest}
use Rattle.market.specs.Clearing.{factor}
use Rattle.market.specs.Days.{Made, numbers_of}
use Rattle.market.specs.Scans.{Within, at}
use Rattle.market.specs.Totals.{total}
use Rattle.market.proofs.Cells.{at_part, length_part, place_below}
use Rattle.market.proofs.Ints.{times_within}
use Rattle.market.proofs.Making.{made_of}
use Rattle.market.proofs.Totals.{total_more, total_within}
use Rattle.market.proofs.clearing.judging.Injections.flow.Goals as goal
use Rattle.market.proofs.clearing.judging.Injections.flow.Goals.{In-Some, In-None}

-- what a node feeds in, weighed
abbrev term : (c : In-Some) → ℕ → ℤ
term c k = factor (numbers_of c.args.self.now.day.now.numbers) c.args.line k *ℤ at c.args.self.now.fed.now k

made : (c : In-Some) → Made (numbers_of c.args.self.now.day.now.numbers)
made c = made_of c.args.self.now.day.now

-- in this turn the node is one of the day's, and the pair is its factor and what it feeds in
record Turn (c : In-Some) : Type 0 where
  pub node : length c.loop-factor.yielded < c.args.self.now.day.now.numbers.nodes
  pub factor : c.in-Some.factor.now ≡ factor (numbers_of c.args.self.now.day.now.numbers) c.args.line (length c.loop-factor.yielded)
  pub power : c.in-Some.power.now ≡ at c.args.self.now.fed.now (length c.loop-factor.yielded)

turn : (c : In-Some) → Turn c
turn c =
    let first : iter_rest (zip_first c.into_iter-factor-iterator.result) ≡ c.factors.result.now = search rules in
    let second : iter_rest (zip_second c.into_iter-factor-iterator.result) ≡ c.args.self.now.fed.now = search rules in
    let t = zip_turn _ _ c.loop-factor.yielded c.into_iter-factor-iterator.result c.loop-factor.factor-iterator c.next.new.self _ (first ∙ c.factors.ensures) second c.loop-factor.yielded_by (c.in-Some.factor, c.in-Some.power) c.in-Some.is c.next.ensures.steps in
    let node : length c.loop-factor.yielded < c.args.self.now.day.now.numbers.nodes = omega (arith, t.1, c.args.self.now.long) in
    record { node = node; factor = t.2 (pos 0) ∙ at_part c.args.self.now.day.now.numbers.nodes c.args.line (length c.loop-factor.yielded) c.args.self.now.day.now.numbers.factors.now (pos 0) node; power = t.3 (pos 0) }

factor_small : (c : In-Some) (k : ℕ) → k < c.args.self.now.day.now.numbers.nodes → Within 1000 (factor (numbers_of c.args.self.now.day.now.numbers) c.args.line k)
factor_small c k h =
    let place = place_below c.args.line c.args.self.now.day.now.numbers.lines c.args.self.now.day.now.numbers.nodes k c.requires h in
    (made c).factors _ (omega (arith, place, (made c).lengths.factors))

term_small : (c : In-Some) (k : ℕ) → k < c.args.self.now.day.now.numbers.nodes → Within 680000000 (term c k)
term_small c k h = times_within _ _ 1000 680000 (factor_small c k h) (c.args.self.now.small k h)

-- the pair as it is read
weighed : (c : In-Some) → to_z w32 (of_z w32 c.in-Some.factor.now) *ℤ to_z w32 (of_z w32 c.in-Some.power.now) ≡ term c (length c.loop-factor.yielded)
weighed c =
    let t = turn c in
    let f = factor_small c _ t.node in
    let p = c.args.self.now.small _ t.node in
    let e : to_z w32 (of_z w32 c.in-Some.factor.now) ≡ factor (numbers_of c.args.self.now.day.now.numbers) c.args.line (length c.loop-factor.yielded) = omega (arith, ints, t.factor) in
    let h : to_z w32 (of_z w32 c.in-Some.power.now) ≡ at c.args.self.now.fed.now (length c.loop-factor.yielded) = omega (arith, ints, t.power) in
    λ j. e j *ℤ h j

-- what is summed up so far
so_far : (c : In-Some) → Within (length c.loop-factor.yielded * 680000000) c.loop-factor.all.0
so_far c =
    let node = (turn c).node in
    subst (Within (length c.loop-factor.yielded * 680000000)) (sym c.loop-factor.invariant) (total_within (length c.loop-factor.yielded) 680000000 (term c) (λ k h. term_small c k (omega arith)))

pub add-all-requires : goal.add-all-requires
add-all-requires c =
    let i = (goal.at.add-all-requires c).In-Some in
    let a = so_far i in
    let p = subst (Within 680000000) (sym (weighed i)) (term_small i _ (turn i).node) in
    let few = (made i).shape.nodes.1 in
    omega (arith, ints, c.share.ensures, (turn i).node)

pub loop-factor-preserved : goal.loop-factor-preserved
loop-factor-preserved c =
    let i = (goal.at.loop-factor-preserved c).In-Some in
    rw (length-append c.loop-factor.yielded ((c.in-Some.factor, c.in-Some.power) ∷ [])) (c.add-all.ensures ∙ (λ j. c.loop-factor.invariant j +ℤ (c.share.ensures ∙ weighed i) j) ∙ sym (total_more (length c.loop-factor.yielded) (term i)))

pub returns : goal.returns
returns c =
    let first : iter_rest (zip_first c.into_iter-factor-iterator.result) ≡ c.factors.result.now = search rules in
    let second : iter_rest (zip_second c.into_iter-factor-iterator.result) ≡ c.args.self.now.fed.now = search rules in
    let e = zip_end _ _ c.loop-factor.yielded c.into_iter-factor-iterator.result c.loop-factor.factor-iterator c.next.new.self _ first second c.loop-factor.yielded_by c.in-None.is c.next.ensures.steps in
    let made = made_of c.args.self.now.day.now in
    let long = ap length c.factors.ensures ∙ length_part c.args.self.now.day.now.numbers.nodes c.args.line c.args.self.now.day.now.numbers.lines c.args.self.now.day.now.numbers.factors.now c.requires made.lengths.factors in
    let all : length c.loop-factor.yielded ≡ c.args.self.now.day.now.numbers.nodes = omega (arith, e, long, c.args.self.now.long) in
    subst (λ n. c.loop-factor.all.0 ≡ total n (λ k. factor (numbers_of c.args.self.now.day.now.numbers) c.args.line k *ℤ at c.args.self.now.fed.now k)) all c.loop-factor.invariant
