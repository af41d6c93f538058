use Rattle.std.proofs.Common.{◌≡◌, ℕ, ◌<◌, List, length, ℤ, pos, ◌+ℤ◌, ◌*ℤ◌, length-append, sym, ap, ◌∙◌, subst, arith, w32, w64, to_z, of_z, SFits, rules}
use Rattle.std.proofs.lemmas.Int.{ints, to_z-of_z}
use Rattle.std.proofs.lemmas.Slice.Zip.{zip_turn}
use Rattle.market.specs.Scans.{Within, at}
use Rattle.market.specs.Totals.{total}
use Rattle.market.proofs.Totals.{total_more}
use Rattle.kinds.proofs.FixedRows.{term_small, earned_small}
use Rattle.fleets.proofs.fixed.row.Row.earned.Goals as goal
use Rattle.fleets.proofs.fixed.row.Row.earned.Goals.{In-Some}

-- this turn's price and output
record Turn (net outputs : List ℤ) (t : ℕ) (price output : ℤ) : Type 0 where
  within : t < length net
  is : price *ℤ output ≡ at net t *ℤ at outputs t

turn : (c : In-Some) → Turn c.args.net.now c.args.self.now.outputs.now (length c.loop-price.yielded) (to_z w64 (of_z w64 c.in-Some.price.now)) (to_z w32 (of_z w32 c.in-Some.output.now))
turn c =
    let z = zip_turn c.args.net.now c.args.self.now.outputs.now c.loop-price.yielded _ _ c.next.new.self _ (search rules) (search rules) c.loop-price.yielded_by _ c.in-Some.is c.next.ensures.steps in
    let price : SFits w64 c.in-Some.price.now = search rules in
    let output : SFits w32 c.in-Some.output.now = search rules in
    record { within = z.0; is = λ j. (to_z-of_z w64 _ price ∙ z.2 (pos 0)) j *ℤ (to_z-of_z w32 _ output ∙ z.3 (pos 0)) j }

-- what the row earns in this period
small : (c : In-Some) → Within 340000000000000 (at c.args.net.now (length c.loop-price.yielded) *ℤ at c.args.self.now.outputs.now (length c.loop-price.yielded))
small c = let w = (turn c).within in term_small c.args.self.now.outputs.now c.args.self.now.fits _ _ (omega (arith, c.requires.long)) (c.requires.limits _ (omega (arith, c.requires.long)))

pub mul-requires : goal.mul-requires
mul-requires c =
    let i = (goal.at.mul-requires c).In-Some in
    let p = small i in
    let e = (turn i).is in
    omega (arith, ints)

pub add-all-requires : goal.add-all-requires
add-all-requires c =
    let i = (goal.at.add-all-requires c).In-Some in
    let w = (turn i).within in
    let a = subst (Within _) (sym c.loop-price.invariant.sum) (earned_small c.args.self.now.outputs.now c.args.self.now.fits c.args.net.now (length c.loop-price.yielded) (omega (arith, c.requires.long)) c.requires.limits) in
    let p = small i in
    let e = c.mul.ensures ∙ (turn i).is in
    omega (arith, ints, c.args.self.now.few, c.requires.long)

pub loop-price-preserved : goal.loop-price-preserved
loop-price-preserved c =
    let i = (goal.at.loop-price-preserved c).In-Some in
    let n = length c.loop-price.yielded in
    let term : ℕ → ℤ = λ t. at c.args.net.now t *ℤ at c.args.self.now.outputs.now t in
    let e = c.mul.ensures ∙ (turn i).is in
    record {
      can = search rules;
      ends = search rules;
      sum = c.add-all.ensures ∙ (λ j. c.loop-price.invariant.sum j +ℤ e j) ∙ sym (total_more n term) ∙ ap (λ k. total k term) (sym (length-append c.loop-price.yielded _));
    }
