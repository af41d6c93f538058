use Rattle.std.proofs.Common.{◌≡◌, ℕ, ◌*◌, ◌<◌, List, length, ℤ, pos, ◌+ℤ◌, length-append, sym, ap, ◌∙◌, subst, arith, w32, w64, to_z, of_z, SFits, rules}
use Rattle.std.specs.Int.{int_min}
use Rattle.std.proofs.lemmas.Int.{ints, to_z-of_z}
use Rattle.std.proofs.lemmas.Slice.Zip.{zip_turn}
use Rattle.market.specs.Scans.{Within, UpTo, at}
use Rattle.market.specs.Totals.{total}
use Rattle.market.proofs.Totals.{total_more}
use Rattle.kinds.specs.Curves.{highest, net_cost}
use Rattle.kinds.specs.Leasts.{least_over}
use Rattle.kinds.specs.Renewables.{least_of}
use Rattle.kinds.proofs.CurveTests.{made_so}
use Rattle.kinds.proofs.RenewableRows.{least_small, leasts_small}
use Rattle.fleets.proofs.renewables.row.Row.leasts.Goals as goal
use Rattle.fleets.proofs.renewables.row.Row.leasts.Goals.{In-Some, After-least}

-- this turn's price and power
record Turn (net available : List ℤ) (t : ℕ) (x p : ℤ) : Type 0 where
  within : t < length net
  price : x ≡ at net t
  power : p ≡ at available t

turn : (c : In-Some) → Turn c.args.net.now c.args.self.now.available.now (length c.loop-price.yielded) (to_z w64 (of_z w64 c.in-Some.price.now)) (to_z w32 (of_z w32 c.in-Some.power.now))
turn c =
    let z = zip_turn c.args.net.now c.args.self.now.available.now c.loop-price.yielded _ _ c.next.new.self _ (search rules) (search rules) c.loop-price.yielded_by _ c.in-Some.is c.next.ensures.steps in
    let price : SFits w64 c.in-Some.price.now = search rules in
    let power : SFits w32 c.in-Some.power.now = search rules in
    record { within = z.0; price = to_z-of_z w64 _ price ∙ z.2 (pos 0); power = to_z-of_z w32 _ power ∙ z.3 (pos 0) }

pub least-requires : goal.least-requires
least-requires c =
    let t = turn (goal.at.least-requires c).In-Some in
    let here : length c.loop-price.yielded < length c.args.self.now.available.now = omega (arith, t.within, c.requires.long) in
    record {
      power = subst (UpTo 20000) (sym t.power) (c.args.self.now.fits.available _ here);
      limit = subst (Within 17000000000) (sym t.price) (c.requires.limits _ here);
    }

-- what the row weighs in this period
least_is : (c : After-least) → c.least.result.0 ≡ least_of c.args.self.now.curve.numbers c.args.self.now.available.now (length c.loop-price.yielded) (at c.args.net.now (length c.loop-price.yielded))
least_is c =
    let t = turn (goal.at.add-all-requires c).In-Some in
    let n = c.args.self.now.curve.numbers in
    c.least.ensures ∙ λ j. least_over (pos 0) (int_min (t.power j) (highest n)) (net_cost n (t.price j))

pub add-all-requires : goal.add-all-requires
add-all-requires c =
    let row = c.args.self.now in
    let t = length c.loop-price.yielded in
    let w = (turn (goal.at.add-all-requires c).In-Some).within in
    let made = made_so row.curve.numbers row.curve.made in
    let here : t < length row.available.now = omega (arith, w, c.requires.long) in
    let so_far : Within (t * 404000000000000) c.loop-price.all.0 = subst (Within _) (sym c.loop-price.invariant.sum) (leasts_small row.curve.numbers row.available.now made row.fits c.args.net.now t (omega arith) c.requires.limits) in
    let more : Within 404000000000000 c.least.result.0 = subst (Within _) (sym (least_is c)) (least_small row.curve.numbers row.available.now made row.fits t (at c.args.net.now t) here (c.requires.limits t here)) in
    omega (arith, ints, row.few)

pub loop-price-preserved : goal.loop-price-preserved
loop-price-preserved c =
    let n = length c.loop-price.yielded in
    let term : ℕ → ℤ = λ t. least_of c.args.self.now.curve.numbers c.args.self.now.available.now t (at c.args.net.now t) in
    let e = least_is (goal.at.loop-price-preserved c).After-least in
    record {
      can = search rules;
      ends = search rules;
      sum = c.add-all.ensures ∙ (λ j. c.loop-price.invariant.sum j +ℤ e j) ∙ sym (total_more n term) ∙ ap (λ k. total k term) (sym (length-append c.loop-price.yielded _));
    }
