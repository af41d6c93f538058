use Rattle.std.proofs.Common.{◌≡◌, ap, ◌∙◌, sym, subst, arith, lit≤}
use Rattle.market.specs.Scans.{at, Within}
use Rattle.market.specs.Totals.{total}
use Rattle.market.proofs.Ints.{reread}
use Rattle.market.proofs.Making.{made_of}
use Rattle.market.proofs.Sums.{sum_fits, sum_is, wider}
use Rattle.market.proofs.Totals.{total_within}
use Rattle.market.proofs.clearing.judging.Injections.sum.Goals as goal

pub sum-requires-clause-fits : goal.sum-requires-clause-fits
sum-requires-clause-fits c =
    let made = made_of c.args.self.now.day.now in
    sum_fits c.args.self.now.fed.now c.iter.ensures.rest 680000 (λ k h. c.args.self.now.small k (omega (arith, h, c.args.self.now.long))) (omega (arith, c.args.self.now.long, made.shape.nodes.1))

pub returns : goal.returns
returns c =
    let made = made_of c.args.self.now.day.now in
    let e : c.sum.result ≡ total c.args.self.now.day.now.numbers.nodes (at c.args.self.now.fed.now) =
    sum_is c.args.self.now.fed.now c.iter.ensures.rest c.sum.result c.sum.ensures.ran ∙ ap (λ n. total n (at c.args.self.now.fed.now)) c.args.self.now.long in
    let w = total_within c.args.self.now.day.now.numbers.nodes 680000 (at c.args.self.now.fed.now) c.args.self.now.small in
    reread 10880000 _ (lit≤ tt) (subst (Within 10880000) (sym e) (wider c.args.self.now.day.now.numbers.nodes 680000 10880000 _ (omega (arith, made.shape.nodes.1)) w)) ∙ e
