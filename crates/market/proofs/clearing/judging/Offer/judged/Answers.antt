use Rattle.std.proofs.Common.{arith, below_more}
use Rattle.std.proofs.lemmas.Result.{err_from_is_err_and}
use Rattle.market.specs.Judging.{broken}
use Rattle.market.proofs.Rejecting.{rejected}
use Rattle.market.proofs.clearing.judging.Offer.judged.Goals as goal

pub returns-in_err-cost-clause-answered : goal.returns-in_err-cost-clause-answered
returns-in_err-cost-clause-answered g c =
    let p = err_from_is_err_and c.from_residual.result c.from_residual.ensures.1 in
    rw (p.1, p.2) (rejected _ _ _ _ (broken _ c.args.self.now.ready c.in_err-cost.ensures.judged))

pub loop-period-preserved : goal.loop-period-preserved
loop-period-preserved g c = below_more _ _ c.loop-period.invariant c.in_ok-period_asked.ensures

pub returns-in_err-period_asked-clause-answered : goal.returns-in_err-period_asked-clause-answered
returns-in_err-period_asked-clause-answered g c =
    let p = err_from_is_err_and c.from_residual-in_err-period_asked.result c.from_residual-in_err-period_asked.ensures.1 in
    rw (p.1, p.2) (rejected _ _ _ _ (broken _ c.args.self.now.ready (c.in_err-period_asked.ensures c.loop-period.invariant)))

pub returns : goal.returns
returns g c =
    let rows = c.in_ok-cost.ensures in
    let ready = c.args.self.now.ready in
    record {
      answered = (ready.placed, record { marks = ready.sized.marks; outputs = ready.sized.outputs; rows = rows.judged.0; periods = λ s h. c.loop-period.invariant s (omega arith) }, rows.judged.1);
      small = rows.small;
    }
