use Rattle.std.proofs.lemmas.Result.{err_from_is_err_and}
use Rattle.market.specs.Fleet.{row_prices_of}
use Rattle.market.proofs.Pricing.{rises_tell, falls_tell}
use Rattle.market.proofs.asking.limits_kept.Goals as goal

pub returns-in_err-within-2 : goal.returns-in_err-within-2
returns-in_err-within-2 c =
    let p = err_from_is_err_and c.from_residual-in_err-within-2.result c.from_residual-in_err-within-2.ensures.1 in
    rw (p.1, p.2) (rises_tell (row_prices_of c.args.prices.now) _ c.in_ok-within.ensures c.in_err-within-2.ensures)

pub returns : goal.returns
returns c = falls_tell (row_prices_of c.args.prices.now) _ c.in_ok-within.ensures c.in_ok-within-2.ensures c.within-3.ensures
