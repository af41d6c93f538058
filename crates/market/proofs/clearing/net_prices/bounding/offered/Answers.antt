use Rattle.std.proofs.lemmas.Result.{err_from_is_err_and}
use Rattle.market.specs.Bounding.{Refused, unplaced, lengths, range}
use Rattle.market.proofs.Making.{made_of}
use Rattle.market.proofs.PricesAlike.{told}
use Rattle.market.proofs.Rejecting.{eight}
use Rattle.market.proofs.Repricing.{rejected}
use Rattle.market.proofs.clearing.net_prices.bounding.offered.Goals as goal

pub returns-in_err-place : goal.returns-in_err-place
returns-in_err-place g c =
    let p = err_from_is_err_and c.from_residual.result c.from_residual.ensures.1 in
    rw (p.1, p.2) (told _ _ _ (g.met.F.Fleet.facts c.args.fleet.now) (made_of c.args.day.now) _ (rejected _ _ _ _ (unplaced _ c.in_err-place.ensures)))

pub returns-in_err-price_lengths : goal.returns-in_err-price_lengths
returns-in_err-price_lengths g c =
    let p = err_from_is_err_and c.from_residual-in_err-price_lengths.result c.from_residual-in_err-price_lengths.ensures.1 in
    let e = c.in_err-price_lengths.ensures in
    rw (p.1, p.2) (told _ _ _ (g.met.F.Fleet.facts c.args.fleet.now) (made_of c.args.day.now) _ (rejected _ _ _ _ (eight (Refused _ _ _) (lengths c.in_ok-place.ensures e.1) e.0)))

pub returns-in_err-in_range : goal.returns-in_err-in_range
returns-in_err-in_range g c =
    let p = err_from_is_err_and c.from_residual-in_err-in_range.result c.from_residual-in_err-in_range.ensures.1 in
    rw (p.1, p.2) (told _ _ _ (g.met.F.Fleet.facts c.args.fleet.now) (made_of c.args.day.now) _ (rejected _ _ _ _ (range _ c.in_ok-place.ensures c.in_ok-price_lengths.ensures c.in_err-in_range.ensures)))
