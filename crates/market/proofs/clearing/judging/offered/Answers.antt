use Rattle.std.proofs.lemmas.Result.{err_from_is_err_and}
use Rattle.market.specs.Judging.{Refused, unplaced, lengths}
use Rattle.market.proofs.Alone.{told}
use Rattle.market.proofs.Rejecting.{rejected, eight}
use Rattle.market.proofs.clearing.judging.offered.Goals as goal

pub returns-in_err-place : goal.returns-in_err-place
returns-in_err-place g c =
    let p = err_from_is_err_and c.from_residual.result c.from_residual.ensures.1 in
    rw (p.1, p.2) (told _ _ _ _ (rejected _ _ _ _ (unplaced _ c.in_err-place.ensures)) tt)

pub returns-in_err-plan_lengths : goal.returns-in_err-plan_lengths
returns-in_err-plan_lengths g c =
    let p = err_from_is_err_and c.from_residual-in_err-plan_lengths.result c.from_residual-in_err-plan_lengths.ensures.1 in
    let e = c.in_err-plan_lengths.ensures in
    rw (p.1, p.2) (told _ _ _ _ (rejected _ _ _ _ (eight (Refused _ _ _) (lengths c.in_ok-place.ensures e.1) e.0)) tt)
