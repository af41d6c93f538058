use Rattle.std.proofs.Common.{ℕ, Ok, Err, Result}
use Rattle.std.proofs.lemmas.Result.{err_from_is_err_and}
use Rattle.market.specs.declared.refusal.Refusal.{Refusal}
use Rattle.market.specs.Bounding.{SystemFits, PricesFit, OverTold, RangesTold, system, upper, lower, rise, fall}
use Rattle.market.specs.Clearing.{PriceSet}
use Rattle.market.proofs.clearing.net_prices.bounding.in_range.Goals as goal

-- what the last question tells, once the others have been answered yes
last : (n : ℕ) (s : PriceSet) → SystemFits s → PricesFit s.upper → PricesFit s.lower → PricesFit s.rise → (r : Result (Unit {0}) Refusal) → OverTold n s.fall r → RangesTold n s r
last n s a b c e (Ok u) h = record { system = a; upper = b; lower = c; rise = e; fall = h }
last n s a b c e (Err f) h = fall f a b c e h

pub returns-in-Some : goal.returns-in-Some
returns-in-Some c = system c.in-Some.period c.in-Some.ensures

pub returns-in_err-limited : goal.returns-in_err-limited
returns-in_err-limited c =
    let p = err_from_is_err_and c.from_residual.result c.from_residual.ensures.1 in
    rw (p.1, p.2) (upper _ c.in_default.ensures c.in_err-limited.ensures)

pub returns-in_err-limited-2 : goal.returns-in_err-limited-2
returns-in_err-limited-2 c =
    let p = err_from_is_err_and c.from_residual-in_err-limited-2.result c.from_residual-in_err-limited-2.ensures.1 in
    rw (p.1, p.2) (lower _ c.in_default.ensures c.in_ok-limited.ensures c.in_err-limited-2.ensures)

pub returns-in_err-limited-3 : goal.returns-in_err-limited-3
returns-in_err-limited-3 c =
    let p = err_from_is_err_and c.from_residual-in_err-limited-3.result c.from_residual-in_err-limited-3.ensures.1 in
    rw (p.1, p.2) (rise _ c.in_default.ensures c.in_ok-limited.ensures c.in_ok-limited-2.ensures c.in_err-limited-3.ensures)

pub returns : goal.returns
returns c = last _ _ c.in_default.ensures c.in_ok-limited.ensures c.in_ok-limited-2.ensures c.in_ok-limited-3.ensures _ c.limited-4.ensures
