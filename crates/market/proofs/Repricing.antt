-- A price set that is refused is not one in range, for a fleet that fits. Assumes nothing.
use Rattle.std.proofs.Common.{◌≡◌, ℕ, ◌+◌, ◌*◌, ◌<◌, List, length, ℤ, arith}
use Rattle.market.specs.declared.refusal.Refusal.{Refusal}
use Rattle.market.specs.Bounding.{Over, over, OutOfRange, system, upper, lower, rise, fall, Refused, Rejected, unplaced, lengths, range}
use Rattle.market.specs.Clearing.{PriceSet, Placed, Sized, InRange}
use Rattle.market.specs.Days.{Numbers}
use Rattle.market.specs.Fleet.{Meaning}
use Rattle.market.specs.Scans.{at, UpTo}
use Rattle.market.proofs.Rejecting.{unplaced_not_placed}

over_not_in : (n k : ℕ) (xs : List ℤ) (e : Refusal) → length xs ≡ k → Over n xs e → ((i : ℕ) → i < k → UpTo 1000000 (at xs i)) → ⊥
over_not_in n k xs _ long (over item t on out) within = out.out (within (item * n + t) (omega (arith, out.within)))

module _ (d : Numbers) (m : Meaning) (s : PriceSet) where
  out_not_in : (n : ℕ) (e : Refusal) → OutOfRange n s e → Sized d m s → InRange d m s → ⊥
  out_not_in n _ (system t out) sized within = out.out (within.system t (omega (arith, out.within, sized.system)))
  out_not_in n _ (upper e a h) sized within = over_not_in n _ s.upper e sized.upper h within.upper
  out_not_in n _ (lower e a b h) sized within = over_not_in n _ s.lower e sized.lower h within.lower
  out_not_in n _ (rise e a b c h) sized within = over_not_in n _ s.rise e sized.rise h within.rise
  out_not_in n _ (fall e a b c f h) sized within = over_not_in n _ s.fall e sized.fall h within.fall

  rightly : (e : Refusal) → Refused d m s e → Placed d m → Sized d m s → InRange d m s → ⊥
  rightly _ (unplaced e u) placed sized within = unplaced_not_placed d m e u placed
  rightly _ (lengths fit off) placed sized within = off sized
  rightly _ (range e fit lens out) placed sized within = out_not_in d.periods e out sized within

  pub rejected : (e : Refusal) → Refused d m s e → Rejected d m s e
  rejected e h = record { first = h; rightly = rightly e h }
