-- What is refused is not lawful. Assumes nothing.
use Rattle.std.proofs.Common.{◌≡◌, ℕ, true, is_ok, Ok, Err, Result, sym, subst, arith}
use Rattle.measures.specs.declared.Grains.{Grains}
use Rattle.market.specs.declared.broken.Broken.{Broken}
use Rattle.market.specs.declared.refusal.Refusal.{Refusal}
use Rattle.market.specs.declared.refusal.Refusal.TheVariants.{Lengths}
use Rattle.market.specs.Clearing.{Plan, Placed, Lawful, BreaksFirst, row_rule, balance, upper_limit, lower_limit}
use Rattle.market.specs.Days.{Numbers}
use Rattle.market.specs.Fleet.{Meaning}
use Rattle.market.specs.Judging.{Refused, Rejected, unplaced, lengths, broken}
use Rattle.market.specs.Placing.{Unplaced, sizes, row}

-- a refusal that is 8, told as such
pub eight : (told : Refusal → Type 0) {e : Refusal} → told Lengths → e ≡ Lengths → told e
eight told h is = subst told (sym is) h

pub not_both : (v : Result Grains Broken) (e : Broken) → is_ok v ≡ true → v ≡ Err e → ⊥
not_both (Ok c) e ok is = let z : ◌≡◌ {A = ℕ} 0 1 = cc in omega arith
not_both (Err f) e ok is = let z : ◌≡◌ {A = ℕ} 0 1 = cc in omega arith

pub unplaced_not_placed : (d : Numbers) (m : Meaning) (e : Refusal) → Unplaced d m e → Placed d m → ⊥
unplaced_not_placed d m _ (sizes off) placed = off (record { periods = placed.periods; some = placed.some })
unplaced_not_placed d m _ (row r fit out) placed = omega (arith, placed.nodes r out.within, out.out)

module _ (d : Numbers) (m : Meaning) (p : Plan) where
  breaks_unlawful : (e : Refusal) → BreaksFirst d m p e → Lawful d m p → ⊥
  breaks_unlawful _ (row_rule r e lt kept is) lawful = not_both _ e (lawful.rows r lt) is
  breaks_unlawful _ (balance t on rows cleared off) lawful = off (lawful.periods t on).0
  breaks_unlawful _ (upper_limit t l on lt rows cleared even kept off) lawful = off ((lawful.periods t on).1 l lt).0
  breaks_unlawful _ (lower_limit t l on lt rows cleared even kept under off) lawful = off ((lawful.periods t on).1 l lt).1

  unlawful : (e : Refusal) → Refused d m p e → Placed d m → Lawful d m p → ⊥
  unlawful _ (unplaced e u) placed lawful = unplaced_not_placed d m e u placed
  unlawful _ (lengths fit off) placed lawful = off (record { marks = lawful.marks; outputs = lawful.outputs })
  unlawful _ (broken e ready b) placed lawful = breaks_unlawful e b lawful

  pub rejected : (e : Refusal) → Refused d m p e → Rejected d m p e
  rejected e h = record { first = h; rightly = unlawful e h }
