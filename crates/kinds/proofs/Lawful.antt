-- What a lawful verdict on a thermal unit's schedule says of each period. Assumes nothing.
use Rattle.std.proofs.Common.{◌≡◌, ℕ, ◌<◌, ◌≤◌, Bool, true, false, ℤ, Some, None, Ok, Err, Option, refl, subst, arith, lit≤}
use Rattle.measures.specs.declared.Grains.{Grains}
use Rattle.market.specs.Fleet.{Schedule}
use Rattle.market.specs.Scans.{at}
use Rattle.market.specs.Totals.{total}
use Rattle.market.specs.declared.broken.Broken.{Broken}
use Rattle.kinds.specs.declared.thermal_unit.ThermalUnit.{ThermalUnit}
use Rattle.kinds.specs.Thermal.{rule_10, rule_11, rule_12, rule_13, rule_14, rule_15, asked, first_broken, rule, cost_in, verdict, mark_in, mark_before, lasted_before, output_before}
use Rattle.kinds.specs.Verdicts.{LawfulAt, BreaksFirst, breaks, Tells}
use Rattle.kinds.proofs.Verdicts.{verdict_tells}

-- a period of mark m and output p, after a mark b that has lasted h periods and an output o, keeps every rule
pub record KeepsAll (u : ThermalUnit) (b h : ℕ) (o : ℤ) (m : ℕ) (p : ℤ) : Type 0 where
  pub mark : rule_10 m ≡ true
  pub output : rule_11 u m p ≡ true
  pub stop : rule_12 u b h m ≡ true
  pub start : rule_13 u b h m ≡ true
  pub rise : rule_14 u b m o p ≡ true
  pub fall : rule_15 u b m o p ≡ true

passed : (n : ℕ) (kept : Bool) (next : Option ℕ) → asked n kept next ≡ None → (kept ≡ true) × (next ≡ None)
passed n true next h = (refl, h)
passed n false next h = let z : ◌≡◌ {A = ℕ} 0 1 = cc in absurd (omega arith)

pub kept_all : (u : ThermalUnit) (b h : ℕ) (o : ℤ) (m : ℕ) (p : ℤ) → first_broken u b h o m p ≡ None → KeepsAll u b h o m p
unfolding first_broken
kept_all u b h o m p e =
    let p10 = passed 10 (rule_10 m) _ e in
    let p11 = passed 11 (rule_11 u m p) _ p10.1 in
    let p12 = passed 12 (rule_12 u b h m) _ p11.1 in
    let p13 = passed 13 (rule_13 u b h m) _ p12.1 in
    let p14 = passed 14 (rule_14 u b m o p) _ p13.1 in
    let p15 = passed 15 (rule_15 u b m o p) _ p14.1 in
    record { mark = p10.0; output = p11.0; stop = p12.0; start = p13.0; rise = p14.0; fall = p15.0 }

pub all_kept : (u : ThermalUnit) (b h : ℕ) (o : ℤ) (m : ℕ) (p : ℤ) → KeepsAll u b h o m p → first_broken u b h o m p ≡ None
unfolding first_broken
all_kept u b h o m p k = cc (k.mark, k.output, k.stop, k.start, k.rise, k.fall)

-- ---- a rule's number is 10 to 15
abbrev Numbered : Option ℕ → Type 0
Numbered None = Unit {0}
Numbered (Some n) = (10 ≤ n) × (n ≤ 15)

one_of : (n : ℕ) (kept : Bool) (next : Option ℕ) → (10 ≤ n) × (n ≤ 15) → Numbered next → Numbered (asked n kept next)
one_of n true next here later = later
one_of n false next here later = here

numbered : (u : ThermalUnit) (b h : ℕ) (o : ℤ) (m : ℕ) (p : ℤ) → Numbered (first_broken u b h o m p)
unfolding first_broken
numbered u b h o m p =
    one_of 10 (rule_10 m) _ (lit≤ tt, lit≤ tt) (one_of 11 (rule_11 u m p) _ (lit≤ tt, lit≤ tt)
    (one_of 12 (rule_12 u b h m) _ (lit≤ tt, lit≤ tt) (one_of 13 (rule_13 u b h m) _ (lit≤ tt, lit≤ tt)
    (one_of 14 (rule_14 u b m o p) _ (lit≤ tt, lit≤ tt) (one_of 15 (rule_15 u b m o p) None (lit≤ tt, lit≤ tt) tt)))))

module _ (u : ThermalUnit) (s : Schedule) (n : ℕ) where
  -- every period of a lawful schedule keeps every rule
  abbrev pub LawfulIn : ℕ → Type 0
  LawfulIn t = KeepsAll u (mark_before u s t) (lasted_before u s t) (output_before u.output s.outputs t) (mark_in s t) (at s.outputs t)

  lawful : (c : Grains) → verdict u s n ≡ Ok c → LawfulAt (rule u s) (cost_in u s) n c
  lawful c e = subst (Tells (rule u s) (cost_in u s) n) e (verdict_tells (rule u s) (cost_in u s) n)

  pub keeps_each : (c : Grains) → verdict u s n ≡ Ok c → (t : ℕ) → t < n → LawfulIn t
  keeps_each c e t h = kept_all u _ _ _ _ _ ((lawful c e).keeps t h)

  pub cost_is : (c : Grains) → verdict u s n ≡ Ok c → c.0 ≡ total n (cost_in u s)
  cost_is c e = (lawful c e).sum

  broken_numbered : (e : Broken) → BreaksFirst (rule u s) n e → (10 ≤ e.rule) × (e.rule ≤ 15)
  broken_numbered e (breaks t k l before is) = subst Numbered is (numbered u _ _ _ _ _)

  pub rule_numbered : (e : Broken) → verdict u s n ≡ Err e → (10 ≤ e.rule) × (e.rule ≤ 15)
  rule_numbered e h = broken_numbered e (subst (Tells (rule u s) (cost_in u s) n) h (verdict_tells (rule u s) (cost_in u s) n))
