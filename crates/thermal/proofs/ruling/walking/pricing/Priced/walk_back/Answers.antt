use Rattle.std.proofs.Common.{◌≡◌, ℕ, ◌+◌, ◌-◌, ◌<◌, ◌≤◌, min, cond, eqb, List, map, length, get_or, set, ◌+ℤ◌, refl, ap, sym, ◌∙◌, subst, arith, length-set}
use Rattle.std.specs.Int.{int_min}
use Rattle.std.proofs.lemmas.Bool.{cond-true, cond-false, eq-eqb, ne_eqb}
use Rattle.std.proofs.lemmas.List.{get_or-replicate, get_or-set_same, get_or-set_other, get_or-map, map-set, length-map}
use Rattle.market.specs.Fleet.{row_prices_of}
use Rattle.kinds.specs.Walks.{Ahead as Amounts, Walked, AheadWithin, running_to}
use Rattle.kinds.proofs.Units.{cells_within}
use Rattle.kinds.proofs.Walking.{walked_end, walked_step}
use Rattle.thermal.specs.declared.ruling.walking.Ahead.{Ahead}
use Rattle.thermal.specs.Ahead.{amounts, nothing, ahead_of, step}
use Rattle.thermal.proofs.ruling.walking.pricing.Priced.walk_back.Goals as goal
use Rattle.thermal.proofs.ruling.walking.pricing.Priced.walk_back.Goals.{After-index-walk-may_start}

-- what stands at k, and what stands after t and at t once it is written there
read : (walk : List Ahead) (k : ℕ) (d : Ahead) → k < length walk → amounts (get_or walk k d) ≡ ahead_of walk k
read walk k d h = sym (get_or-map amounts walk k d nothing h)

kept : (walk : List Ahead) (t k : ℕ) (x : Ahead) → t < k → ahead_of (set walk t x) k ≡ ahead_of walk k
kept walk t k x h = ap (λ xs. get_or xs k nothing) (map-set amounts walk t x) ∙ get_or-set_other (map amounts walk) t k (amounts x) nothing (λ e. omega arith)

here : (walk : List Ahead) (t : ℕ) (x : Ahead) → t < length walk → ahead_of (set walk t x) t ≡ amounts x
here walk t x h = ap (λ xs. get_or xs t nothing) (map-set amounts walk t x) ∙ get_or-set_same (map amounts walk) t (amounts x) nothing (subst (λ n. t < n) (sym (length-map walk amounts)) h)

pub loop-period-init : goal.loop-period-init
loop-period-init c =
    let p = c.args.self.now in
    let n = length p.prices.net.now in
    let few = p.day.1 in
    let none : ahead_of c.ended-walk.result n ≡ nothing = ap (λ xs. get_or xs n nothing) c.ended-walk.ensures.nothing ∙ get_or-replicate 97 n nothing nothing (omega arith) in
    let w : Walked p.unit.record.now (row_prices_of p.prices) n n (ahead_of c.ended-walk.result) = walked_end _ _ _ _ (ap (λ a. a.run) none) (ap (λ a. a.on) none) (ap (λ a. a.off) none) in
    (subst (λ k. Walked p.unit.record.now (row_prices_of p.prices) n k (ahead_of c.ended-walk.result)) (sym c.periods-period.ensures) w, c.ended-walk.ensures.long)

module _ (c : After-index-walk-may_start) where
  -- the period, and what is told of it
  abbrev now : ℕ
  now = c.loop-period.period - 1

  abbrev told : Amounts
  told =
      let walk = c.loop-period.walk in
      step c.weights.result (get_or walk (now + 1) c.index-walk-period.result) (get_or walk c.free_from-may_stop.result c.index-walk-may_stop.result) (get_or walk c.free_from-may_start.result c.index-walk-may_start.result)

  -- the walk so far, from the period after this one on
  later : Walked c.args.self.now.unit.record.now (row_prices_of c.args.self.now.prices) (length c.args.self.now.prices.net.now) (now + 1) (ahead_of c.loop-period.walk)
  later =
      let p = c.args.self.now in
      let e : c.loop-period.period ≡ now + 1 = omega arith in
      subst (λ k. Walked p.unit.record.now (row_prices_of p.prices) (length p.prices.net.now) k (ahead_of c.loop-period.walk)) e c.loop-period.invariant.0

  -- and from this one on, where it tells that
  earlier : (ahead : ℕ → Amounts) → ((k : ℕ) → now < k → k ≤ length c.args.self.now.prices.net.now → ahead k ≡ ahead_of c.loop-period.walk k) → ahead now ≡ told → Walked c.args.self.now.unit.record.now (row_prices_of c.args.self.now.prices) (length c.args.self.now.prices.net.now) now ahead
  earlier ahead same at_now =
      let p = c.args.self.now in
      let u = p.unit.record.now in
      let n = length p.prices.net.now in
      let few = p.day.1 in
      let long = c.loop-period.invariant.1 in
      let walk = c.loop-period.walk in
      let w = c.weights.ensures in
      let next : amounts (get_or walk (now + 1) c.index-walk-period.result) ≡ ahead_of walk (now + 1) = read walk (now + 1) _ (omega arith) in
      let stop : amounts (get_or walk c.free_from-may_stop.result c.index-walk-may_stop.result) ≡ ahead_of walk (min (now + u.least_running) n) = read walk c.free_from-may_stop.result _ (omega arith) ∙ ap (ahead_of walk) c.free_from-may_stop.ensures in
      let start : amounts (get_or walk c.free_from-may_start.result c.index-walk-may_start.result) ≡ ahead_of walk (min (now + u.least_stopped) n) = read walk c.free_from-may_start.result _ (omega arith) ∙ ap (ahead_of walk) c.free_from-may_start.ensures in
      walked_step u (row_prices_of p.prices) n (ahead_of walk) now (omega arith) later p.unit.made.numbers.least_running.0 p.unit.made.numbers.least_stopped.0 ahead same
      (ap (λ a. a.run) at_now ∙ (λ j. w.run j +ℤ (next j).run))
      (ap (λ a. a.on) at_now ∙ (λ j. int_min (w.run j +ℤ (next j).on) (w.stop j +ℤ (start j).off)))
      (ap (λ a. a.off) at_now ∙ (λ j. int_min (next j).off (w.start j +ℤ running_to (next j) (stop j))))

  told_within : AheadWithin told
  told_within =
      let p = c.args.self.now in
      let ahead : ℕ → Amounts = λ k. cond (eqb k now) told (ahead_of c.loop-period.walk k) in
      let at_now : ahead now ≡ told = cond-true (eqb now now) _ _ (eq-eqb now now refl) in
      let w = earlier ahead (λ k h l. cond-false (eqb k now) _ _ (ne_eqb k now (λ e. omega arith))) at_now in
      subst AheadWithin at_now (cells_within p.unit.record.now p.unit.made (row_prices_of p.prices) p.fit (length p.prices.net.now) p.day.1 now ahead w now (omega arith) (omega arith))

pub before-requires : goal.before-requires
before-requires c = told_within c

pub loop-period-preserved : goal.loop-period-preserved
loop-period-preserved c =
    let i = (goal.at.loop-period-preserved c).After-index-walk-may_start in
    let walk = c.loop-period.walk in
    let x = c.before-in-loop-period in
    let few = c.args.self.now.day.1 in
    (earlier i (ahead_of (set walk (now i) x.result)) (λ k h l. kept walk (now i) k x.result h) (here walk (now i) x.result (omega (arith, c.loop-period.invariant.1)) ∙ x.ensures), length-set walk (now i) _ ∙ c.loop-period.invariant.1)
