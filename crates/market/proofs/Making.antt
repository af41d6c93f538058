-- A day's questions, by tests and by what they mean. Assumes nothing.
use Rattle.std.proofs.Common.{◌≡◌, ℕ, ◌+◌, ◌/◌, ◌%◌, true, false, ◌&&◌, leb, length, pos, neg_ℤ, Decides, sym, subst, mod-lt, div-add-mod'}
use Rattle.std.proofs.lemmas.Bool.{and_parts, and_from, leb-true, le-leb, eqb-true, eq-eqb, both_ways}
use Rattle.market.specs.declared.day.Day.{Day}
use Rattle.market.specs.declared.day_fault.DayFault.TheVariants.{Shape, Lengths, Load, Factor}
use Rattle.market.specs.Days as Days
use Rattle.market.specs.Days.{Fits, Numbers, ShapeFits, LengthsFit, Made, UpToLoads, UpToFactors, UpToOrder, Refused, load, factor, shape_test, lengths_test, made_test, numbers_of}
use Rattle.market.specs.Scans.{FirstOut, Ordered}
use Rattle.market.proofs.Scanning.{decides_all, decides_ordered}

module _ (d : Numbers) where
  pub decides_shape : Decides (shape_test d) (ShapeFits d)
  decides_shape = (
    λ e.
        let p = and_parts _ _ e in
        let q = and_parts (leb 1 d.periods) _ p.0 in
        let r = and_parts (leb 1 d.nodes && leb d.nodes 16) _ p.1 in
        let s = and_parts (leb 1 d.nodes) _ r.0 in
        record { periods = (leb-true _ _ q.0, leb-true _ _ q.1); nodes = (leb-true _ _ s.0, leb-true _ _ s.1); lines = leb-true _ _ r.1 },
    λ h. and_from _ _ (and_from _ _ (le-leb _ _ h.periods.0) (le-leb _ _ h.periods.1)) (and_from _ _ (and_from _ _ (le-leb _ _ h.nodes.0) (le-leb _ _ h.nodes.1)) (le-leb _ _ h.lines)),
  )

  pub decides_lengths : Decides (lengths_test d) (LengthsFit d)
  decides_lengths = (
    λ e.
        let p = and_parts _ _ e in
        let q = and_parts _ _ p.1 in
        let r = and_parts _ _ q.1 in
        record { loads = eqb-true _ _ p.0; factors = eqb-true _ _ q.0; lower = eqb-true _ _ r.0; upper = eqb-true _ _ r.1 },
    λ h. and_from _ _ (eq-eqb _ _ h.loads) (and_from _ _ (eq-eqb _ _ h.factors) (and_from _ _ (eq-eqb _ _ h.lower) (eq-eqb _ _ h.upper))),
  )

  pub made_so : made_test d ≡ true → Made d
  made_so e =
      let a = and_parts (shape_test d) _ e in
      let b = and_parts (lengths_test d) _ a.1 in
      let c = and_parts _ _ b.1 in
      let f = and_parts _ _ c.1 in
      let g = and_parts _ _ f.1 in
      let h = and_parts _ _ g.1 in
      record {
        shape = decides_shape.0 a.0;
        lengths = decides_lengths.0 b.0;
        loads = (decides_all _ _ d.loads).0 c.0;
        factors = (decides_all _ _ d.factors).0 f.0;
        lower = (decides_all _ _ d.lower).0 g.0;
        upper = (decides_all _ _ d.upper).0 h.0;
        ordered = (decides_ordered d.lower d.upper d.lines).0 h.1;
      }

  pub made_told : Made d → made_test d ≡ true
  made_told m =
      and_from (shape_test d) _ (decides_shape.1 m.shape) (and_from (lengths_test d) _ (decides_lengths.1 m.lengths)
      (and_from _ _ ((decides_all _ _ d.loads).1 m.loads) (and_from _ _ ((decides_all _ _ d.factors).1 m.factors)
      (and_from _ _ ((decides_all _ _ d.lower).1 m.lower) (and_from _ _ ((decides_all _ _ d.upper).1 m.upper)
      ((decides_ordered d.lower d.upper d.lines).1 m.ordered))))))

  -- a cell by its item and its place in the item
  pub refused_load : UpToLoads d → (i : ℕ) → FirstOut (neg_ℤ (pos 40000)) (pos 40000) d.loads i → Refused d (Load (i / d.periods) (i % d.periods + 1))
  refused_load h i out =
      load h (i / d.periods) (i % d.periods) (mod-lt i h.shape.periods.0) (subst (FirstOut _ _ d.loads) (sym (div-add-mod' i d.periods)) out)

  pub refused_factor : UpToFactors d → (i : ℕ) → FirstOut (neg_ℤ (pos 1000)) (pos 1000) d.factors i → Refused d (Factor (i / d.nodes))
  refused_factor h i out =
      factor h (i / d.nodes) (i % d.nodes) (mod-lt i h.before.shape.nodes.0) (subst (FirstOut _ _ d.factors) (sym (div-add-mod' i d.nodes)) out)

  -- the questions answered so far, one after another
  pub refused_shape : false ≡ shape_test d → Refused d Shape
  refused_shape e = Days.shape (λ h. both_ways (shape_test d) (sym e) (decides_shape.1 h))

  pub refused_lengths : true ≡ shape_test d → false ≡ lengths_test d → Refused d Lengths
  refused_lengths e f = Days.lengths (decides_shape.0 (sym e)) (λ h. both_ways (lengths_test d) (sym f) (decides_lengths.1 h))

  pub to_loads : true ≡ shape_test d → true ≡ lengths_test d → UpToLoads d
  to_loads e f = record { shape = decides_shape.0 (sym e); lengths = decides_lengths.0 (sym f) }

  pub fits : UpToOrder d → Ordered d.lower d.upper (length d.lower) → Fits d
  fits h ordered =
      let upper = h.before in
      let lower = upper.before in
      let loads = lower.before.before in
      let m : Made d = record {
        shape = loads.shape;
        lengths = loads.lengths;
        loads = lower.before.loads;
        factors = lower.factors;
        lower = upper.lower;
        upper = h.upper;
        ordered = subst (Ordered d.lower d.upper) loads.lengths.lower ordered;
      } in
      record { test = made_told m; made = m }

-- what a day knows of its numbers
pub made_of : (day : Day) → Made (numbers_of day.numbers)
made_of day = made_so (numbers_of day.numbers) day.made
