use Rattle.std.proofs.Common.{◌≡◌, ◌+◌, ℤ, pos, ◌-ℤ◌, ◌≤ℤ◌, ◌∙◌, arith, w32, SFits, to_z, of_z, rules}
use Rattle.std.specs.Int.{int_min, int_max}
use Rattle.std.proofs.lemmas.Int.{ints, clamps, to_z-of_z}
use Rattle.market.specs.Scans.{UpTo}
use Rattle.market.proofs.Ints.{reread}
use Rattle.kinds.specs.Curves.{below, end}
use Rattle.kinds.proofs.CurveTests.{made_so}
use Rattle.kinds.proofs.curve.costs.Segment.below.Goals as goal
use Rattle.kinds.proofs.curve.costs.Segment.below.Goals.{After-clamp}

pub clamp-requires : goal.clamp-requires
clamp-requires c =
    let m = made_so c.args.self.now.curve.now.numbers c.args.self.now.curve.now.made in
    let up = m.rises.ends c.args.self.now.number c.args.self.now.within in
    let from = m.ranges.ends c.args.self.now.number (omega arith) in
    let to = m.ranges.ends (c.args.self.now.number + 1) (omega arith) in
    omega (arith, ints)

-- an output taken into a segment, and the part that lies below it
part : (from to p x : ℤ) → UpTo 20000 from → UpTo 20000 to → from ≤ℤ to → SFits w32 p → x ≡ int_max (to_z w32 (of_z w32 from)) (int_min (to_z w32 (of_z w32 p)) (to_z w32 (of_z w32 to)))
    → SFits w32 (to_z w32 (of_z w32 x) -ℤ to_z w32 (of_z w32 from)) × (to_z w32 (of_z w32 (to_z w32 (of_z w32 x) -ℤ to_z w32 (of_z w32 from))) ≡ int_max (pos 0) (int_min p to -ℤ from))
part from to p x f t up fits e =
    let same : x ≡ int_max from (int_min p to) = e ∙ (λ j. int_max (reread 2000000000 from (omega arith) (omega (arith, ints), omega (arith, ints)) j) (int_min (to_z-of_z w32 p fits j) (reread 2000000000 to (omega arith) (omega (arith, ints), omega (arith, ints)) j))) in
    plain x same
  where
    kept : (x : ℤ) → from ≤ℤ x → x ≤ℤ to → {y : ℤ} → x -ℤ from ≡ y → SFits w32 (to_z w32 (of_z w32 x) -ℤ to_z w32 (of_z w32 from)) × (to_z w32 (of_z w32 (to_z w32 (of_z w32 x) -ℤ to_z w32 (of_z w32 from))) ≡ y)
    kept x low high value = let same : to_z w32 (of_z w32 (to_z w32 (of_z w32 x) -ℤ to_z w32 (of_z w32 from))) ≡ x -ℤ from = omega (arith, ints) in (omega (arith, ints), same ∙ value)

    plain : (x : ℤ) → x ≡ int_max from (int_min p to) → SFits w32 (to_z w32 (of_z w32 x) -ℤ to_z w32 (of_z w32 from)) × (to_z w32 (of_z w32 (to_z w32 (of_z w32 x) -ℤ to_z w32 (of_z w32 from))) ≡ int_max (pos 0) (int_min p to -ℤ from))
    plain x e =
        let low : from ≤ℤ x = omega (arith, ints, clamps) in
        let high : x ≤ℤ to = omega (arith, ints, clamps) in
        let value : x -ℤ from ≡ int_max (pos 0) (int_min p to -ℤ from) = omega (arith, ints, clamps) in
        kept x low high value

told : (c : After-clamp) → SFits w32 (to_z w32 (of_z w32 c.clamp.result) -ℤ to_z w32 (of_z w32 (end c.args.self.now.curve.now.numbers c.args.self.now.number))) × (to_z w32 (of_z w32 (to_z w32 (of_z w32 c.clamp.result) -ℤ to_z w32 (of_z w32 (end c.args.self.now.curve.now.numbers c.args.self.now.number)))) ≡ int_max (pos 0) (int_min c.args.output.0 (end c.args.self.now.curve.now.numbers (c.args.self.now.number + 1)) -ℤ end c.args.self.now.curve.now.numbers c.args.self.now.number))
told c =
    let m = made_so c.args.self.now.curve.now.numbers c.args.self.now.curve.now.made in
    let up = m.rises.ends c.args.self.now.number c.args.self.now.within in
    let fits : SFits w32 c.args.output.0 = search rules in
    part _ _ _ _ (m.ranges.ends c.args.self.now.number (omega arith)) (m.ranges.ends (c.args.self.now.number + 1) (omega arith)) (omega (arith, ints)) fits c.clamp.ensures.value

pub overflow_sub-result : goal.overflow_sub-result
overflow_sub-result c = (told c).0

pub returns : goal.returns
unfolding below
returns c = (told c).1
