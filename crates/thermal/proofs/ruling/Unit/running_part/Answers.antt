use Rattle.std.proofs.Common.{◌≡◌, ap, ◌∙◌, arith}
use Rattle.std.proofs.lemmas.Int.{ints}
use Rattle.kinds.specs.Curves.{running_cost}
use Rattle.kinds.proofs.Segments.{running_cost_within}
use Rattle.kinds.proofs.Units.{no_load_within}
use Rattle.thermal.proofs.ruling.Unit.running_part.Goals as goal

pub add-requires : goal.add-requires
add-requires c =
    let u = c.args.self.now.record.now in
    let e : c.running_cost.result.0 ≡ running_cost u.curve c.args.output.0 = c.running_cost.ensures ∙ ap (λ n. running_cost n c.args.output.0) c.curve.ensures in
    let a = running_cost_within u.curve c.args.self.now.made.curve c.args.output.0 in
    let b = no_load_within u c.args.self.now.made in
    omega (arith, ints, c.grains.ensures)
