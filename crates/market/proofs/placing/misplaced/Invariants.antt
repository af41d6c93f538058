use Rattle.std.proofs.Common.{◌≡◌}
use Rattle.market.specs.Fleet.{meaning_of}
use Rattle.market.specs.Placing.{NodesBelow}
use Rattle.market.proofs.placing.misplaced.Given as goal

abbrev pub invariant-loop-row : goal.invariant-loop-row
invariant-loop-row g l =
    NodesBelow (meaning_of (g.F.Fleet.periods l.fleet) (g.F.Fleet.size l.fleet) (g.F.Fleet.node l.fleet) (g.F.Fleet.verdict l.fleet) (g.F.Fleet.floor l.fleet)) l.nodes l.row
    × (l.row-end ≡ g.F.Fleet.size l.fleet)
