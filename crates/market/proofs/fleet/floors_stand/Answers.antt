use Rattle.market.proofs.Undercut.{no_plan_undercuts}
use Rattle.market.proofs.fleet.floors_stand.Goals as goal

pub returns : goal.returns
returns c = no_plan_undercuts
