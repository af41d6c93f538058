use Rattle.std.proofs.Common.{◌*◌, ◌/◌, rules}
use Rattle.market.proofs.Tables.{from_one}
use Rattle.market.proofs.label.hour.Goals as goal

pub returns : goal.returns
returns c = search (rules, from_one (λ t. 15 * t / 60))
