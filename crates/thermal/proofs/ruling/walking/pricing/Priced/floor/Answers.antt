use Rattle.std.proofs.Common.{◌∙◌}
use Rattle.market.specs.Fleet.{row_prices_of}
use Rattle.kinds.proofs.Walking.{floor_walked}
use Rattle.thermal.specs.Ahead.{ahead_of}
use Rattle.thermal.proofs.ruling.walking.pricing.Priced.floor.Goals as goal

pub returns : goal.returns
returns c = let p = c.args.self.now in c.weight_of_day.ensures ∙ floor_walked p.unit.record.now (row_prices_of p.prices) _ (ahead_of c.walk_back.result) c.walk_back.ensures p.unit.made.numbers.mark
