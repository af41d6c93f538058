use Rattle.std.proofs.Common.{sym, ◌∙◌, arith}
use Rattle.market.specs.Fleet.{Priced, row_prices_of}
use Rattle.kinds.specs.Thermal.{units}
use Rattle.kinds.specs.ThermalTables.{table}
use Rattle.kinds.proofs.Asking.{asked_priced}
use Rattle.kinds.proofs.ThermalTables.{made_so}
use Rattle.kinds.proofs.Units.{prices_fit}
use Rattle.thermal.proofs.table.Thermal.priced.Goals as goal

pub invariant_of-priced : goal.invariant_of-priced
invariant_of-priced c =
    let t = c.args.self.now in
    let q = row_prices_of c.args.prices.now in
    let m = units t.periods t.units.now in
    let day = (made_so (table t.periods t.units.now) t.made).day in
    let priced : Priced m q = asked_priced m c.args.row q _ c.in_ok-prices_asked.ensures in
    record {
      day = (omega (arith, priced.nets, day.0), omega (arith, priced.nets, day.1));
      rises = priced.rises ∙ sym priced.nets;
      falls = priced.falls ∙ sym priced.nets;
      fit = prices_fit m q priced;
    }
