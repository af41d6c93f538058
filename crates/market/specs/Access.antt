-- A day's numbers by node, line and period. Assumes nothing.
use Rattle.std.specs.Prelude.{ℕ, ◌-◌, cond, ◌&&◌, List, ℤ, Some, None, Option, nat_le, nat_lt}
use Rattle.measures.specs.declared.Factor.{Factor}
use Rattle.measures.specs.declared.Tenths.{Tenths}
use Rattle.market.specs.Clearing.{load, factor}
use Rattle.market.specs.Days.{Numbers}
use Rattle.market.specs.Scans.{at}

abbrev pub load_told : Numbers → ℕ → ℕ → Option Tenths
load_told d k t = cond (nat_lt k d.nodes && (nat_le 1 t && nat_le t d.periods)) (Some (record { 0 = load d k (t - 1) })) None

abbrev pub factor_told : Numbers → ℕ → ℕ → Option Factor
factor_told d l k = cond (nat_lt l d.lines && nat_lt k d.nodes) (Some (record { 0 = factor d l k })) None

abbrev pub limit_told : List ℤ → ℕ → ℕ → Option Tenths
limit_told limits n l = cond (nat_lt l n) (Some (record { 0 = at limits l })) None
