use Rattle.std.proofs.Common.{◌≡◌, Some, Ok, rules, arith, sym, ◌∙◌}
use Rattle.vendor.proofs.Passes.{read_on, row_small}
use Rattle.vendor.proofs.tables.reading.check.Goals as goal

pub overflow_add-row : goal.overflow_add-row
overflow_add-row c =
    let is : c.next_entry.result ≡ Ok (Some c.in-Some.entry) = search rules in
    let few = row_small _ _ _ _ _ _ _ c.loop-entry.invariant (read_on _ _ _ _ (sym is ∙ c.next_entry.ensures.answer)) in
    omega arith
