use Rattle.std.proofs.Common.{◌≡◌, Ok, None, rules, sym, ap, ◌∙◌}
use Rattle.vendor.specs.Walks.{last_after, rows_ahead}
use Rattle.vendor.proofs.Filling.{writing_none, writing_more, writing_all, filling_sized, names_on, same_places_none, same_places_on}
use Rattle.vendor.proofs.Passes.{ReadOn, read_on, read_out}
use Rattle.vendor.proofs.tables.reading.fill.Goals as goal
use Rattle.vendor.proofs.tables.reading.fill.Goals.{In-Ok-Some}

this : (c : In-Ok-Some) → ReadOn c.args.shape.now c.loop-entry.reader.last (rows_ahead c.loop-entry.reader) c.in-Ok-Some.entry
this c = read_on _ _ _ _ (sym (c.in-Ok-Some.is ∙ ap Ok c.in-Ok-Some.field-0-is) ∙ c.next_entry.ensures.answer)

pub loop-entry-init : goal.loop-entry-init
loop-entry-init c =
    (writing_none _ _ _ _ _ _ c.requires.0 c.requires.1 c.new-reader.ensures.last c.new-reader.ensures.rows c.clear.ensures.held, same_places_none _)

pub write-requires : goal.write-requires
write-requires c = (names_on _ _ _ _ (this (goal.at.write-requires c).In-Ok-Some), filling_sized _ _ _ _ c.loop-entry.invariant.0.tables)

pub loop-entry-preserved : goal.loop-entry-preserved
loop-entry-preserved c =
    let r = this (goal.at.loop-entry-preserved c).In-Ok-Some in
    let moved = c.in-Ok-Some.ensures.last ∙ ap (λ o. last_after c.loop-entry.reader.last (Ok o)) c.in-Ok-Some.field-0-is in
    (writing_more _ _ _ _ _ _ _ _ c.in-Ok-Some.entry c.loop-entry.invariant.0 r moved c.next_entry.ensures.rows c.write.ensures.held, same_places_on _ _ _ c.loop-entry.invariant.1 c.write.ensures.places)

pub returns-in_default-clause-held : goal.returns-in_default-clause-held
returns-in_default-clause-held c =
    let none : c.in_default.field-0 ≡ None = search rules in
    writing_all _ _ _ _ _ c.loop-entry.invariant.0 (read_out _ _ _ (sym (c.in_default.is ∙ ap Ok none) ∙ c.next_entry.ensures.answer))
