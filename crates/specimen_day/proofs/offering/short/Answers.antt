use Rattle.std.proofs.Common.{Err, sym, ap, ◌∙◌, subst}
use Rattle.std.proofs.lemmas.Result.{err_from_is_err_and}
use Rattle.vendor.specs.Files.{answer, tables_after}
use Rattle.specimen_day.specs.Specimen as Specimen
use Rattle.specimen_day.specs.Specimen.{shape, Answered, faulty}
use Rattle.specimen_day.proofs.offering.short.Goals as goal

pub returns-in_err-read : goal.returns-in_err-read
returns-in_err-read c =
    let p = err_from_is_err_and c.from_residual.result c.from_residual.ensures.1 in
    subst (Answered c.args.file.now) (sym (p.1 ∙ ap Err p.2))
    (faulty c.in_err-read.field-0.0 (sym (c.in_err-read.ensures.answer ∙ ap (answer shape c.args.file.now) c.empty-cells.ensures)))

pub returns : goal.returns
returns c =
    Specimen.taken c.in_ok-read.field-0 _ c.held.result (sym (c.in_ok-read.ensures.answer ∙ ap (answer shape c.args.file.now) c.empty-cells.ensures))
    (sym (c.in_ok-read.ensures.held ∙ ap (tables_after shape c.args.file.now) c.empty-cells.ensures)) c.held.ensures.plan.answer c.held.ensures.prices.answer
