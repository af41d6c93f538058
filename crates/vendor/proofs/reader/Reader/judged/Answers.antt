use Rattle.std.proofs.Common.{Ok, ap, ◌∙◌, subst}
use Rattle.vendor.specs.Rows.{follows, place_of}
use Rattle.vendor.specs.Walks.{HandedOn, rows_ahead}
use Rattle.vendor.proofs.Questions.{order_answer}
use Rattle.vendor.proofs.reader.Reader.judged.Goals as goal

pub returns-else-may_follow-clause-answer : goal.returns-else-may_follow-clause-answer
returns-else-may_follow-clause-answer c =
    order_answer _ _ _ c.in-Some.row c.in_ok-entry.entry (subst (λ o. HandedOn (rows_ahead c.args.self.now) (Ok o)) c.in-Some.is c.in_ok-row.ensures.answer) c.in_ok-entry.ensures
    (c.if-may_follow.ensures ∙ ap (λ l. follows l (place_of c.in_ok-entry.entry)) c.next_row.ensures.kept.last)
