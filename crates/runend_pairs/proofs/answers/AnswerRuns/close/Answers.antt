use Rattle.runend_pairs.proofs.Grown.{blanks_pushed, rows_pushed}
use Rattle.runend_pairs.proofs.answers.AnswerRuns.close.Goals as goal

pub returns-clause-items : goal.returns-clause-items
returns-clause-items g c =
    let own = c.args.self.now in
    rw (c.in_ok-push-2.ensures.items, c.in_ok-append.ensures.ok, c.is_some.ensures)
    (rows_pushed g.K.Stored.shown own.items.items own.flags c.item_of.result own.last c.requires c.item_of.ensures.item)

pub returns-clause-blank : goal.returns-clause-blank
returns-clause-blank g c = λ before.
    let own = c.args.self.now in
    rw (c.in_ok-push-2.ensures.items, c.in_ok-append.ensures.ok, c.is_some.ensures)
    (blanks_pushed g.K.Stored.shown g.K.Stored.blank_value own.items.items own.flags c.item_of.result own.last c.requires c.item_of.ensures.blank before)
