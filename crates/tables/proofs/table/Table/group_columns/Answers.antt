use Rattle.std.proofs.Common.{ℕ, ap, drop, map, subst, sym}
use Rattle.std.specs.List.{AllZip}
use Rattle.std.proofs.lemmas.Result.{IfOk-weaker}
use Rattle.row_groups.specs.Groups.{AreEndsOf}
use Rattle.typed_columns.specs.Typed.{typed_of}
use Rattle.tables.specs.Grouping.{IsAnswerColumn, asked_of}
use Rattle.tables.specs.Tables.{AreEven, TableForm}
use Rattle.tables.proofs.AnswerColumns.{heads_first, heads_long}
use Rattle.tables.proofs.table.Table.group_columns.Goals as goal

pub heads_of_each-requires-clause-even : goal.heads_of_each-requires-clause-even
heads_of_each-requires-clause-even g c = subst (AreEven (map typed_of c.args.keys.now)) (sym (ap (λ (t : TableForm). t.count) c.self.view_is)) c.requires.even

pub heads_of_each-requires-clause-ends : goal.heads_of_each-requires-clause-ends
heads_of_each-requires-clause-ends g c = subst (λ (n : ℕ). AreEndsOf n c.args.ends.now) (sym (ap (λ (t : TableForm). t.count) c.self.view_is)) c.requires.ends

pub returns-clause-heads : goal.returns-clause-heads
returns-clause-heads g c =
    let heads = c.in_ok-heads.heads.items in
    let begun = c.in_ok-heads.ensures.heads in
    IfOk-weaker c.with_answers.result _ _ (λ made stay. heads_first c.args.ends.now c.args.keys.now heads made.items begun stay) c.with_answers.ensures.heads

pub returns-clause-answers : goal.returns-clause-answers
returns-clause-answers g c =
    let same = heads_long c.args.ends.now c.args.keys.now c.in_ok-heads.heads.items c.in_ok-heads.ensures.heads in
    IfOk-weaker c.with_answers.result _ _ (λ made zipped. subst (λ (n : ℕ). AllZip (IsAnswerColumn c.args.self.now c.args.ends.now) (map asked_of c.args.asked.now) (map typed_of (drop n made.items))) same zipped) c.with_answers.ensures.answers
