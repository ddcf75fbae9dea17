use Rattle.std.proofs.Common.{◌≡◌, ◌∙◌, ◌++◌, drop, sym, ap}
use Rattle.column_base.specs.ValidityForm.{ByBits, flags}
use Rattle.column_core.specs.FlatView.{leaf_in}
use Rattle.column_core.specs.Leaf.{leaf_count, leaf_validity, single_rows}
use Rattle.column_core.specs.Value.{PlainColumn}
use Rattle.runend_builder.specs.Items.{AreAppended, stored_in, with_validity}
use Rattle.runend_builder.proofs.Grown.{grown_next, on_any, where_ok}
use Rattle.runend_builder.proofs.column_builder.FlatBuilder.append.Goals as goal

pub invariant_of-self-else-is_err : goal.invariant_of-self-else-is_err
invariant_of-self-else-is_err g c =
    let own = c.self.inside in
    let part = leaf_in c.args.column in
    let grown = stored_in c.append_items-appended.new.items in
    let next = c.append_flags.new.flags.items in
    let pushed : next ≡ own.flags.items ++ drop c.args.start (flags (leaf_validity part) (leaf_count part)) =
    c.in_ok-append_flags.ensures.flags ∙ (λ i. own.flags.items ++ drop c.args.start (flags (c.validity.ensures.form i) ((c.len.ensures ∙ c.validity.ensures.rows) i))) in
    let appended = where_ok (AreAppended (stored_in own.items) part c.args.start grown) c.append_items-appended.result c.is_err.result c.append_items-appended.ensures.items c.is_err.ensures.value c.if-is_err.false in
    (grown_next (stored_in own.items) part grown own.flags.items next c.args.start own.nullability c.self.invariant appended c.append_items-appended.ensures.sound c.requires.computed c.validity.ensures.counted
    (c.requires.typed ∙ sym (ap (λ (p : PlainColumn). p.dtype) c.self.view_is)) pushed).0

pub returns-else-is_err-clause-rows : goal.returns-else-is_err-clause-rows
returns-else-is_err-clause-rows g c =
    let own = c.self.inside in
    let part = leaf_in c.args.column in
    let grown = stored_in c.append_items-appended.new.items in
    let next = c.append_flags.new.flags.items in
    let pushed : next ≡ own.flags.items ++ drop c.args.start (flags (leaf_validity part) (leaf_count part)) =
    c.in_ok-append_flags.ensures.flags ∙ (λ i. own.flags.items ++ drop c.args.start (flags (c.validity.ensures.form i) ((c.len.ensures ∙ c.validity.ensures.rows) i))) in
    let appended = where_ok (AreAppended (stored_in own.items) part c.args.start grown) c.append_items-appended.result c.is_err.result c.append_items-appended.ensures.items c.is_err.ensures.value c.if-is_err.false in
    let all = grown_next (stored_in own.items) part grown own.flags.items next c.args.start own.nullability c.self.invariant appended c.append_items-appended.ensures.sound c.requires.computed c.validity.ensures.counted
    (c.requires.typed ∙ sym (ap (λ (p : PlainColumn). p.dtype) c.self.view_is)) pushed in
    on_any (single_rows (with_validity grown (ByBits next)) ≡ c.args.self.now.rows ++ drop c.args.start (single_rows part)) c.append_items-appended.result
    (all.1 ∙ (λ i. (c.self.view_is i).rows ++ drop c.args.start (single_rows part)))

pub returns-else-is_err-clause-dtype : goal.returns-else-is_err-clause-dtype
returns-else-is_err-clause-dtype g c =
    let own = c.self.inside in
    let part = leaf_in c.args.column in
    let grown = stored_in c.append_items-appended.new.items in
    let next = c.append_flags.new.flags.items in
    let pushed : next ≡ own.flags.items ++ drop c.args.start (flags (leaf_validity part) (leaf_count part)) =
    c.in_ok-append_flags.ensures.flags ∙ (λ i. own.flags.items ++ drop c.args.start (flags (c.validity.ensures.form i) ((c.len.ensures ∙ c.validity.ensures.rows) i))) in
    let appended = where_ok (AreAppended (stored_in own.items) part c.args.start grown) c.append_items-appended.result c.is_err.result c.append_items-appended.ensures.items c.is_err.ensures.value c.if-is_err.false in
    let all = grown_next (stored_in own.items) part grown own.flags.items next c.args.start own.nullability c.self.invariant appended c.append_items-appended.ensures.sound c.requires.computed c.validity.ensures.counted
    (c.requires.typed ∙ sym (ap (λ (p : PlainColumn). p.dtype) c.self.view_is)) pushed in
    all.2 ∙ ap (λ (p : PlainColumn). p.dtype) c.self.view_is
