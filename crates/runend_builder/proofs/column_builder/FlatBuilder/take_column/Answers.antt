use Rattle.std.proofs.Common.{◌≡◌, ◌∙◌, [], ap}
use Rattle.column_core.specs.FlatColumn.{leaf_of}
use Rattle.column_core.specs.Value.{PlainColumn}
use Rattle.runend_builder.specs.Items.{stored_in}
use Rattle.runend_builder.proofs.Grown.{shown_of_column, taken_grown}
use Rattle.runend_builder.proofs.column_builder.FlatBuilder.take_column.Goals as goal

pub invariant_of-self-2 : goal.invariant_of-self-2
invariant_of-self-2 g c =
    let own = c.self.inside in
    let left = c.in_ok-column.ensures in
    let no_flags : c.replace.new.dest.items ≡ [] = (λ i. (c.replace.ensures.after i).items) ∙ c.new.ensures.items in
    (taken_grown (stored_in own.items) (stored_in c.taken_column.new.items) c.replace.new.dest.items own.nullability left.none left.sound left.typed no_flags).0

pub returns-clause-rows : goal.returns-clause-rows
returns-clause-rows g c =
    let own = c.self.inside in
    let shown = shown_of_column (stored_in own.items) own.flags.items own.nullability (leaf_of c.in_ok-column.column) c.self.invariant (rw c.deref.ensures.value at c.in_ok-column.ensures.column) in
    shown.rows ∙ ap (λ (p : PlainColumn). p.rows) c.self.view_is

pub returns-clause-dtype : goal.returns-clause-dtype
returns-clause-dtype g c =
    let own = c.self.inside in
    let shown = shown_of_column (stored_in own.items) own.flags.items own.nullability (leaf_of c.in_ok-column.column) c.self.invariant (rw c.deref.ensures.value at c.in_ok-column.ensures.column) in
    shown.typed ∙ ap (λ (p : PlainColumn). p.dtype) c.self.view_is

pub returns-clause-computed : goal.returns-clause-computed
returns-clause-computed g c =
    let own = c.self.inside in
    (shown_of_column (stored_in own.items) own.flags.items own.nullability (leaf_of c.in_ok-column.column) c.self.invariant (rw c.deref.ensures.value at c.in_ok-column.ensures.column)).computed

pub returns-clause-empty : goal.returns-clause-empty
returns-clause-empty g c =
    let own = c.self.inside in
    let left = c.in_ok-column.ensures in
    let no_flags : c.replace.new.dest.items ≡ [] = (λ i. (c.replace.ensures.after i).items) ∙ c.new.ensures.items in
    (taken_grown (stored_in own.items) (stored_in c.taken_column.new.items) c.replace.new.dest.items own.nullability left.none left.sound left.typed no_flags).1
