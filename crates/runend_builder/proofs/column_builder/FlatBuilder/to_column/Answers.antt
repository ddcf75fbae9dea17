use Rattle.std.proofs.Common.{◌≡◌, ◌∙◌, ap}
use Rattle.column_core.specs.Computed.{IsComputedLeaf}
use Rattle.column_core.specs.FlatColumn.{leaf_of}
use Rattle.column_core.specs.Leaf.{leaf_dtype, single_rows}
use Rattle.column_core.specs.Value.{PlainColumn}
use Rattle.runend_builder.specs.Items.{stored_in}
use Rattle.runend_builder.proofs.Grown.{on_column}
use Rattle.runend_builder.proofs.column_builder.FlatBuilder.to_column.Goals as goal

pub returns-clause-rows : goal.returns-clause-rows
returns-clause-rows g c =
    let own = c.self.inside in
    on_column (λ column. single_rows (leaf_of column) ≡ c.args.self.now.rows) (stored_in own.items) own.flags.items own.nullability c.column_of.result c.self.invariant
    (rw c.deref.ensures.value at c.column_of.ensures.column) (λ column shown. shown.rows ∙ ap (λ (p : PlainColumn). p.rows) c.self.view_is)

pub returns-clause-dtype : goal.returns-clause-dtype
returns-clause-dtype g c =
    let own = c.self.inside in
    on_column (λ column. leaf_dtype (leaf_of column) ≡ c.args.self.now.dtype) (stored_in own.items) own.flags.items own.nullability c.column_of.result c.self.invariant
    (rw c.deref.ensures.value at c.column_of.ensures.column) (λ column shown. shown.typed ∙ ap (λ (p : PlainColumn). p.dtype) c.self.view_is)

pub returns-clause-computed : goal.returns-clause-computed
returns-clause-computed g c =
    let own = c.self.inside in
    on_column (λ column. IsComputedLeaf (leaf_of column)) (stored_in own.items) own.flags.items own.nullability c.column_of.result c.self.invariant
    (rw c.deref.ensures.value at c.column_of.ensures.column) (λ column shown. shown.computed)
