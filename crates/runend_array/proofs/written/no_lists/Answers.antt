use Rattle.std.proofs.Common.{◌∙◌, ap}
use Rattle.column_base.specs.Validity.{form_of}
use Rattle.column_base.specs.ValidityForm.{nullability_in}
use Rattle.column_core.specs.FlatColumn.{leaf_of}
use Rattle.runend_windows.proofs.WrittenConstants.{nullability-without_nulls}
use Rattle.runend_array.specs.Array.{column_of}
use Rattle.runend_array.specs.Column.{index_of}
use Rattle.runend_array.specs.Lists.{lists_with}
use Rattle.runend_array.proofs.NullLists.{dtype-of_no_lists}
use Rattle.runend_array.proofs.written.no_lists.Goals as goal

pub returns-in-Ok-clause-dtype : goal.returns-in-Ok-clause-dtype
returns-in-Ok-clause-dtype g c =
    let elements = leaf_of c.in_ok-elements.elements.value in
    let offsets = index_of (column_of c.in-Ok.offsets) in
    let sizes = index_of (column_of c.in-Ok.sizes) in
    dtype-of_no_lists c.new_unchecked.result elements offsets sizes (form_of c.no_null-rows.result) c.args.element c.args.nullability
    (c.new_unchecked.ensures ∙ ap (lists_with elements offsets sizes) c.rows_of_validity-validity.ensures.form)
    c.in_ok-elements.ensures.dtype
    (ap nullability_in c.no_null-rows.ensures ∙ nullability-without_nulls c.args.nullability)
