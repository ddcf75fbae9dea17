use Rattle.column_core.specs.FlatColumn.{leaf_of}
use Rattle.runend_array.specs.Array.{column_of}
use Rattle.runend_array.specs.Column.{index_of}
use Rattle.runend_array.proofs.NullLists.{rows-of_null_lists, dtype-of_null_lists, index_count-of_zeros}
use Rattle.runend_array.proofs.written.null_lists.Goals as goal

pub returns-in-Ok-clause-rows : goal.returns-in-Ok-clause-rows
returns-in-Ok-clause-rows g c =
    let offsets = column_of c.in-Ok.offsets in
    rows-of_null_lists c.new_unchecked.result (leaf_of c.in_ok-elements.elements.value) (index_of offsets) (index_of (column_of c.in-Ok.sizes)) c.args.count
    c.new_unchecked.ensures (index_count-of_zeros offsets c.args.count c.in-Ok.ensures.offsets)

pub returns-in-Ok-clause-dtype : goal.returns-in-Ok-clause-dtype
returns-in-Ok-clause-dtype g c =
    let elements = leaf_of c.in_ok-elements.elements.value in
    dtype-of_null_lists c.new_unchecked.result elements (index_of (column_of c.in-Ok.offsets)) (index_of (column_of c.in-Ok.sizes)) c.args.element
    c.new_unchecked.ensures c.in_ok-elements.ensures.dtype
