use Rattle.std.proofs.Common.{◌≡◌, ◌<◌, ◌≤◌, Some, length, arith, ap, ◌∙◌, sym}
use Rattle.std.specs.Prelude.{slice_get}
use Rattle.column_core.specs.FlatView.{leaf_in}
use Rattle.column_core.specs.Leaf.{leaf_rows}
use Rattle.runend_array.specs.Array.{column_of, rows}
use Rattle.runend_array.specs.Column.{column_rows, end_numbers, runs_of}
use Rattle.runend_array.specs.Lists.{list_at, list_count, list_rows}
use Rattle.runend_windows.proofs.Lists.{slice_get-replicate}
use Rattle.runend_array.proofs.FlatForms.{IsLeaf-of_rest}
use Rattle.runend_array.proofs.ListRows.{slice_get-made, length-list_rows}
use Rattle.runend_windows.proofs.RunAt.{run_of_row_within}
use Rattle.runend_windows.proofs.RunRows.{length-run_rows, slice_get-run_rows_of_window}
use Rattle.runend_array.proofs.Refusals.{reason_of_refusal, value_is_no_refusal, within_is_no_refusal, within_is_no_refusal-flat}
use Rattle.runend_array.proofs.+scalar_at.Goals as goal

pub array::RunEndArray::row_at-unreachable-requires : goal.array::RunEndArray::row_at-unreachable-requires
array::RunEndArray::row_at-unreachable-requires g t c =
    let ends = end_numbers (column_of c.self.inside.ends) in
    let paired = c.self.invariant.runs.paired in
    let within = run_of_row_within ends c.self.inside.offset c.self.inside.length c.args.index c.self.invariant.runs.window c.if-index-self.false in
    let past : length (rows c.self.inside.values) ≤ c.run_of-run.result = reason_of_refusal _ _ _ c.in-Err.is c.scalar_at.ensures.only c.scalar_at.ensures.refused.0 in
    let place = c.run_of-run.ensures.place in
    absurd (omega arith)

pub array::RunEndArray::row_at-returns-clause-row : goal.array::RunEndArray::row_at-returns-clause-row
array::RunEndArray::row_at-returns-clause-row g t c =
    let runs = runs_of (column_of c.self.inside.ends) (column_of c.self.inside.values) c.self.inside.offset c.self.inside.length in
    rw (← c.self.view_is)
    (slice_get-run_rows_of_window runs.ends (column_rows runs.values) runs.offset runs.count c.args.index c.self.invariant.runs.window c.self.invariant.runs.paired c.if-index-self.false
    ∙ ap (slice_get (column_rows runs.values)) (sym c.run_of-run.ensures.place)
    ∙ c.in-Ok.ensures.row)

pub array_ref::ArrayRef::scalar_at-returns-in-RunEnd-clause-refused : goal.array_ref::ArrayRef::scalar_at-returns-in-RunEnd-clause-refused
array_ref::ArrayRef::scalar_at-returns-in-RunEnd-clause-refused g t c = rw c.in-RunEnd.is (rw length-run_rows (rw c.deref-in-RunEnd.ensures at c.row_at.ensures.refused))

pub array_ref::ArrayRef::scalar_at-returns-in-RunEnd-clause-only : goal.array_ref::ArrayRef::scalar_at-returns-in-RunEnd-clause-only
array_ref::ArrayRef::scalar_at-returns-in-RunEnd-clause-only g t c = rw c.in-RunEnd.is (rw length-run_rows (rw c.deref-in-RunEnd.ensures at c.row_at.ensures.only))

pub array_ref::ArrayRef::scalar_at-returns-else-index-len-clause-row : goal.array_ref::ArrayRef::scalar_at-returns-else-index-len-clause-row
array_ref::ArrayRef::scalar_at-returns-else-index-len-clause-row g t c =
    let lists = c.in-ListView.lists.value in
    let counted : c.len.result ≡ list_count lists = c.len.ensures.offsets ∙ ap list_count c.deref.ensures in
    let within : c.args.index < list_count lists = omega (arith, counted, c.if-index-len.false) in
    rw c.in-ListView.is
    (slice_get-made (list_at lists) (list_count lists) c.args.index within
    ∙ ap Some (sym (c.get.ensures.row ∙ ap (λ l. list_at l c.args.index) c.deref-in-ListView.ensures)))

pub array_ref::ArrayRef::scalar_at-returns-else-index-len-2-clause-row : goal.array_ref::ArrayRef::scalar_at-returns-else-index-len-2-clause-row
array_ref::ArrayRef::scalar_at-returns-else-index-len-2-clause-row g t c =
    let within : c.args.index < c.in-Constant.array.count = omega (arith, c.len-in-Constant.ensures, c.if-index-len-2.false) in
    rw c.in-Constant.is (slice_get-replicate c.in-Constant.array.count c.args.index _ within ∙ ap Some (sym c.scalar_view.ensures.value))

pub array::RunEndArray::row_at-returns-clause-of_type : goal.array::RunEndArray::row_at-returns-clause-of_type
array::RunEndArray::row_at-returns-clause-of_type g t c = rw (← c.self.view_is) c.in-Ok.ensures.of_type

pub array::RunEndArray::row_at-returns-clause-refused : goal.array::RunEndArray::row_at-returns-clause-refused
array::RunEndArray::row_at-returns-clause-refused g t c = rw (← c.self.view_is) ((λ is_err. absurd (value_is_no_refusal _ _ is_err)), (λ past. absurd (omega (arith, past, c.if-index-self.false))))

pub array_ref::ArrayRef::scalar_at-returns-else-index-len-clause-refused : goal.array_ref::ArrayRef::scalar_at-returns-else-index-len-clause-refused
array_ref::ArrayRef::scalar_at-returns-else-index-len-clause-refused g t c =
    let lists = c.in-ListView.lists.value in
    let counted : c.len.result ≡ list_count lists = c.len.ensures.offsets ∙ ap list_count c.deref.ensures in
    rw c.in-ListView.is
    (within_is_no_refusal c.get.result _ c.args.index (length (list_rows lists)) (omega (arith, counted, length-list_rows lists, c.if-index-len.false)))

pub array_ref::ArrayRef::scalar_at-as_flat-flat-requires : goal.array_ref::ArrayRef::scalar_at-as_flat-flat-requires
array_ref::ArrayRef::scalar_at-as_flat-flat-requires g t c = IsLeaf-of_rest c.args.self.now c.in_default.not-ListView c.in_default.not-Constant c.in_default.not-RunEnd

pub array_ref::ArrayRef::scalar_at-returns-else-index-len-3-clause-row : goal.array_ref::ArrayRef::scalar_at-returns-else-index-len-3-clause-row
array_ref::ArrayRef::scalar_at-returns-else-index-len-3-clause-row g t c = rw c.as_flat-flat.ensures c.get-in_default.ensures.row

pub array_ref::ArrayRef::scalar_at-returns-else-index-len-3-clause-of_type : goal.array_ref::ArrayRef::scalar_at-returns-else-index-len-3-clause-of_type
array_ref::ArrayRef::scalar_at-returns-else-index-len-3-clause-of_type g t c = rw c.as_flat-flat.ensures c.get-in_default.ensures.of_type

pub array_ref::ArrayRef::scalar_at-returns-else-index-len-3-clause-refused : goal.array_ref::ArrayRef::scalar_at-returns-else-index-len-3-clause-refused
array_ref::ArrayRef::scalar_at-returns-else-index-len-3-clause-refused g t c =
    rw c.as_flat-flat.ensures
    (within_is_no_refusal-flat c.get-in_default.result _ c.args.index c.len-in_default.result (leaf_rows (leaf_in c.as_flat-flat.result)) c.len-in_default.ensures c.if-index-len-3.false)
