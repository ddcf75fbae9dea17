use Rattle.std.proofs.Common.{rules, arith, ◌≡◌, ◌<◌, ℕ, List, length, ap, sym, ◌∙◌}
use Rattle.std.specs.Prelude.{option_map, unsigned_abs}
use Rattle.std.proofs.lemmas.List.{length-map}
use Rattle.std.proofs.lemmas.Result.{IfOk-weaker}
use Rattle.column_core.specs.FlatView.{leaf_in}
use Rattle.column_core.specs.Leaf.{leaf_rows}
use Rattle.column_core.specs.PrimitiveForm.{primitive_dtype}
use Rattle.column_core.specs.Value.{Single}
use Rattle.runend_windows.specs.Ends.{IsEndsType, ends_of}
use Rattle.runend_windows.specs.Window.{IsWindow, run_rows}
use Rattle.runend_array.specs.Array.{rows}
use Rattle.runend_array.specs.Column.{column_rows, end_numbers}
use Rattle.runend_array.specs.Lists.{Lists, list_count, list_dtype, list_rows}
use Rattle.runend_array.specs.Falls.{deep_le-parts}
use Rattle.runend_array.specs.declared.array.RunEndArray.TheDeep.{size-ArrayRef, size-RunEndArray}
use Rattle.runend_array.proofs.FlatForms.{IsLeaf-of_rest}
use Rattle.runend_array.proofs.ListRows.{length-list_rows}
use Rattle.runend_array.proofs.+canonicalize_in.Goals as goal

pub array::RunEndArray::canonicalize_in-unreachable-requires : goal.array::RunEndArray::canonicalize_in-unreachable-requires
array::RunEndArray::canonicalize_in-unreachable-requires g t c = c.in_default.ensures c.self.invariant.plain

pub array::RunEndArray::canonicalize_in-unreachable-unreachable : goal.array::RunEndArray::canonicalize_in-unreachable-unreachable
array::RunEndArray::canonicalize_in-unreachable-unreachable g t c = c.in_default.ensures c.self.invariant.plain

pub array::RunEndArray::canonicalize_in-decode_with-requires : goal.array::RunEndArray::canonicalize_in-decode_with-requires
array::RunEndArray::canonicalize_in-decode_with-requires g t c κs within =
    let ends = c.in-Some.ends.now in
    let plain : IsEndsType (primitive_dtype ends) = rw c.in-Some.ensures.1 at c.self.invariant.plain in
    let window : IsWindow (ends_of ends) c.self.inside.offset c.self.inside.length = rw c.in-Some.ensures.1 at c.self.invariant.runs.window in
    let paired : length (rows c.self.inside.values) ≡ length ends.numbers =
    c.self.invariant.runs.paired ∙ ap (λ e. length (end_numbers e)) c.in-Some.ensures.1 ∙ length-map ends.numbers unsigned_abs in
    let size : size-RunEndArray g.row.A.Denot g.A.Allocator c.args.self.now ≡ t = c.decreases in
    let fall : size-ArrayRef g.row.A.Denot g.A.Allocator c.self.inside.values < t =
    omega (arith, (rw (← c.self.view_is) at size), deep_le-parts g.A.Allocator c.self.inside.ends c.self.inside.values c.self.invariant.plain) in
    (fall, search (rules, plain, window, paired))

pub array::RunEndArray::canonicalize_in-returns-clause-rows : goal.array::RunEndArray::canonicalize_in-returns-clause-rows
array::RunEndArray::canonicalize_in-returns-clause-rows g t c =
    let offset = c.self.inside.offset in
    let count = c.self.inside.length in
    rw (← c.self.view_is)
    (IfOk-weaker c.decode_with.result _ _ (λ flat same. same ∙ ap (λ (ends : List ℕ). run_rows ends (rows c.self.inside.values) offset count) (sym (ap end_numbers c.in-Some.ensures.1)))
    c.decode_with.ensures.rows)

pub array::RunEndArray::canonicalize_in-returns-clause-dtype : goal.array::RunEndArray::canonicalize_in-returns-clause-dtype
array::RunEndArray::canonicalize_in-returns-clause-dtype g t c = rw (← c.self.view_is) c.decode_with.ensures.dtype

pub array_ref::ArrayRef::decode_with-decode_with-requires-clause-paired : goal.array_ref::ArrayRef::decode_with-decode_with-requires-clause-paired
array_ref::ArrayRef::decode_with-decode_with-requires-clause-paired g t c =
    ap list_count c.deref.ensures ∙ sym (length-list_rows c.in-ListView.lists.value) ∙ sym (ap (λ array. length (rows array)) c.in-ListView.is) ∙ c.requires.paired

pub array_ref::ArrayRef::decode_with-returns-in_ok-shown-in-ListView-clause-rows : goal.array_ref::ArrayRef::decode_with-returns-in_ok-shown-in-ListView-clause-rows
array_ref::ArrayRef::decode_with-returns-in_ok-shown-in-ListView-clause-rows g t c =
    let ends = ends_of c.args.ends.now in
    rw c.in-ListView.is (c.in_ok-shown-in-ListView.ensures.rows ∙ ap (λ (lists : Lists). run_rows ends (list_rows lists) c.args.offset c.args.count) c.deref.ensures)

pub array_ref::ArrayRef::decode_with-returns-in_ok-shown-in-ListView-clause-dtype : goal.array_ref::ArrayRef::decode_with-returns-in_ok-shown-in-ListView-clause-dtype
array_ref::ArrayRef::decode_with-returns-in_ok-shown-in-ListView-clause-dtype g t c = rw c.in-ListView.is (c.in_ok-shown-in-ListView.ensures.dtype ∙ ap list_dtype c.deref.ensures)

pub array_ref::ArrayRef::decode_with-returns-in_ok-shown-in-ListView-clause-form : goal.array_ref::ArrayRef::decode_with-returns-in_ok-shown-in-ListView-clause-form
array_ref::ArrayRef::decode_with-returns-in_ok-shown-in-ListView-clause-form g t c = tt

pub array_ref::ArrayRef::decode_with-returns-in_ok-values-in-Constant-clause-rows : goal.array_ref::ArrayRef::decode_with-returns-in_ok-values-in-Constant-clause-rows
array_ref::ArrayRef::decode_with-returns-in_ok-values-in-Constant-clause-rows g t c = rw c.in-Constant.is (rw c.in_ok-values-in-Constant.ensures.rows at c.decode_with-in-Constant.ensures.rows)

pub array_ref::ArrayRef::decode_with-returns-in_ok-values-in-Constant-clause-dtype : goal.array_ref::ArrayRef::decode_with-returns-in_ok-values-in-Constant-clause-dtype
array_ref::ArrayRef::decode_with-returns-in_ok-values-in-Constant-clause-dtype g t c = rw c.in-Constant.is (rw c.in_ok-values-in-Constant.ensures.dtype at c.decode_with-in-Constant.ensures.dtype)

pub array_ref::ArrayRef::decode_with-returns-in_ok-values-in-Constant-clause-form : goal.array_ref::ArrayRef::decode_with-returns-in_ok-values-in-Constant-clause-form
array_ref::ArrayRef::decode_with-returns-in_ok-values-in-Constant-clause-form g t c = c.decode_with-in-Constant.ensures.form

pub array_ref::ArrayRef::decode_with-returns-in_ok-values-in-RunEnd-clause-rows : goal.array_ref::ArrayRef::decode_with-returns-in_ok-values-in-RunEnd-clause-rows
array_ref::ArrayRef::decode_with-returns-in_ok-values-in-RunEnd-clause-rows g t c = rw c.in-RunEnd.is (rw (c.in_ok-values-in-RunEnd.ensures.rows, c.deref-in-RunEnd.ensures) at c.decode_with-in-RunEnd.ensures.rows)

pub array_ref::ArrayRef::decode_with-returns-in_ok-values-in-RunEnd-clause-dtype : goal.array_ref::ArrayRef::decode_with-returns-in_ok-values-in-RunEnd-clause-dtype
array_ref::ArrayRef::decode_with-returns-in_ok-values-in-RunEnd-clause-dtype g t c = rw c.in-RunEnd.is (rw (c.in_ok-values-in-RunEnd.ensures.dtype, c.deref-in-RunEnd.ensures) at c.decode_with-in-RunEnd.ensures.dtype)

pub array_ref::ArrayRef::decode_with-returns-in_ok-values-in-RunEnd-clause-form : goal.array_ref::ArrayRef::decode_with-returns-in_ok-values-in-RunEnd-clause-form
array_ref::ArrayRef::decode_with-returns-in_ok-values-in-RunEnd-clause-form g t c = c.decode_with-in-RunEnd.ensures.form

pub array_ref::ArrayRef::decode_with-as_flat-values-requires : goal.array_ref::ArrayRef::decode_with-as_flat-values-requires
array_ref::ArrayRef::decode_with-as_flat-values-requires g t c = IsLeaf-of_rest c.args.self.now c.in_default.not-ListView c.in_default.not-Constant c.in_default.not-RunEnd

pub array_ref::ArrayRef::decode_with-decode_flat-requires-clause-paired : goal.array_ref::ArrayRef::decode_with-decode_flat-requires-clause-paired
array_ref::ArrayRef::decode_with-decode_flat-requires-clause-paired g t c =
    sym (length-map (leaf_rows (leaf_in c.as_flat-values.result)) (option_map Single)) ∙ ap (λ column. length (column_rows column)) (sym c.as_flat-values.ensures) ∙ c.requires.paired

pub array_ref::ArrayRef::decode_with-returns-in_ok-array-in_default-clause-rows : goal.array_ref::ArrayRef::decode_with-returns-in_ok-array-in_default-clause-rows
array_ref::ArrayRef::decode_with-returns-in_ok-array-in_default-clause-rows g t c = rw c.as_flat-values.ensures c.in_ok-array-in_default.ensures.flat.rows

pub array_ref::ArrayRef::decode_with-returns-in_ok-array-in_default-clause-dtype : goal.array_ref::ArrayRef::decode_with-returns-in_ok-array-in_default-clause-dtype
array_ref::ArrayRef::decode_with-returns-in_ok-array-in_default-clause-dtype g t c = rw c.as_flat-values.ensures c.in_ok-array-in_default.ensures.flat.dtype

pub array_ref::ArrayRef::decode_with-returns-in_ok-array-in_default-clause-form : goal.array_ref::ArrayRef::decode_with-returns-in_ok-array-in_default-clause-form
array_ref::ArrayRef::decode_with-returns-in_ok-array-in_default-clause-form g t c = c.in_ok-array-in_default.ensures.flat.computed
