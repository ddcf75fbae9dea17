use Rattle.std.proofs.Common.{◌∙◌, ℤ, List, Option, ap, inr, length, map, subst, sym}
use Rattle.column_base.specs.Validity.{form_of}
use Rattle.column_core.specs.PrimitiveForm.{optional_numbers, primitive_with}
use Rattle.column_ops.specs.Take.{take_fault, take_rows}
use Rattle.column_ops.proofs.IndexPositions.{refused-passed_on}
use Rattle.runend_array.specs.Column.{column_of_runs, column_rows}
use Rattle.runend_windows.proofs.RunRows.{length-run_rows}
use Rattle.runend_array.specs.Array.{column_of}
use Rattle.runend_select.specs.TakeForm.{TakeLeaves}
use Rattle.runend_select.proofs.CheckedIndices.{AreInBounds-checked, same-fault, same-indices}
use Rattle.runend_column.proofs.ComputedRows.{ok_then}
use Rattle.runend_select.proofs.PassedOn.{first-none, first-told, told-passed_on}
use Rattle.runend_column.proofs.PassedOn.{no_value, refused_by_none}
use Rattle.runend_select.proofs.takes.take_native.Goals as goal

pub returns-in_err-sorted-clause-refused : goal.returns-in_err-sorted-clause-refused
returns-in_err-sorted-clause-refused g c =
    let array = c.args.array.now in
    let error = c.in_err-sorted.field-0.0 in
    let counted = c.len.ensures ∙ sym (length-run_rows array.ends (column_rows array.values) array.offset array.count) in
    let same = same-fault g.T.NativePType.PTYPE g.T.NativePType.number c.args.indices.now (form_of c.args.validity.now) c.len.result (length (column_rows (column_of_runs array))) counted in
    let fault = take_fault (optional_numbers (primitive_with g.T.NativePType.PTYPE (map g.T.NativePType.number c.args.indices.now) (form_of c.args.validity.now))) (length (column_rows (column_of_runs array))) in
    refused-passed_on fault error c.from_residual.result c.from_residual.ensures.1 (inr (sym same ∙ c.in_err-sorted.ensures.told))

pub returns-in_err-sorted-clause-first : goal.returns-in_err-sorted-clause-first
returns-in_err-sorted-clause-first g c =
    let array = c.args.array.now in
    let error = c.in_err-sorted.field-0.0 in
    let counted = c.len.ensures ∙ sym (length-run_rows array.ends (column_rows array.values) array.offset array.count) in
    let same = same-fault g.T.NativePType.PTYPE g.T.NativePType.number c.args.indices.now (form_of c.args.validity.now) c.len.result (length (column_rows (column_of_runs array))) counted in
    first-told _ c.from_residual.result (told-passed_on _ error c.from_residual.result c.from_residual.ensures.1 (sym same ∙ c.in_err-sorted.ensures.told))

pub returns-clause-first : goal.returns-clause-first
returns-clause-first g c =
    let array = c.args.array.now in
    let counted = c.len.ensures ∙ sym (length-run_rows array.ends (column_rows array.values) array.offset array.count) in
    let same = same-fault g.T.NativePType.PTYPE g.T.NativePType.number c.args.indices.now (form_of c.args.validity.now) c.len.result (length (column_rows (column_of_runs array))) counted in
    first-none _ c.take_in_order.result (sym same ∙ c.in_ok-sorted.ensures.told)

pub take_in_order-requires-clause-in_bounds : goal.take_in_order-requires-clause-in_bounds
take_in_order-requires-clause-in_bounds g c =
    let array = c.args.array.now in
    let counted = length-run_rows array.ends (column_rows array.values) array.offset array.count in
    rw counted (AreInBounds-checked _ array.count (rw c.len.ensures at c.in_ok-sorted.ensures.told))

pub returns-in_err-sorted-clause-rows : goal.returns-in_err-sorted-clause-rows
returns-in_err-sorted-clause-rows g c = no_value _ c.from_residual.result c.from_residual.ensures.0

pub returns-in_err-sorted-clause-dtype : goal.returns-in_err-sorted-clause-dtype
returns-in_err-sorted-clause-dtype g c = no_value _ c.from_residual.result c.from_residual.ensures.0

pub returns-in_err-sorted-clause-form : goal.returns-in_err-sorted-clause-form
returns-in_err-sorted-clause-form g c = no_value _ c.from_residual.result c.from_residual.ensures.0

pub take_in_order-requires-clause-fits : goal.take_in_order-requires-clause-fits
take_in_order-requires-clause-fits g c = c.requires.fits

pub returns-clause-refused : goal.returns-clause-refused
returns-clause-refused g c =
    let array = c.args.array.now in
    let counted = c.len.ensures ∙ sym (length-run_rows array.ends (column_rows array.values) array.offset array.count) in
    let same = same-fault g.T.NativePType.PTYPE g.T.NativePType.number c.args.indices.now (form_of c.args.validity.now) c.len.result (length (column_rows (column_of_runs array))) counted in
    refused_by_none _ c.take_in_order.result (sym same ∙ c.in_ok-sorted.ensures.told) c.take_in_order.ensures.only

pub returns-clause-rows : goal.returns-clause-rows
returns-clause-rows g c =
    let same = same-indices g.T.NativePType.PTYPE g.T.NativePType.number c.args.indices.now (form_of c.args.validity.now) in
    ok_then c.take_in_order.result _ _ (λ taken is. is ∙ ap (take_rows (column_rows (column_of_runs c.args.array.now))) same) c.take_in_order.ensures.rows

pub returns-clause-dtype : goal.returns-clause-dtype
returns-clause-dtype g c = c.take_in_order.ensures.dtype

pub returns-clause-form : goal.returns-clause-form
returns-clause-form g c =
    let same = same-indices g.T.NativePType.PTYPE g.T.NativePType.number c.args.indices.now (form_of c.args.validity.now) in
    ok_then c.take_in_order.result _ _ (λ taken form. subst (λ (indices : List (Option ℤ)). TakeLeaves indices (column_of taken)) same form) c.take_in_order.ensures.form
