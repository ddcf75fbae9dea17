use Rattle.std.proofs.Common.{◌≡◌, ◌∙◌, None, Some, ap, inl, inr, length, subst, sym}
use Rattle.std.specs.Option.{option_or}
use Rattle.column_base.specs.declared.error.VortexError.TheVariants.{MaskLength}
use Rattle.column_ops.proofs.IndexPositions.{refused-passed_on}
use Rattle.column_ops.specs.Filter.{filter_fault, filter_rows}
use Rattle.runend_array.specs.Array.{column_of}
use Rattle.runend_array.specs.Column.{Runs, column_dtype, column_of_runs, column_rows}
use Rattle.runend_windows.proofs.RunRows.{length-run_rows}
use Rattle.runend_column.proofs.ComputedRows.{ok_then}
use Rattle.runend_column.proofs.FilterFaults.{fault_told, no_fault}
use Rattle.runend_column.proofs.PassedOn.{no_value, refused_by_none}
use Rattle.runend_select.specs.MaskRuns.{IsFilterFormBy, mask_fault, truths_of}
use Rattle.runend_select.proofs.MaskForms.{fault_first, fault_other, length-truths, mask_single}
use Rattle.runend_select.proofs.PassedOn.{first-none, first-told, told-passed_on}
use Rattle.runend_select.proofs.mask_filters.filter_by_runs.Goals as goal

pub returns-in_err-check_mask_type-clause-refused : goal.returns-in_err-check_mask_type-clause-refused
returns-in_err-check_mask_type-clause-refused g c =
    let array = c.args.array.now in
    let mask = c.args.mask.now in
    let typed = mask_fault (column_dtype mask.values) in
    let lengths = filter_fault (length (truths_of mask)) (length (column_rows (column_of_runs array))) in
    let error = c.in_err-check_mask_type.field-0.0 in
    let told : typed ≡ Some error = ap mask_fault (sym c.dtype.ensures) ∙ c.in_err-check_mask_type.ensures in
    let fault : option_or typed lengths ≡ Some error = fault_first typed lengths error told in
    refused-passed_on (option_or typed lengths) error c.from_residual.result c.from_residual.ensures.1 (inr fault)

pub returns-in_err-check_mask_type-clause-first : goal.returns-in_err-check_mask_type-clause-first
returns-in_err-check_mask_type-clause-first g c =
    let array = c.args.array.now in
    let mask = c.args.mask.now in
    let typed = mask_fault (column_dtype mask.values) in
    let lengths = filter_fault (length (truths_of mask)) (length (column_rows (column_of_runs array))) in
    let error = c.in_err-check_mask_type.field-0.0 in
    let told : typed ≡ Some error = ap mask_fault (sym c.dtype.ensures) ∙ c.in_err-check_mask_type.ensures in
    let fault : option_or typed lengths ≡ Some error = fault_first typed lengths error told in
    first-told (option_or typed lengths) c.from_residual.result (told-passed_on (option_or typed lengths) error c.from_residual.result c.from_residual.ensures.1 fault)

pub returns-in_err-check_mask_type-clause-rows : goal.returns-in_err-check_mask_type-clause-rows
returns-in_err-check_mask_type-clause-rows g c =
    no_value _ c.from_residual.result c.from_residual.ensures.0

pub returns-in_err-check_mask_type-clause-dtype : goal.returns-in_err-check_mask_type-clause-dtype
returns-in_err-check_mask_type-clause-dtype g c =
    no_value _ c.from_residual.result c.from_residual.ensures.0

pub returns-in_err-check_mask_type-clause-form : goal.returns-in_err-check_mask_type-clause-form
returns-in_err-check_mask_type-clause-form g c =
    no_value _ c.from_residual.result c.from_residual.ensures.0

pub returns-then-len-clause-refused : goal.returns-then-len-clause-refused
returns-then-len-clause-refused g c =
    let array = c.args.array.now in
    let mask = c.args.mask.now in
    let typed = mask_fault (column_dtype mask.values) in
    let lengths = filter_fault (length (truths_of mask)) (length (column_rows (column_of_runs array))) in
    let none : typed ≡ None = ap mask_fault (sym c.dtype.ensures) ∙ c.in_ok-check_mask_type.ensures in
    let counted = length-run_rows array.ends (column_rows array.values) array.offset array.count in
    let x = c.len-then-len.result in
    let y = c.len-then-len-2.result in
    let told : lengths ≡ Some (MaskLength x y) = fault_told (length (truths_of mask)) (length (column_rows (column_of_runs array))) x y
    (λ same. c.if-len.true (c.len.ensures ∙ sym (length-truths mask) ∙ same ∙ counted ∙ sym c.len-2.ensures)) (c.len-then-len.ensures ∙ sym (length-truths mask)) (c.len-then-len-2.ensures ∙ sym counted) in
    let fault : option_or typed lengths ≡ Some (MaskLength x y) = fault_other typed lengths none ∙ told in
    inr fault

pub returns-then-len-clause-first : goal.returns-then-len-clause-first
returns-then-len-clause-first g c =
    let array = c.args.array.now in
    let mask = c.args.mask.now in
    let typed = mask_fault (column_dtype mask.values) in
    let lengths = filter_fault (length (truths_of mask)) (length (column_rows (column_of_runs array))) in
    let none : typed ≡ None = ap mask_fault (sym c.dtype.ensures) ∙ c.in_ok-check_mask_type.ensures in
    let counted = length-run_rows array.ends (column_rows array.values) array.offset array.count in
    let x = c.len-then-len.result in
    let y = c.len-then-len-2.result in
    let told : lengths ≡ Some (MaskLength x y) = fault_told (length (truths_of mask)) (length (column_rows (column_of_runs array))) x y
    (λ same. c.if-len.true (c.len.ensures ∙ sym (length-truths mask) ∙ same ∙ counted ∙ sym c.len-2.ensures)) (c.len-then-len.ensures ∙ sym (length-truths mask)) (c.len-then-len-2.ensures ∙ sym counted) in
    let fault : option_or typed lengths ≡ Some (MaskLength x y) = fault_other typed lengths none ∙ told in
    first-told (option_or typed lengths) _ fault

pub of-requires : goal.of-requires
of-requires g c =
    record { single = mask_single (column_dtype c.args.mask.now.values) (ap mask_fault (sym c.dtype.ensures) ∙ c.in_ok-check_mask_type.ensures) }

pub returns-in_err-selected-clause-refused : goal.returns-in_err-selected-clause-refused
returns-in_err-selected-clause-refused g c =
    let array = c.args.array.now in
    let mask = c.args.mask.now in
    let typed = mask_fault (column_dtype mask.values) in
    let lengths = filter_fault (length (truths_of mask)) (length (column_rows (column_of_runs array))) in
    refused-passed_on (option_or typed lengths) c.in_err-selected.field-0.0 c.from_residual-in_err-selected.result c.from_residual-in_err-selected.ensures.1 (inl c.in_err-selected.ensures.only)

pub returns-in_err-selected-clause-first : goal.returns-in_err-selected-clause-first
returns-in_err-selected-clause-first g c =
    let array = c.args.array.now in
    let mask = c.args.mask.now in
    let typed = mask_fault (column_dtype mask.values) in
    let lengths = filter_fault (length (truths_of mask)) (length (column_rows (column_of_runs array))) in
    let none : typed ≡ None = ap mask_fault (sym c.dtype.ensures) ∙ c.in_ok-check_mask_type.ensures in
    let counted = length-run_rows array.ends (column_rows array.values) array.offset array.count in
    let same = length-truths mask ∙ sym c.len.ensures ∙ c.if-len.false ∙ c.len-2.ensures ∙ sym counted in
    let fault : option_or typed lengths ≡ None = fault_other typed lengths none ∙ no_fault (length (truths_of mask)) (length (column_rows (column_of_runs array))) same in
    first-none (option_or typed lengths) c.from_residual-in_err-selected.result fault

pub returns-in_err-selected-clause-rows : goal.returns-in_err-selected-clause-rows
returns-in_err-selected-clause-rows g c =
    no_value _ c.from_residual-in_err-selected.result c.from_residual-in_err-selected.ensures.0

pub returns-in_err-selected-clause-dtype : goal.returns-in_err-selected-clause-dtype
returns-in_err-selected-clause-dtype g c =
    no_value _ c.from_residual-in_err-selected.result c.from_residual-in_err-selected.ensures.0

pub returns-in_err-selected-clause-form : goal.returns-in_err-selected-clause-form
returns-in_err-selected-clause-form g c =
    no_value _ c.from_residual-in_err-selected.result c.from_residual-in_err-selected.ensures.0

pub filter_selected-kept-requires-clause-masked : goal.filter_selected-kept-requires-clause-masked
filter_selected-kept-requires-clause-masked g c =
    ap (λ (m : Runs). length (truths_of m)) c.in_ok-selected.ensures.mask ∙ length-truths c.args.mask.now ∙ sym c.len.ensures ∙ c.if-len.false ∙ c.len-2.ensures

pub returns-clause-refused : goal.returns-clause-refused
returns-clause-refused g c =
    let array = c.args.array.now in
    let mask = c.args.mask.now in
    let typed = mask_fault (column_dtype mask.values) in
    let lengths = filter_fault (length (truths_of mask)) (length (column_rows (column_of_runs array))) in
    let none : typed ≡ None = ap mask_fault (sym c.dtype.ensures) ∙ c.in_ok-check_mask_type.ensures in
    let counted = length-run_rows array.ends (column_rows array.values) array.offset array.count in
    let same = length-truths mask ∙ sym c.len.ensures ∙ c.if-len.false ∙ c.len-2.ensures ∙ sym counted in
    let fault : option_or typed lengths ≡ None = fault_other typed lengths none ∙ no_fault (length (truths_of mask)) (length (column_rows (column_of_runs array))) same in
    refused_by_none (option_or typed lengths) c.filter_selected-kept.result fault c.filter_selected-kept.ensures.only

pub returns-clause-first : goal.returns-clause-first
returns-clause-first g c =
    let array = c.args.array.now in
    let mask = c.args.mask.now in
    let typed = mask_fault (column_dtype mask.values) in
    let lengths = filter_fault (length (truths_of mask)) (length (column_rows (column_of_runs array))) in
    let none : typed ≡ None = ap mask_fault (sym c.dtype.ensures) ∙ c.in_ok-check_mask_type.ensures in
    let counted = length-run_rows array.ends (column_rows array.values) array.offset array.count in
    let same = length-truths mask ∙ sym c.len.ensures ∙ c.if-len.false ∙ c.len-2.ensures ∙ sym counted in
    let fault : option_or typed lengths ≡ None = fault_other typed lengths none ∙ no_fault (length (truths_of mask)) (length (column_rows (column_of_runs array))) same in
    first-none (option_or typed lengths) c.filter_selected-kept.result fault

pub returns-clause-rows : goal.returns-clause-rows
returns-clause-rows g c =
    ok_then c.filter_selected-kept.result _ _ (λ kept is. is ∙ ap (λ (m : Runs). filter_rows (truths_of m) (column_rows (column_of_runs c.args.array.now))) c.in_ok-selected.ensures.mask) c.filter_selected-kept.ensures.rows

pub returns-clause-dtype : goal.returns-clause-dtype
returns-clause-dtype g c =
    c.filter_selected-kept.ensures.dtype

pub returns-clause-form : goal.returns-clause-form
returns-clause-form g c =
    ok_then c.filter_selected-kept.result _ _
    (λ kept form. subst (λ (m : Runs). IsFilterFormBy c.args.ctx.now.thresholds c.args.array.now (truths_of m) (column_of kept)) c.in_ok-selected.ensures.mask form) c.filter_selected-kept.ensures.form
