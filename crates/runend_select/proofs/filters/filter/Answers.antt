use Rattle.std.proofs.Common.{◌∙◌, ap, sym, length}
use Rattle.column_base.specs.Mask.{mask_bits}
use Rattle.runend_array.specs.Array.{column_of}
use Rattle.runend_array.specs.Column.{column_of_runs, column_rows}
use Rattle.runend_windows.proofs.RunRows.{length-run_rows}
use Rattle.runend_column.proofs.FilterFaults.{fault_here, fault_told, no_fault, rows-unchanged}
use Rattle.runend_select.proofs.WithoutRuns.{rows-without_runs}
use Rattle.runend_column.proofs.ComputedRows.{ok_then}
use Rattle.runend_select.proofs.MinimalForms.{least-without_runs}
use Rattle.runend_select.proofs.PassedOn.{first-none, first-told}
use Rattle.runend_column.proofs.PassedOn.{refused_by_none}
use Rattle.runend_select.proofs.filters.filter.Goals as goal

pub returns-then-len-clause-refused : goal.returns-then-len-clause-refused
returns-then-len-clause-refused g c =
    let array = c.args.array.now in
    let counted = length-run_rows array.ends (column_rows array.values) array.offset array.count in
    fault_here (length (mask_bits c.args.mask.now)) (length (column_rows (column_of_runs array))) c.len-then-len.result c.len-then-len-2.result
    (λ same. c.if-len.true (c.len.ensures ∙ same ∙ counted ∙ sym c.len-2.ensures)) c.len-then-len.ensures (c.len-then-len-2.ensures ∙ sym counted)

pub returns-then-len-clause-first : goal.returns-then-len-clause-first
returns-then-len-clause-first g c =
    let array = c.args.array.now in
    let counted = length-run_rows array.ends (column_rows array.values) array.offset array.count in
    first-told _ _ (fault_told (length (mask_bits c.args.mask.now)) (length (column_rows (column_of_runs array))) c.len-then-len.result c.len-then-len-2.result
    (λ same. c.if-len.true (c.len.ensures ∙ same ∙ counted ∙ sym c.len-2.ensures)) c.len-then-len.ensures (c.len-then-len-2.ensures ∙ sym counted))

pub returns-in-AllTrue-clause-refused : goal.returns-in-AllTrue-clause-refused
returns-in-AllTrue-clause-refused g c =
    let array = c.args.array.now in
    let counted = length-run_rows array.ends (column_rows array.values) array.offset array.count in
    let none = no_fault (length (mask_bits c.args.mask.now)) (length (column_rows (column_of_runs array))) (sym c.len.ensures ∙ c.if-len.false ∙ c.len-2.ensures ∙ sym counted) in
    refused_by_none _ c.all_rows.result none c.all_rows.ensures.only

pub returns-in-AllTrue-clause-first : goal.returns-in-AllTrue-clause-first
returns-in-AllTrue-clause-first g c =
    let array = c.args.array.now in
    let counted = length-run_rows array.ends (column_rows array.values) array.offset array.count in
    let none = no_fault (length (mask_bits c.args.mask.now)) (length (column_rows (column_of_runs array))) (sym c.len.ensures ∙ c.if-len.false ∙ c.len-2.ensures ∙ sym counted) in
    first-none _ c.all_rows.result none

pub returns-in-AllTrue-clause-rows : goal.returns-in-AllTrue-clause-rows
returns-in-AllTrue-clause-rows g c =
    let array = c.args.array.now in
    let counted = length-run_rows array.ends (column_rows array.values) array.offset array.count in
    let all = rows-unchanged (mask_bits c.args.mask.now) c.in-AllTrue.field-0 (column_rows (column_of_runs array)) (ap mask_bits c.in-AllTrue.is) (sym c.len.ensures ∙ c.if-len.false ∙ c.len-2.ensures ∙ sym counted) in
    ok_then c.all_rows.result _ _ (λ kept same. same ∙ all) c.all_rows.ensures.rows

pub returns-in-AllTrue-clause-dtype : goal.returns-in-AllTrue-clause-dtype
returns-in-AllTrue-clause-dtype g c =
    c.all_rows.ensures.dtype

pub returns-in-AllTrue-clause-form : goal.returns-in-AllTrue-clause-form
returns-in-AllTrue-clause-form g c =
    rw c.in-AllTrue.is c.all_rows.ensures.form

pub returns-in-AllFalse-clause-refused : goal.returns-in-AllFalse-clause-refused
returns-in-AllFalse-clause-refused g c =
    let array = c.args.array.now in
    let counted = length-run_rows array.ends (column_rows array.values) array.offset array.count in
    let none = no_fault (length (mask_bits c.args.mask.now)) (length (column_rows (column_of_runs array))) (sym c.len.ensures ∙ c.if-len.false ∙ c.len-2.ensures ∙ sym counted) in
    refused_by_none _ c.without_rows.result none c.without_rows.ensures.only

pub returns-in-AllFalse-clause-first : goal.returns-in-AllFalse-clause-first
returns-in-AllFalse-clause-first g c =
    let array = c.args.array.now in
    let counted = length-run_rows array.ends (column_rows array.values) array.offset array.count in
    let none = no_fault (length (mask_bits c.args.mask.now)) (length (column_rows (column_of_runs array))) (sym c.len.ensures ∙ c.if-len.false ∙ c.len-2.ensures ∙ sym counted) in
    first-none _ c.without_rows.result none

pub returns-in-AllFalse-clause-rows : goal.returns-in-AllFalse-clause-rows
returns-in-AllFalse-clause-rows g c =
    ok_then c.without_rows.result _ _ (λ none form. rows-without_runs c.args.array.now (column_of none) (mask_bits c.args.mask.now) c.in-AllFalse.field-0 (ap mask_bits c.in-AllFalse.is) form) c.without_rows.ensures.form

pub returns-in-AllFalse-clause-dtype : goal.returns-in-AllFalse-clause-dtype
returns-in-AllFalse-clause-dtype g c = c.without_rows.ensures.dtype

pub returns-in-AllFalse-clause-form : goal.returns-in-AllFalse-clause-form
returns-in-AllFalse-clause-form g c =
    rw c.in-AllFalse.is (ok_then c.without_rows.result _ _ (λ none form. (form, least-without_runs c.args.array.now (column_of none) form)) c.without_rows.ensures.form)

pub returns-in-Values-clause-refused : goal.returns-in-Values-clause-refused
returns-in-Values-clause-refused g c =
    let array = c.args.array.now in
    let counted = length-run_rows array.ends (column_rows array.values) array.offset array.count in
    let none = no_fault (length (mask_bits c.args.mask.now)) (length (column_rows (column_of_runs array))) (sym c.len.ensures ∙ c.if-len.false ∙ c.len-2.ensures ∙ sym counted) in
    refused_by_none _ c.filter_bits.result none c.filter_bits.ensures.only

pub returns-in-Values-clause-first : goal.returns-in-Values-clause-first
returns-in-Values-clause-first g c =
    let array = c.args.array.now in
    let counted = length-run_rows array.ends (column_rows array.values) array.offset array.count in
    let none = no_fault (length (mask_bits c.args.mask.now)) (length (column_rows (column_of_runs array))) (sym c.len.ensures ∙ c.if-len.false ∙ c.len-2.ensures ∙ sym counted) in
    first-none _ c.filter_bits.result none

pub returns-in-Values-clause-rows : goal.returns-in-Values-clause-rows
returns-in-Values-clause-rows g c = rw c.in-Values.is c.filter_bits.ensures.rows

pub returns-in-Values-clause-dtype : goal.returns-in-Values-clause-dtype
returns-in-Values-clause-dtype g c = c.filter_bits.ensures.dtype

pub returns-in-Values-clause-form : goal.returns-in-Values-clause-form
returns-in-Values-clause-form g c = rw c.in-Values.is c.filter_bits.ensures.form
