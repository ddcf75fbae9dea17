use Rattle.std.proofs.Common.{◌≡◌, ◌∙◌, ℕ, Option, length, replicate, ap, sym, subst}
use Rattle.std.specs.Prelude.{option_map}
use Rattle.column_base.specs.declared.error.VortexError.{VortexError}
use Rattle.column_core.specs.Refusal.{IsErrorFor}
use Rattle.column_core.specs.Value.{IsLists, Single}
use Rattle.column_ops.proofs.IndexPositions.{refused-passed_on}
use Rattle.column_ops.specs.CompareFault.{compare_scalar_fault}
use Rattle.column_ops.specs.Comparing.{compare_dtype, compare_with, compared}
use Rattle.runend_array.specs.Array.{column_of, dtype_of, rows}
use Rattle.runend_array.specs.Column.{Column, OfConstant, column_dtype, column_rows, repeated}
use Rattle.runend_column.proofs.PassedOn.{refused_by_none}
use Rattle.runend_map.proofs.KeptRows.{if_ok}
use Rattle.runend_commands.proofs.Constants.{compared-repeated}
use Rattle.runend_commands.proofs.compute.scalar_comparisons.truth_of_constant.Goals as goal

pub repeated_row-made-requires-clause-single : goal.repeated_row-made-requires-clause-single
repeated_row-made-requires-clause-single g c = λ lists. subst IsLists c.in_ok-truth.ensures.dtype lists

pub repeated_row-made-requires-clause-one : goal.repeated_row-made-requires-clause-one
repeated_row-made-requires-clause-one g c =
    let row = option_map Single c.args.constant.now.value in
    let value = option_map Single c.args.value.now.value in
    ap length (c.in_ok-truth.ensures.rows ∙ ap (λ (k : Column). compare_with c.args.operator (column_rows k) value) c.in_ok-one.ensures.form ∙ compared-repeated c.args.operator row value 1)

pub returns-clause-refused : goal.returns-clause-refused
returns-clause-refused g c =
    let none = ap (λ (k : Column). compare_scalar_fault (column_dtype k) c.args.value.now.dtype) (sym c.in_ok-one.ensures.form) ∙ c.in_ok-truth.ensures.refused in
    refused_by_none (compare_scalar_fault c.args.constant.now.dtype c.args.value.now.dtype) c.repeated_row-made.result none c.repeated_row-made.ensures.only

pub returns-clause-rows : goal.returns-clause-rows
returns-clause-rows g c =
    let row = option_map Single c.args.constant.now.value in
    let value = option_map Single c.args.value.now.value in
    let truth = compared c.args.operator row value in
    let one = c.in_ok-truth.ensures.rows ∙ ap (λ (k : Column). compare_with c.args.operator (column_rows k) value) c.in_ok-one.ensures.form ∙ compared-repeated c.args.operator row value 1 in
    if_ok c.repeated_row-made.result (λ made each.
    each truth one ∙ ap (λ (n : ℕ). replicate n truth) c.len.ensures ∙ sym (compared-repeated c.args.operator row value c.args.constant.now.count)) c.repeated_row-made.ensures.rows

pub returns-clause-dtype : goal.returns-clause-dtype
returns-clause-dtype g c =
    if_ok c.repeated_row-made.result (λ made same. same ∙ c.in_ok-truth.ensures.dtype ∙ ap (λ (k : Column). compare_dtype (column_dtype k) c.args.value.now.dtype) c.in_ok-one.ensures.form) c.repeated_row-made.ensures.dtype

pub returns-in_err-truth-clause-refused : goal.returns-in_err-truth-clause-refused
returns-in_err-truth-clause-refused g c =
    let same = ap (λ (k : Column). compare_scalar_fault (column_dtype k) c.args.value.now.dtype) c.in_ok-one.ensures.form in
    refused-passed_on (compare_scalar_fault c.args.constant.now.dtype c.args.value.now.dtype) c.in_err-truth.field-0.0 c.from_residual-in_err-truth.result c.from_residual-in_err-truth.ensures.1
    (subst (λ (o : Option VortexError). IsErrorFor o c.in_err-truth.field-0.0) same c.in_err-truth.ensures.refused)
