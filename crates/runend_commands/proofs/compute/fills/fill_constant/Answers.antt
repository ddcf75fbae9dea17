use Rattle.std.proofs.Common.{◌≡◌, ◌∙◌, ℕ, Option, length, replicate, ap, sym, subst}
use Rattle.std.specs.Prelude.{Ok, option_map}
use Rattle.column_base.specs.declared.dtype.DType.{DType}
use Rattle.column_base.specs.declared.error.VortexError.{VortexError}
use Rattle.column_core.specs.Refusal.{IsErrorFor}
use Rattle.column_core.specs.Value.{IsLists, Single}
use Rattle.column_ops.proofs.IndexPositions.{refused-passed_on}
use Rattle.column_ops.specs.Fill.{fill_dtype, fill_fault}
use Rattle.runend_array.specs.Array.{column_of, dtype_of, rows}
use Rattle.runend_array.specs.Column.{Column, OfConstant, column_dtype, column_rows, repeated}
use Rattle.runend_column.proofs.PassedOn.{refused_by_none}
use Rattle.runend_map.proofs.KeptRows.{if_ok}
use Rattle.runend_commands.specs.Meaning.{rows_filled}
use Rattle.runend_commands.proofs.Constants.{fill_single, filled-repeated, row_filled}
use Rattle.runend_commands.proofs.FilledColumns.{filled_if_some}
use Rattle.runend_commands.proofs.compute.fills.fill_constant.Goals as goal

pub repeated_row-made-requires-clause-single : goal.repeated_row-made-requires-clause-single
repeated_row-made-requires-clause-single g c =
    let dtype = ap column_dtype c.in_ok-one.ensures.form in
    let none = ap (λ (t : DType). fill_fault t c.args.value.now) (sym dtype) ∙ c.in_ok-filled.ensures.refused in
    λ lists. fill_single c.args.constant.now.dtype c.args.value.now none (subst IsLists (c.in_ok-filled.ensures.dtype ∙ ap fill_dtype dtype) lists)

pub repeated_row-made-requires-clause-one : goal.repeated_row-made-requires-clause-one
repeated_row-made-requires-clause-one g c =
    let row = option_map Single c.args.constant.now.value in
    let filled = filled_if_some (dtype_of c.in_ok-one.one) c.args.value.now (rows c.in_ok-one.one) (Ok c.in_ok-filled.filled) c.in_ok-filled.ensures.refused c.in_ok-filled.ensures.rows in
    ap length (filled ∙ ap (λ (k : Column). rows_filled (column_rows k) c.args.value.now.value) c.in_ok-one.ensures.form ∙ filled-repeated row c.args.value.now.value 1)

pub returns-clause-refused : goal.returns-clause-refused
returns-clause-refused g c =
    let none = ap (λ (k : Column). fill_fault (column_dtype k) c.args.value.now) (sym c.in_ok-one.ensures.form) ∙ c.in_ok-filled.ensures.refused in
    refused_by_none (fill_fault c.args.constant.now.dtype c.args.value.now) c.repeated_row-made.result none c.repeated_row-made.ensures.only

pub returns-clause-rows : goal.returns-clause-rows
returns-clause-rows g c =
    let row = option_map Single c.args.constant.now.value in
    let value = c.args.value.now.value in
    let filled = filled_if_some (dtype_of c.in_ok-one.one) c.args.value.now (rows c.in_ok-one.one) (Ok c.in_ok-filled.filled) c.in_ok-filled.ensures.refused c.in_ok-filled.ensures.rows in
    let one = filled ∙ ap (λ (k : Column). rows_filled (column_rows k) value) c.in_ok-one.ensures.form ∙ filled-repeated row value 1 in
    if_ok c.repeated_row-made.result (λ made each.
    each (row_filled row value) one ∙ ap (λ (n : ℕ). replicate n (row_filled row value)) c.len.ensures ∙ sym (filled-repeated row value c.args.constant.now.count)) c.repeated_row-made.ensures.rows

pub returns-clause-dtype : goal.returns-clause-dtype
returns-clause-dtype g c =
    if_ok c.repeated_row-made.result (λ made same. same ∙ c.in_ok-filled.ensures.dtype ∙ ap (λ (k : Column). fill_dtype (column_dtype k)) c.in_ok-one.ensures.form) c.repeated_row-made.ensures.dtype

pub returns-in_err-filled-clause-refused : goal.returns-in_err-filled-clause-refused
returns-in_err-filled-clause-refused g c =
    let same = ap (λ (k : Column). fill_fault (column_dtype k) c.args.value.now) c.in_ok-one.ensures.form in
    refused-passed_on (fill_fault c.args.constant.now.dtype c.args.value.now) c.in_err-filled.field-0.0 c.from_residual-in_err-filled.result c.from_residual-in_err-filled.ensures.1
    (subst (λ (o : Option VortexError). IsErrorFor o c.in_err-filled.field-0.0) same c.in_err-filled.ensures.refused)
