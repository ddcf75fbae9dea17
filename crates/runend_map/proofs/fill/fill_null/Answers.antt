use Rattle.std.proofs.Common.{◌∙◌, Option, ap, inl, inr, subst, sym}
use Rattle.column_core.specs.FlatColumn.{leaf_of}
use Rattle.runend_array.specs.Array.{column_of, rows}
use Rattle.std.specs.Prelude.{IfOk}
use Rattle.runend_column.specs.MinimalForm.{IsRunForm}
use Rattle.runend_map.proofs.FilledRows.{filled_count, filled_dtype, filled_rows}
use Rattle.runend_column.proofs.FilledRows.{flat_computed, lists_refused}
use Rattle.runend_map.proofs.KeptRows.{if_ok}
use Rattle.column_base.specs.declared.dtype.DType.{DType}
use Rattle.column_base.specs.declared.error.VortexError.{VortexError}
use Rattle.column_core.specs.Refusal.{IsErrorFor}
use Rattle.column_core.specs.Value.{IsLists}
use Rattle.column_ops.specs.Fill.{fill_fault}
use Rattle.column_ops.proofs.IndexPositions.{refused-passed_on}
use Rattle.runend_array.specs.Column.{column_dtype}
use Rattle.runend_map.proofs.OneKind.{no_fault}
use Rattle.runend_column.proofs.PassedOn.{no_value}
use Rattle.runend_map.proofs.fill.fill_null.Goals as goal

pub over_runs-requires : goal.over_runs-requires
over_runs-requires g c = record {
  paired = filled_count c.args.array.now (leaf_of c.in_ok-values.values) (leaf_of c.in_ok-filled.filled) c.args.value.now c.in_ok-filled.ensures.refused c.in_ok-filled.ensures.made
      c.in_ok-values.ensures.rows;
  computed = flat_computed (leaf_of c.in_ok-values.values) (leaf_of c.in_ok-filled.filled) c.args.value.now c.in_ok-filled.ensures.refused c.in_ok-filled.ensures.made;
}

pub returns-clause-rows : goal.returns-clause-rows
returns-clause-rows g c =
    if_ok c.over_runs.result (λ filled rows_are.
    filled_rows c.args.array.now (leaf_of c.in_ok-values.values) (leaf_of c.in_ok-filled.filled) c.args.value.now c.in_ok-filled.ensures.refused c.in_ok-filled.ensures.made
    (rows filled) c.in_ok-values.ensures.valid c.in_ok-values.ensures.rows rows_are) c.over_runs.ensures.rows

pub returns-clause-dtype : goal.returns-clause-dtype
returns-clause-dtype g c =
    if_ok c.over_runs.result (λ filled same.
    same ∙ filled_dtype c.args.array.now (leaf_of c.in_ok-values.values) (leaf_of c.in_ok-filled.filled) c.args.value.now c.in_ok-filled.ensures.refused c.in_ok-filled.ensures.made
    c.in_ok-values.ensures.dtype) c.over_runs.ensures.dtype

pub returns-then-is_list_type : goal.returns-then-is_list_type
returns-then-is_list_type g c =
    let lists = subst IsLists c.dtype.ensures (c.is_list_type.ensures.lists.0 c.if-is_list_type.true) in
    record {
      refused = inr (lists_refused (column_dtype c.args.array.now.values) c.args.value.now lists);
      rows = tt;
      dtype = tt;
      form = tt;
      session = λ i. c.args.ctx.now;
    }

pub visible_values-requires : goal.visible_values-requires
visible_values-requires g c = record { single = λ lists. let yes = c.is_list_type.ensures.lists.1 (subst IsLists (sym c.dtype.ensures) lists) in let no = c.if-is_list_type.false in cc }

pub returns-in_err-filled-clause-refused : goal.returns-in_err-filled-clause-refused
returns-in_err-filled-clause-refused g c =
    let same = ap (λ (d : DType). fill_fault d c.args.value.now) c.in_ok-values.ensures.dtype in
    refused-passed_on (fill_fault (column_dtype c.args.array.now.values) c.args.value.now) c.in_err-filled.field-0.0 c.from_residual-in_err-filled.result c.from_residual-in_err-filled.ensures.1
    (subst (λ (o : Option VortexError). IsErrorFor o c.in_err-filled.field-0.0) same c.in_err-filled.ensures.refused)

pub returns-clause-refused : goal.returns-clause-refused
returns-clause-refused g c =
    no_fault _ c.over_runs.result (sym (ap (λ (d : DType). fill_fault d c.args.value.now) c.in_ok-values.ensures.dtype) ∙ c.in_ok-filled.ensures.refused) c.over_runs.ensures.only

pub returns-clause-form : goal.returns-clause-form
returns-clause-form g c =
    subst (λ (d : DType). IfOk c.over_runs.result (λ filled. IsRunForm d c.args.array.now (column_of filled)))
    (filled_dtype c.args.array.now (leaf_of c.in_ok-values.values) (leaf_of c.in_ok-filled.filled) c.args.value.now c.in_ok-filled.ensures.refused c.in_ok-filled.ensures.made
    c.in_ok-values.ensures.dtype) c.over_runs.ensures.form

pub returns-in_err-filled-clause-dtype : goal.returns-in_err-filled-clause-dtype
returns-in_err-filled-clause-dtype g c = no_value _ c.from_residual-in_err-filled.result c.from_residual-in_err-filled.ensures.0

pub returns-in_err-filled-clause-form : goal.returns-in_err-filled-clause-form
returns-in_err-filled-clause-form g c = no_value _ c.from_residual-in_err-filled.result c.from_residual-in_err-filled.ensures.0

pub returns-in_err-filled-clause-rows : goal.returns-in_err-filled-clause-rows
returns-in_err-filled-clause-rows g c = no_value _ c.from_residual-in_err-filled.result c.from_residual-in_err-filled.ensures.0

pub returns-in_err-values-clause-dtype : goal.returns-in_err-values-clause-dtype
returns-in_err-values-clause-dtype g c = no_value _ c.from_residual.result c.from_residual.ensures.0

pub returns-in_err-values-clause-form : goal.returns-in_err-values-clause-form
returns-in_err-values-clause-form g c = no_value _ c.from_residual.result c.from_residual.ensures.0

pub returns-in_err-values-clause-refused : goal.returns-in_err-values-clause-refused
returns-in_err-values-clause-refused g c =
    refused-passed_on (fill_fault (column_dtype c.args.array.now.values) c.args.value.now) c.in_err-values.field-0.0 c.from_residual.result c.from_residual.ensures.1 (inl c.in_err-values.ensures.only)

pub returns-in_err-values-clause-rows : goal.returns-in_err-values-clause-rows
returns-in_err-values-clause-rows g c = no_value _ c.from_residual.result c.from_residual.ensures.0
