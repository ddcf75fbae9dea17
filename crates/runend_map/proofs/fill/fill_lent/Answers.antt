use Rattle.std.proofs.Common.{◌∙◌, Option, ap, subst, sym}
use Rattle.column_core.specs.Leaf.{OfNumbers}
use Rattle.runend_array.specs.Array.{column_of, rows}
use Rattle.std.specs.Prelude.{IfOk}
use Rattle.runend_column.specs.MinimalForm.{IsRunForm}
use Rattle.runend_map.proofs.FilledRows.{filled_count, filled_dtype, filled_rows}
use Rattle.runend_column.proofs.FilledRows.{flat_computed}
use Rattle.runend_map.proofs.KeptRows.{if_ok}
use Rattle.column_base.specs.declared.dtype.DType.{DType}
use Rattle.column_base.specs.declared.error.VortexError.{VortexError}
use Rattle.column_core.specs.Refusal.{IsErrorFor}
use Rattle.column_ops.specs.Fill.{fill_fault}
use Rattle.column_ops.proofs.IndexPositions.{refused-passed_on}
use Rattle.runend_array.specs.Column.{column_dtype}
use Rattle.runend_map.proofs.OneKind.{no_fault}
use Rattle.runend_column.proofs.PassedOn.{no_value}
use Rattle.runend_map.proofs.fill.fill_lent.Goals as goal

pub over_runs-requires : goal.over_runs-requires
over_runs-requires g c = record {
  paired = filled_count c.args.array.now (OfNumbers c.args.numbers.now) (OfNumbers c.in_ok-filled.filled) c.args.value.now c.in_ok-filled.ensures.refused c.in_ok-filled.ensures.made
      c.requires.rows;
  computed = flat_computed (OfNumbers c.args.numbers.now) (OfNumbers c.in_ok-filled.filled) c.args.value.now c.in_ok-filled.ensures.refused c.in_ok-filled.ensures.made;
}

pub returns-clause-rows : goal.returns-clause-rows
returns-clause-rows g c =
    if_ok c.over_runs.result (λ filled rows_are.
    filled_rows c.args.array.now (OfNumbers c.args.numbers.now) (OfNumbers c.in_ok-filled.filled) c.args.value.now c.in_ok-filled.ensures.refused c.in_ok-filled.ensures.made
    (rows filled) c.requires.valid c.requires.rows rows_are) c.over_runs.ensures.rows

pub returns-clause-dtype : goal.returns-clause-dtype
returns-clause-dtype g c =
    if_ok c.over_runs.result (λ filled same.
    same ∙ filled_dtype c.args.array.now (OfNumbers c.args.numbers.now) (OfNumbers c.in_ok-filled.filled) c.args.value.now c.in_ok-filled.ensures.refused c.in_ok-filled.ensures.made
    c.requires.of_type) c.over_runs.ensures.dtype

pub returns-in_err-filled-clause-refused : goal.returns-in_err-filled-clause-refused
returns-in_err-filled-clause-refused g c =
    let same = ap (λ (d : DType). fill_fault d c.args.value.now) c.requires.of_type in
    refused-passed_on (fill_fault (column_dtype c.args.array.now.values) c.args.value.now) c.in_err-filled.field-0.0 c.from_residual.result c.from_residual.ensures.1
    (subst (λ (o : Option VortexError). IsErrorFor o c.in_err-filled.field-0.0) same c.in_err-filled.ensures.refused)

pub returns-clause-refused : goal.returns-clause-refused
returns-clause-refused g c =
    no_fault _ c.over_runs.result (sym (ap (λ (d : DType). fill_fault d c.args.value.now) c.requires.of_type) ∙ c.in_ok-filled.ensures.refused) c.over_runs.ensures.only

pub returns-clause-form : goal.returns-clause-form
returns-clause-form g c =
    subst (λ (d : DType). IfOk c.over_runs.result (λ filled. IsRunForm d c.args.array.now (column_of filled)))
    (filled_dtype c.args.array.now (OfNumbers c.args.numbers.now) (OfNumbers c.in_ok-filled.filled) c.args.value.now c.in_ok-filled.ensures.refused c.in_ok-filled.ensures.made
    c.requires.of_type) c.over_runs.ensures.form

pub returns-in_err-filled-clause-dtype : goal.returns-in_err-filled-clause-dtype
returns-in_err-filled-clause-dtype g c = no_value _ c.from_residual.result c.from_residual.ensures.0

pub returns-in_err-filled-clause-form : goal.returns-in_err-filled-clause-form
returns-in_err-filled-clause-form g c = no_value _ c.from_residual.result c.from_residual.ensures.0

pub returns-in_err-filled-clause-rows : goal.returns-in_err-filled-clause-rows
returns-in_err-filled-clause-rows g c = no_value _ c.from_residual.result c.from_residual.ensures.0
