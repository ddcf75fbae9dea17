use Rattle.std.proofs.Common.{subst, sym, ap, ◌∙◌}
use Rattle.runend_array.specs.Column.{Runs, column_dtype, column_rows}
use Rattle.runend_array.specs.Encoding.{IsComputedFlat}
use Rattle.runend_select.specs.FilterForm.{HasNoRuns}
use Rattle.runend_column.proofs.ComputedRows.{ok_then}
use Rattle.runend_column.proofs.PassedOn.{no_value, only_error}
use Rattle.runend_select.proofs.filters.without_rows.Goals as goal

pub returns-in_err-ends-clause-only : goal.returns-in_err-ends-clause-only
returns-in_err-ends-clause-only g c = only_error c.from_residual.result c.in_err-ends.field-0.0 _ c.from_residual.ensures.1 c.in_err-ends.ensures.only

pub returns-in_err-ends-clause-dtype : goal.returns-in_err-ends-clause-dtype
returns-in_err-ends-clause-dtype g c = no_value _ c.from_residual.result c.from_residual.ensures.0

pub returns-in_err-ends-clause-form : goal.returns-in_err-ends-clause-form
returns-in_err-ends-clause-form g c = no_value _ c.from_residual.result c.from_residual.ensures.0

pub returns-clause-only : goal.returns-clause-only
returns-clause-only g c = c.of_runs.ensures.only

pub returns-clause-dtype : goal.returns-clause-dtype
returns-clause-dtype g c =
    let is = c.new_unchecked-none.ensures in
    ok_then c.of_runs.result _ _
    (λ none same. ap column_dtype same ∙ ap (λ (r : Runs). column_dtype r.values) is ∙ c.in-Ok.ensures.dtype ∙ ap column_dtype c.values.ensures.form) c.of_runs.ensures.form

pub returns-clause-form : goal.returns-clause-form
returns-clause-form g c =
    let is = c.new_unchecked-none.ensures in
    ok_then c.of_runs.result _ _
    (λ none same. subst (HasNoRuns c.args.array.now) (sym same) (
      ap (λ (r : Runs). r.ends_type) is ∙ c.in_ok-ends.ensures.typed,
      ap (λ (r : Runs). r.ends) is ∙ c.in_ok-ends.ensures.ends,
      ap (λ (r : Runs). column_rows r.values) is ∙ c.in-Ok.ensures.rows,
      subst (λ (r : Runs). IsComputedFlat r.values) (sym is) c.in-Ok.ensures.flat,
      ap (λ (r : Runs). r.offset) is,
      ap (λ (r : Runs). r.count) is,
    )) c.of_runs.ensures.form
