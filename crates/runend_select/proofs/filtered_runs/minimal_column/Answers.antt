use Rattle.std.proofs.Common.{◌∙◌, List, Option, ap, length, sym}
use Rattle.std.specs.Prelude.{option_map}
use Rattle.std.proofs.lemmas.List.{length-map}
use Rattle.column_core.specs.PrimitiveForm.{primitive_rows}
use Rattle.column_core.specs.Value.{FlatValue, Single, Value}
use Rattle.runend_windows.specs.Window.{run_rows}
use Rattle.runend_column.specs.VisibleForm.{visible_ends, window_start}
use Rattle.runend_column.proofs.VisibleWindow.{visible_rows}
use Rattle.runend_column.proofs.ComputedRows.{ok_then}
use Rattle.runend_column.proofs.PassedOn.{no_value, only_error}
use Rattle.runend_select.proofs.filtered_runs.minimal_column.Goals as goal

pub with_minimal_runs-requires : goal.with_minimal_runs-requires
with_minimal_runs-requires g c =
    record {
      paired = sym (length-map (primitive_rows c.in_ok-numbers.numbers) (option_map (λ (v : FlatValue). Single v))) ∙ ap length c.in_ok-numbers.ensures.rows;
      computed = c.in_ok-numbers.ensures.computed;
    }

pub returns-clause-only : goal.returns-clause-only
returns-clause-only g c =
    c.with_minimal_runs.ensures.only

pub returns-clause-rows : goal.returns-clause-rows
returns-clause-rows g c =
    let array = c.args.array.now in
    let shown = ap (λ (rows : List (Option Value)). run_rows (visible_ends array) rows (window_start array.count array.offset) array.count) c.in_ok-numbers.ensures.rows in
    ok_then c.with_minimal_runs.result _ _ (λ least is. is ∙ shown ∙ visible_rows array c.in_ok-numbers.ensures.valid) c.with_minimal_runs.ensures.rows

pub returns-clause-dtype : goal.returns-clause-dtype
returns-clause-dtype g c =
    ok_then c.with_minimal_runs.result _ _ (λ least is. is ∙ c.in_ok-numbers.ensures.dtype) c.with_minimal_runs.ensures.dtype

pub returns-clause-form : goal.returns-clause-form
returns-clause-form g c =
    c.with_minimal_runs.ensures.form

pub returns-in_err-numbers-clause-only : goal.returns-in_err-numbers-clause-only
returns-in_err-numbers-clause-only g c =
    only_error c.from_residual.result c.in_err-numbers.field-0.0 _ c.from_residual.ensures.1 c.in_err-numbers.ensures.only

pub returns-in_err-numbers-clause-rows : goal.returns-in_err-numbers-clause-rows
returns-in_err-numbers-clause-rows g c =
    no_value _ c.from_residual.result c.from_residual.ensures.0

pub returns-in_err-numbers-clause-dtype : goal.returns-in_err-numbers-clause-dtype
returns-in_err-numbers-clause-dtype g c =
    no_value _ c.from_residual.result c.from_residual.ensures.0

pub returns-in_err-numbers-clause-form : goal.returns-in_err-numbers-clause-form
returns-in_err-numbers-clause-form g c =
    no_value _ c.from_residual.result c.from_residual.ensures.0
