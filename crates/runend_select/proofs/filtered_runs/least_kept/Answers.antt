use Rattle.std.proofs.Common.{◌∙◌, ℕ, List, Option, ap, length, sym, subst}
use Rattle.std.specs.Prelude.{option_map}
use Rattle.std.proofs.lemmas.List.{length-map}
use Rattle.column_base.specs.declared.dtype.PType.{PType}
use Rattle.column_core.specs.Kinds.{is_numbers}
use Rattle.column_core.specs.PrimitiveForm.{primitive_rows}
use Rattle.column_core.specs.Value.{FlatValue, Single, Value}
use Rattle.runend_array.specs.Array.{column_of}
use Rattle.runend_array.specs.Column.{Column, column_dtype, column_rows}
use Rattle.runend_array.specs.Encoding.{IsComputedFlat}
use Rattle.runend_windows.specs.Ends.{ends_of}
use Rattle.runend_windows.specs.Window.{run_rows, IsWindow}
use Rattle.runend_windows.proofs.Ends.{length_ends_of}
use Rattle.runend_encode.specs.Joined.{AllHaveRows}
use Rattle.runend_column.specs.MinimalForm.{AreMinimalRuns}
use Rattle.runend_column.proofs.ComputedRows.{ok_then}
use Rattle.runend_select.proofs.MinimalForms.{flat_of_computed}
use Rattle.runend_column.proofs.PassedOn.{no_value, only_error}
use Rattle.runend_select.proofs.filtered_runs.least_kept.Goals as goal

pub numbers_in-numbers-requires : goal.numbers_in-numbers-requires
numbers_in-numbers-requires g c =
    record {
      numbers = ap is_numbers c.in_ok-ends.ensures.dtype ∙ c.requires.numbers;
      flat = flat_of_computed (column_of c.in_ok-ends.values) c.in_ok-ends.ensures.form.flat;
    }

pub minimal_runs-requires : goal.minimal_runs-requires
minimal_runs-requires g c =
    let ends = c.in_ok-ends.ends in
    let numbers = c.numbers_in-numbers.result in
    let parts = c.in_ok-ends.ensures.parts in
    record {
      plain = parts.plain;
      window = subst (λ (n : ℕ). IsWindow (ends_of ends) 0 n) (sym c.requires.counted) parts.runs.window;
      paired = sym (length-map (primitive_rows numbers) (option_map (λ (v : FlatValue). Single v))) ∙ ap (λ (column : Column). length (column_rows column)) (sym c.numbers_in-numbers.ensures)
          ∙ parts.runs.paired ∙ length_ends_of ends;
      shown = subst (λ (n : ℕ). AllHaveRows (ends_of ends) 0 n) (sym c.requires.counted) c.in_ok-ends.ensures.filled;
      computed = subst IsComputedFlat c.numbers_in-numbers.ensures c.in_ok-ends.ensures.form.flat;
    }

pub returns-clause-only : goal.returns-clause-only
returns-clause-only g c =
    c.minimal_runs.ensures.only

pub returns-clause-rows : goal.returns-clause-rows
returns-clause-rows g c =
    let ends = ends_of c.in_ok-ends.ends in
    let values = sym (ap column_rows c.numbers_in-numbers.ensures) in
    ok_then c.minimal_runs.result _ _
    (λ least is. is ∙ ap (λ (rows : List (Option Value)). run_rows ends rows 0 c.args.count) values ∙ ap (run_rows ends (column_rows (column_of c.in_ok-ends.values)) 0) c.requires.counted
    ∙ c.in_ok-ends.ensures.rows) c.minimal_runs.ensures.rows

pub returns-clause-dtype : goal.returns-clause-dtype
returns-clause-dtype g c =
    ok_then c.minimal_runs.result _ _ (λ least is. is ∙ sym (ap column_dtype c.numbers_in-numbers.ensures) ∙ c.in_ok-ends.ensures.dtype) c.minimal_runs.ensures.dtype

pub returns-clause-form : goal.returns-clause-form
returns-clause-form g c =
    ok_then c.minimal_runs.result _ _ (λ least form. subst (λ (t : PType). AreMinimalRuns t least) c.in_ok-ends.ensures.form.ends_type form) c.minimal_runs.ensures.form

pub returns-in_err-ends-clause-only : goal.returns-in_err-ends-clause-only
returns-in_err-ends-clause-only g c =
    only_error c.from_residual.result c.in_err-ends.field-0.0 _ c.from_residual.ensures.1 c.in_err-ends.ensures.only

pub returns-in_err-ends-clause-rows : goal.returns-in_err-ends-clause-rows
returns-in_err-ends-clause-rows g c =
    no_value _ c.from_residual.result c.from_residual.ensures.0

pub returns-in_err-ends-clause-dtype : goal.returns-in_err-ends-clause-dtype
returns-in_err-ends-clause-dtype g c =
    no_value _ c.from_residual.result c.from_residual.ensures.0

pub returns-in_err-ends-clause-form : goal.returns-in_err-ends-clause-form
returns-in_err-ends-clause-form g c =
    no_value _ c.from_residual.result c.from_residual.ensures.0
