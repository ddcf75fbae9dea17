use Rattle.std.proofs.Common.{◌∙◌, true, ap, sym}
use Rattle.std.proofs.lemmas.List.{length-replicate}
use Rattle.column_core.specs.Kinds.{is_numbers}
use Rattle.column_core.specs.Leaf.{OfNumbers, single_rows}
use Rattle.runend_array.specs.Column.{column_dtype, column_rows}
use Rattle.runend_column.proofs.ComputedRows.{ok_then}
use Rattle.runend_column.proofs.FilterFaults.{all_selected}
use Rattle.runend_select.proofs.MinimalForms.{number_lists, single_count}
use Rattle.runend_column.proofs.PassedOn.{no_value, only_error}
use Rattle.runend_select.proofs.filtered_runs.visible_numbers.Goals as goal

pub visible_values-requires : goal.visible_values-requires
visible_values-requires g c =
    record { single = number_lists (column_dtype c.args.array.now.values) c.requires.numbers }

pub numbers_in-shown-requires : goal.numbers_in-shown-requires
numbers_in-shown-requires g c =
    record {
      numbers = ap is_numbers (ap column_dtype c.array_of.ensures ∙ c.in_ok-values.ensures.dtype) ∙ c.requires.numbers;
      flat = rw c.array_of.ensures tt;
    }

pub selected_by-numbers-requires : goal.selected_by-numbers-requires
selected_by-numbers-requires g c =
    record { masked = length-replicate c.len.result true ∙ c.len.ensures.rows ∙ sym (single_count (OfNumbers c.numbers_in-shown.result)) }

pub returns-clause-only : goal.returns-clause-only
returns-clause-only g c =
    c.selected_by-numbers.ensures.only

pub returns-clause-rows : goal.returns-clause-rows
returns-clause-rows g c =
    let shown = OfNumbers c.numbers_in-shown.result in
    let same = sym c.numbers_in-shown.ensures ∙ c.array_of.ensures in
    let all = all_selected c.len.result (single_rows shown) (c.len.ensures.rows ∙ sym (single_count shown)) in
    ok_then c.selected_by-numbers.result _ _ (λ numbers made. made.rows ∙ sym all ∙ ap column_rows same ∙ c.in_ok-values.ensures.rows) c.selected_by-numbers.ensures.made

pub returns-clause-dtype : goal.returns-clause-dtype
returns-clause-dtype g c =
    let same = sym c.numbers_in-shown.ensures ∙ c.array_of.ensures in
    ok_then c.selected_by-numbers.result _ _ (λ numbers made. made.dtype ∙ ap column_dtype same ∙ c.in_ok-values.ensures.dtype) c.selected_by-numbers.ensures.made

pub returns-clause-computed : goal.returns-clause-computed
returns-clause-computed g c =
    ok_then c.selected_by-numbers.result _ _ (λ numbers made. made.form) c.selected_by-numbers.ensures.made

pub returns-clause-valid : goal.returns-clause-valid
returns-clause-valid g c =
    c.in_ok-values.ensures.valid

pub returns-in_err-values-clause-only : goal.returns-in_err-values-clause-only
returns-in_err-values-clause-only g c =
    only_error c.from_residual.result c.in_err-values.field-0.0 _ c.from_residual.ensures.1 c.in_err-values.ensures.only

pub returns-in_err-values-clause-rows : goal.returns-in_err-values-clause-rows
returns-in_err-values-clause-rows g c =
    no_value _ c.from_residual.result c.from_residual.ensures.0

pub returns-in_err-values-clause-dtype : goal.returns-in_err-values-clause-dtype
returns-in_err-values-clause-dtype g c =
    no_value _ c.from_residual.result c.from_residual.ensures.0

pub returns-in_err-values-clause-computed : goal.returns-in_err-values-clause-computed
returns-in_err-values-clause-computed g c =
    no_value _ c.from_residual.result c.from_residual.ensures.0

pub returns-in_err-values-clause-valid : goal.returns-in_err-values-clause-valid
returns-in_err-values-clause-valid g c =
    c.in_err-values.ensures.valid
