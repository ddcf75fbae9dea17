use Rattle.std.proofs.Common.{◌≡◌, ◌∙◌, List, Option, map, ap}
use Rattle.std.specs.Prelude.{option_map}
use Rattle.column_core.specs.BoolForm.{bool_dtype, bool_rows}
use Rattle.column_core.specs.FlatColumn.{leaf_of}
use Rattle.column_core.specs.Leaf.{OfTruths, leaf_dtype, single_rows}
use Rattle.column_core.specs.Value.{FlatValue, Single, Value}
use Rattle.column_base.specs.declared.dtype.DType.{DType}
use Rattle.column_ops.specs.CompareFault.{compare_scalar_fault}
use Rattle.column_ops.specs.Comparing.{compare_dtype, compare_with, compared}
use Rattle.runend_column.specs.VisibleForm.{visible_values}
use Rattle.runend_column.proofs.PassedOn.{no_value, only_error}
use Rattle.runend_map.proofs.ComparedRows.{compared_count, stored_computed}
use Rattle.runend_map.proofs.KeptRows.{if_ok, mapped_rows}
use Rattle.runend_map.proofs.OneKind.{no_lists}
use Rattle.runend_array.specs.Column.{column_dtype}
use Rattle.tables.proofs.comparisons.compare_values_of_runs.Goals as goal

pub visible_values-requires : goal.visible_values-requires
visible_values-requires g c = record { single = no_lists (column_dtype c.args.runs.now.values) c.args.value.now.dtype c.requires.kind }

pub over_visible_runs-requires : goal.over_visible_runs-requires
over_visible_runs-requires g c = record {
  paired = compared_count c.args.operator (option_map (λ (v : FlatValue). Single v) c.args.value.now.value) (bool_rows c.in_ok-truths.truths) (single_rows (leaf_of c.in_ok-values.values))
      (visible_values c.args.runs.now) c.in_ok-truths.ensures.rows c.in_ok-values.ensures.rows;
  computed = stored_computed c.in_ok-truths.truths c.in_ok-truths.ensures.stored;
}

pub returns-clause-rows : goal.returns-clause-rows
returns-clause-rows g c =
    let right = option_map (λ (v : FlatValue). Single v) c.args.value.now.value in
    let f : Option Value → Option Value = λ row. compared c.args.operator row right in
    let each : single_rows (OfTruths c.in_ok-truths.truths) ≡ map f (visible_values c.args.runs.now) =
    c.in_ok-truths.ensures.rows ∙ ap (λ (xs : List (Option Value)). compare_with c.args.operator xs right) c.in_ok-values.ensures.rows in
    if_ok c.over_visible_runs.result (λ truths rows_are. rows_are ∙ mapped_rows f c.args.runs.now (single_rows (OfTruths c.in_ok-truths.truths)) c.in_ok-values.ensures.valid each) c.over_visible_runs.ensures.rows
