-- Rows of a run column cast, from its visible values cast.
use Rattle.std.proofs.Common.{◌≡◌, List, Option, Some, length, map, cond, sym, ap, ◌∙◌}
use Rattle.std.specs.Prelude.{option_map}
use Rattle.column_base.specs.declared.dtype.DType.{DType}
use Rattle.column_base.specs.declared.error.VortexError.{VortexError}
use Rattle.column_base.specs.declared.error.VortexError.TheVariants.{Unsupported}
use Rattle.column_core.specs.Value.{FlatValue, Single, Value}
use Rattle.column_core.specs.Leaf.{Leaf, leaf_dtype, leaf_rows, plain_leaf, single_rows}
use Rattle.column_ops.specs.Cast.{can_cast, cast_fault, cast_row_fault}
use Rattle.column_ops.specs.Fault.{first_fault}
use Rattle.column_ops.proofs.RowRanges.{length-single_rows}
use Rattle.runend_windows.specs.Window.{run_rows}
use Rattle.runend_array.specs.Column.{AreRuns, Runs, column_dtype, column_of_runs, column_rows, plain_of}
use Rattle.runend_column.specs.VisibleForm.{visible_ends, visible_values, window_start}
use Rattle.runend_map.proofs.FirstFaults.{visible_fault}
use Rattle.runend_column.proofs.VisibleWindow.{visible_rows}

module _ (r : Runs) (values : Leaf) (runs : AreRuns r) (shown : single_rows values ≡ visible_values r) where
  -- rows have the fault that visible values have
  pub same_fault : (to : DType) → leaf_dtype values ≡ column_dtype r.values → cast_fault (plain_leaf values) to ≡ cast_fault (plain_of (column_of_runs r)) to
  same_fault to same =
      ap (λ (from : DType). cond (can_cast from to) (first_fault (cast_row_fault to) (single_rows values)) (Some Unsupported)) same
      ∙ ap (λ (o : Option VortexError). cond (can_cast (column_dtype r.values) to) o (Some Unsupported)) (ap (first_fault (cast_row_fault to)) shown ∙ sym (visible_fault (cast_row_fault to) r runs))

  -- as many rows are cast
  pub cast_count : (made : Leaf) → leaf_rows made ≡ leaf_rows values → length (leaf_rows made) ≡ length (visible_values r)
  cast_count made same = ap length same ∙ sym (length-single_rows values) ∙ ap length shown

  -- and they are the same
  pub cast_rows : (made : Leaf) (rows : List (Option Value)) → leaf_rows made ≡ leaf_rows values
      → rows ≡ run_rows (visible_ends r) (single_rows made) (window_start r.count r.offset) r.count → rows ≡ column_rows (column_of_runs r)
  cast_rows made rows same rows_are =
      let each : single_rows made ≡ visible_values r = ap (map (option_map (λ (v : FlatValue). Single v))) same ∙ shown in
      rows_are ∙ ap (λ (xs : List (Option Value)). run_rows (visible_ends r) xs (window_start r.count r.offset) r.count) each ∙ visible_rows r runs
