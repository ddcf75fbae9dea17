-- Rows of a run column filled, from its visible values filled.
use Rattle.std.proofs.Common.{◌≡◌, List, Option, Some, None, length, map, sym, ap, subst, ◌∙◌}
use Rattle.std.specs.Prelude.{IfSome, option_map, unwrap_or}
use Rattle.std.proofs.lemmas.List.{length-map}
use Rattle.column_core.specs.Value.{FlatValue, Single, Value}
use Rattle.column_core.specs.Leaf.{Leaf, leaf_dtype, leaf_rows, single_rows}
use Rattle.column_core.specs.ScalarForm.{ScalarForm}
use Rattle.column_ops.specs.Computed.{IsMade}
use Rattle.column_ops.specs.Fill.{fill_dtype, fill_fault, fill_rows}
use Rattle.column_ops.proofs.RowRanges.{length-single_rows}
use Rattle.runend_windows.specs.Window.{run_rows}
use Rattle.runend_array.specs.Column.{AreRuns, Runs, column_dtype, column_of_runs, column_rows}
use Rattle.runend_column.specs.VisibleForm.{visible_ends, visible_values, window_start}
use Rattle.runend_column.proofs.FilledRows.{filling, single-filled}
use Rattle.runend_map.proofs.KeptRows.{mapped_rows}

module _ (r : Runs) (values filled : Leaf) (scalar : ScalarForm) (none : fill_fault (leaf_dtype values) scalar ≡ None)
    (made : IfSome scalar.value (λ value. IsMade (fill_rows (leaf_rows values) value) (fill_dtype (leaf_dtype values)) filled)) where
  abbrev by : (v : FlatValue) × (scalar.value ≡ Some v) × IsMade (fill_rows (leaf_rows values) v) (fill_dtype (leaf_dtype values)) filled
  by = filling (leaf_dtype values) scalar (λ value. IsMade (fill_rows (leaf_rows values) value) (fill_dtype (leaf_dtype values)) filled) none made

  -- as many rows are filled
  pub filled_count : single_rows values ≡ visible_values r → length (leaf_rows filled) ≡ length (visible_values r)
  filled_count shown =
      ap length by.2.rows ∙ length-map (leaf_rows values) (λ (row : Option FlatValue). Some (unwrap_or row by.0)) ∙ sym (length-single_rows values) ∙ ap length shown

  -- of the column's kind
  pub filled_dtype : leaf_dtype values ≡ column_dtype r.values → leaf_dtype filled ≡ fill_dtype (column_dtype r.values)
  filled_dtype same = by.2.dtype ∙ ap fill_dtype same

  -- with the value in place of each null
  pub filled_rows : (rows : List (Option Value)) → AreRuns r → single_rows values ≡ visible_values r
      → rows ≡ run_rows (visible_ends r) (single_rows filled) (window_start r.count r.offset) r.count
      → IfSome scalar.value (λ flat. rows ≡ fill_rows (column_rows (column_of_runs r)) (Single flat))
  filled_rows rows runs shown rows_are =
      let f : Option Value → Option Value = λ row. Some (unwrap_or row (Single by.0)) in
      let each : single_rows filled ≡ map f (visible_values r) =
      ap (map (option_map (λ (v : FlatValue). Single v))) by.2.rows ∙ single-filled (leaf_rows values) by.0 ∙ ap (map f) shown in
      subst (λ (o : Option FlatValue). IfSome o (λ flat. rows ≡ fill_rows (column_rows (column_of_runs r)) (Single flat))) (sym by.1)
      (rows_are ∙ mapped_rows f r (single_rows filled) runs each)
