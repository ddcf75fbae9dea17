-- Values of any form that are put over the visible runs of a column.
use Rattle.std.proofs.Common.{◌≡◌, ℕ, List, length, sym, ◌∙◌, ap}
use Rattle.column_core.specs.PrimitiveForm.{PrimitiveForm, primitive_dtype}
use Rattle.column_core.specs.Leaf.{OfNumbers}
use Rattle.runend_windows.specs.Ends.{IsEndsType, ends_of}
use Rattle.runend_windows.specs.Window.{IsWindow, run_rows}
use Rattle.runend_array.specs.Column.{AreParts, Column, OfLeaf, Runs, column_dtype, column_of_runs, column_rows, runs_of}
use Rattle.runend_column.specs.VisibleForm.{visible_ends, visible_values, window_start}
use Rattle.runend_column.proofs.VisibleWindow.{read_rows, read_window}

module _ (r : Runs) (ends : PrimitiveForm) (values : Column) (start total : ℕ) (ends_are : ends_of ends ≡ visible_ends r)
    (starts : start ≡ window_start r.count r.offset) (counts : total ≡ r.count) where
  -- they are parts of a run column
  pub values_parts : IsEndsType (primitive_dtype ends) → IsWindow (visible_ends r) (window_start r.count r.offset) r.count → length (visible_values r) ≡ length (visible_ends r)
      → length (column_rows values) ≡ length (visible_values r) → AreParts (OfLeaf (OfNumbers ends)) values start total
  values_parts plain window pairs paired = record {
    plain = plain;
    runs = record { window = read_window r ends start total ends_are starts counts window; paired = paired ∙ pairs ∙ sym (ap (λ (es : List ℕ). length es) ends_are) };
  }

  module _ (part : Runs) (made : part ≡ runs_of (OfLeaf (OfNumbers ends)) values start total) where
    -- that shows the values in its rows
    pub values_rows : column_rows (column_of_runs part) ≡ run_rows (visible_ends r) (column_rows values) (window_start r.count r.offset) r.count
    values_rows = ap (λ (p : Runs). column_rows (column_of_runs p)) made ∙ read_rows r ends start total ends_are starts counts (column_rows values)

    -- in their type
    pub values_dtype : column_dtype part.values ≡ column_dtype values
    values_dtype = ap (λ (p : Runs). column_dtype p.values) made
