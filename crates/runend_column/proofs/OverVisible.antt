-- Values that were put over the visible runs of a column.
use Rattle.std.proofs.Common.{◌≡◌, ◌∙◌, ℕ, List, length, sym, subst, ap}
use Rattle.std.specs.Prelude.{option_map}
use Rattle.std.proofs.lemmas.List.{length-map}
use Rattle.column_core.specs.Computed.{IsComputedLeaf}
use Rattle.column_core.specs.Leaf.{Leaf, OfNumbers, leaf_dtype, leaf_rows, single_rows}
use Rattle.column_core.specs.PrimitiveForm.{PrimitiveForm, primitive_dtype}
use Rattle.column_core.specs.Value.{FlatValue, Single}
use Rattle.runend_windows.specs.Ends.{IsEndsType, ends_of}
use Rattle.runend_windows.specs.Window.{run_rows, IsWindow}
use Rattle.runend_array.specs.Column.{AreParts, Column, OfLeaf, Runs, column_dtype, column_of_runs, column_rows, runs_of}
use Rattle.runend_array.specs.Encoding.{IsComputedFlat}
use Rattle.runend_column.specs.VisibleForm.{IsOverVisibleRuns, visible_ends, visible_values, window_start}
use Rattle.runend_column.proofs.VisibleWindow.{read_rows, read_window}

module _ (r : Runs) (ends : PrimitiveForm) (held : Column) (values : Leaf) (start total : ℕ) (ends_are : ends_of ends ≡ visible_ends r) (holds : held ≡ OfLeaf values)
    (starts : start ≡ window_start r.count r.offset) (counts : total ≡ r.count) where
  -- they are parts of a run column
  pub over_parts : IsEndsType (primitive_dtype ends) → IsWindow (visible_ends r) (window_start r.count r.offset) r.count → length (visible_values r) ≡ length (visible_ends r)
      → length (leaf_rows values) ≡ length (visible_values r) → AreParts (OfLeaf (OfNumbers ends)) held start total
  over_parts plain window pairs paired = record {
    plain = plain;
    runs = record {
      window = read_window r ends start total ends_are starts counts window;
      paired = ap (λ (h : Column). length (column_rows h)) holds ∙ length-map (leaf_rows values) (option_map (λ (v : FlatValue). Single v)) ∙ paired ∙ pairs ∙ sym (ap (λ (es : List ℕ). length es) ends_are);
    };
  }

  module _ (part : Runs) (made : part ≡ runs_of (OfLeaf (OfNumbers ends)) held start total) where
    -- that shows the values in its rows
    pub over_rows : column_rows (column_of_runs part) ≡ run_rows (visible_ends r) (single_rows values) (window_start r.count r.offset) r.count
    over_rows =
        ap (λ (p : Runs). column_rows (column_of_runs p)) made
        ∙ ap (λ (h : Column). run_rows (ends_of ends) (column_rows h) start total) holds
        ∙ read_rows r ends start total ends_are starts counts (single_rows values)

    pub over_dtype : column_dtype part.values ≡ leaf_dtype values
    over_dtype = ap (λ (p : Runs). column_dtype p.values) made ∙ ap column_dtype holds

    -- over the visible runs
    pub over_form : ends.ptype ≡ r.ends_type → IsComputedLeaf values → IsOverVisibleRuns r (column_of_runs part)
    over_form typed computed = record {
      ends_type = ap (λ (p : Runs). p.ends_type) made ∙ typed;
      ends = ap (λ (p : Runs). p.ends) made ∙ ends_are;
      offset = ap (λ (p : Runs). p.offset) made ∙ starts;
      count = ap (λ (p : Runs). p.count) made ∙ counts;
      values = subst IsComputedFlat (sym (ap (λ (p : Runs). p.values) made ∙ holds)) computed;
    }
