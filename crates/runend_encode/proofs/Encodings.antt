-- Encodings from their parts.
use Rattle.std.proofs.Common.{◌≡◌, ◌∙◌, ◌<◌, ◌≤◌, ℕ, List, Option, length, map, sym, subst, arith}
use Rattle.std.specs.Prelude.{All}
use Rattle.std.specs.List.Sorted.{IsStrictlyIncreasing}
use Rattle.column_base.specs.declared.dtype.DType.{DType}
use Rattle.column_base.specs.Types.{IsLeastFor}
use Rattle.column_core.specs.Leaf.{Leaf, leaf_dtype, leaf_rows, single_rows, OfNumbers}
use Rattle.column_core.specs.PrimitiveForm.{PrimitiveForm}
use Rattle.column_core.specs.Value.{Value}
use Rattle.runend_windows.specs.Cover.{IsTightCover}
use Rattle.runend_windows.specs.Encoding.{IsFlatEncoding}
use Rattle.runend_windows.specs.Visible.{HasRow}
use Rattle.runend_windows.specs.Window.{IsWindow, last_end, run_rows}
use Rattle.runend_windows.proofs.Widths.{le-last_end}
use Rattle.runend_encode.specs.Encoding.{AreLeastEnds, AreRunValues, IsRowEncoding}
use Rattle.runend_encode.specs.Windows.{start_in}
use Rattle.runend_encode.proofs.Starts.{length-single}
use Rattle.runend_encode.proofs.Windows.{IsTightCover-of_window}

-- of integers, as their encoder answers
pub IsRowEncoding-of_numbers : (array ends values : PrimitiveForm) → IsFlatEncoding array ends values
    → IsRowEncoding (single_rows (OfNumbers array)) (leaf_dtype (OfNumbers array)) ends (OfNumbers values)
IsRowEncoding-of_numbers array ends values e = record { cover = e.cover; typed = e.dtype; computed = e.computed; required = e.required; narrow = e.narrow }

-- of run values, and the least ends
pub IsRowEncoding-of_runs : (rows : List (Option Value)) (dtype : DType) (wanted : List ℕ) (ends : PrimitiveForm) (values : Leaf) → AreRunValues rows dtype wanted values → AreLeastEnds wanted ends
    → IsRowEncoding rows dtype ends values
IsRowEncoding-of_runs rows dtype wanted ends values runs least = record {
  cover = subst (λ (es : List ℕ). IsTightCover rows es (single_rows values)) (sym least.shown) runs.cover;
  typed = runs.typed;
  computed = runs.computed;
  required = least.required;
  narrow = subst (λ (es : List ℕ). IsLeastFor (last_end es) ends.ptype) (sym least.shown) least.narrow;
}

-- ends of runs increase
pub runs-increasing : (rows : List (Option Value)) (dtype : DType) (ends : List ℕ) (values : Leaf) → AreRunValues rows dtype ends values → IsStrictlyIncreasing ends
runs-increasing rows dtype ends values runs = runs.cover.covers.window.increasing

-- and none is after the last row
pub runs-within : (rows : List (Option Value)) (dtype : DType) (ends : List ℕ) (values : Leaf) (count : ℕ) → length rows ≡ count → AreRunValues rows dtype ends values → All (λ run. run ≤ count) ends
runs-within rows dtype ends values count counted runs k d within =
    let below = le-last_end ends k d runs.cover.covers.window.increasing within in
    let stop = runs.cover.exact.stop in
    omega arith

-- run values of the values of runs are those of the rows that the runs show
pub AreRunValues-shown : (leaf : Leaf) (ends : List ℕ) (offset count : ℕ) (joined : List ℕ) (values : Leaf)
    → IsWindow ends offset count → length (leaf_rows leaf) ≡ length ends → ((run : ℕ) → run < length ends → HasRow ends offset count run)
    → AreRunValues (single_rows leaf) (leaf_dtype leaf) joined values
    → AreRunValues (run_rows ends (single_rows leaf) offset count) (leaf_dtype leaf) (map (start_in ends offset count) joined) values
AreRunValues-shown leaf ends offset count joined values window paired shown runs = record {
  cover = IsTightCover-of_window ends (single_rows leaf) offset count joined (single_rows values) window (length-single leaf ∙ paired) shown runs.cover;
  typed = runs.typed;
  computed = runs.computed;
}
