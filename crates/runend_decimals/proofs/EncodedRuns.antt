-- What is made of the runs of an encoding, number by number.
use Rattle.std.proofs.Common.{◌≡◌, ◌∙◌, ℕ, ◌<◌, ℤ, Option, List, length, map, sym, ap, subst}
use Rattle.std.proofs.lemmas.List.{length-map}
use Rattle.std.proofs.lemmas.Simd.{map-map}
use Rattle.column_base.specs.declared.dtype.DType.{DType}
use Rattle.column_core.specs.Leaf.{Leaf, leaf_rows, single_rows}
use Rattle.column_core.specs.PrimitiveForm.{PrimitiveForm}
use Rattle.column_core.specs.Value.{Value}
use Rattle.runend_encode.specs.Encoding.{IsRowEncoding}
use Rattle.runend_encode.proofs.Starts.{length-single}
use Rattle.runend_floats.proofs.CoveredRows.{each_has_row, shown_mapped}
use Rattle.runend_windows.specs.Ends.{ends_of}
use Rattle.runend_windows.specs.Visible.{HasRow}
use Rattle.runend_windows.specs.Window.{IsWindow, last_end, run_rows}

module _ (rows : List (Option Value)) (dtype : DType) (ends : PrimitiveForm) (leaf : Leaf) (e : IsRowEncoding rows dtype ends leaf) where
  -- the runs are a window of as many rows as there are
  pub window_counted : (count : ℕ) → count ≡ length rows → IsWindow (ends_of ends) 0 count
  window_counted count counted = subst (λ (n : ℕ). IsWindow (ends_of ends) 0 n) (sym counted) e.cover.covers.window

  -- and each run shows one of them
  pub each_shown : (count : ℕ) → count ≡ length rows → (run : ℕ) → run < length (ends_of ends) → HasRow (ends_of ends) 0 count run
  each_shown count counted run within =
      subst (λ (n : ℕ). HasRow (ends_of ends) 0 n run) (sym counted) (each_has_row rows (ends_of ends) (single_rows leaf) e.cover run within)

  module _ (read : Option Value → Option ℤ) (numbers : List (Option ℤ)) (is : map read (single_rows leaf) ≡ numbers) where
    -- a number for each run
    pub read_paired : length numbers ≡ length (ends_of ends)
    read_paired = ap length (sym is) ∙ length-map (single_rows leaf) read ∙ e.cover.covers.paired

    -- the runs show the numbers that the rows are
    pub read_shown : run_rows (ends_of ends) numbers 0 (last_end (ends_of ends)) ≡ map read rows
    read_shown =
        ap (λ (ns : List (Option ℤ)). run_rows (ends_of ends) ns 0 (last_end (ends_of ends))) (sym is)
        ∙ shown_mapped read rows (ends_of ends) (single_rows leaf) (last_end (ends_of ends)) e.cover.covers (sym e.cover.exact.stop)

    -- the values that are made of the numbers are one for each run
    pub written_paired : (write : Option ℤ → Option Value) (made : Leaf) → single_rows made ≡ map write numbers → length (leaf_rows made) ≡ length (ends_of ends)
    written_paired write made same = sym (length-single made) ∙ ap length same ∙ length-map numbers write ∙ read_paired

    -- and the runs show what is made of the rows
    pub written_shown : (write : Option ℤ → Option Value) (made : Leaf) → single_rows made ≡ map write numbers → (count : ℕ) → count ≡ length rows
        → run_rows (ends_of ends) (single_rows made) 0 count ≡ map (λ row. write (read row)) rows
    written_shown write made same count counted =
        ap (λ (values : List (Option Value)). run_rows (ends_of ends) values 0 count)
        (same ∙ ap (map write) (sym is) ∙ map-map write read (single_rows leaf))
        ∙ shown_mapped (λ row. write (read row)) rows (ends_of ends) (single_rows leaf) count e.cover.covers (sym counted)
