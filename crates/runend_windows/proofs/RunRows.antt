-- The rows of runs as one list, and covers by it.
use Rattle.std.proofs.Common.{◌≡◌, ◌↔◌, ℕ, ◌+◌, ◌<◌, List, Option, Some, None, length, slice_index_or, refl, sym, subst, ◌∙◌, ap, arith}
use Rattle.std.proofs.lemmas.List.FromFn.{length-map-range_with_len, get_or-map-range_with_len}
use Rattle.std.proofs.lemmas.Option.{slice_get-get_or}
use Rattle.std.specs.List.{slice_get}
use Rattle.runend_windows.specs.Cover.{Covers}
use Rattle.runend_windows.specs.Window.{run_at, IsWindow}
use Rattle.runend_windows.specs.Window.{run_rows}
use Rattle.runend_windows.proofs.RunAt.{run_of_row_within}
use Rattle.runend_windows.proofs.ShownRuns.{equal_from_Covers}

pub length-run_rows : {B : Type 0} (ends : List ℕ) (values : List (Option B)) (offset count : ℕ) → length (run_rows ends values offset count) ≡ count
length-run_rows ends values offset count = length-map-range_with_len _ offset count

-- a row, whatever the window
pub slice_get-run_rows : {B : Type 0} (ends : List ℕ) (values : List (Option B)) (offset count i : ℕ) → i < count
    → slice_get (run_rows ends values offset count) i ≡ Some (slice_index_or values (run_at ends (offset + i)) None)
slice_get-run_rows ends values offset count i h =
    let counted = length-run_rows ends values offset count in
    slice_get-get_or (run_rows ends values offset count) i None (omega arith)
    ∙ ap Some (get_or-map-range_with_len _ offset count i (offset + i) None h refl)

-- a row of a valid window is the value of its run
pub slice_get-run_rows_of_window : {B : Type 0} (ends : List ℕ) (values : List (Option B)) (offset count i : ℕ) → IsWindow ends offset count → length values ≡ length ends
    → i < count → slice_get (run_rows ends values offset count) i ≡ slice_get values (run_at ends (offset + i))
slice_get-run_rows_of_window ends values offset count i window paired h =
    let within = run_of_row_within ends offset count i window h in
    slice_get-run_rows ends values offset count i h ∙ sym (slice_get-get_or values (run_at ends (offset + i)) None (omega arith))

-- the rows of a valid window are covered
pub Covers-run_rows : {B : Type 0} (ends : List ℕ) (values : List (Option B)) (offset count : ℕ) → IsWindow ends offset count → length values ≡ length ends
    → Covers (run_rows ends values offset count) ends values offset count
Covers-run_rows ends values offset count window paired = record {
  window = window;
  paired = paired;
  counted = length-run_rows ends values offset count;
  each = λ i h. slice_get-run_rows_of_window ends values offset count i window paired h;
}

-- over valid parts the lists covered are just those rows
pub Covers_iff_run_rows : {B : Type 0} (rows : List (Option B)) (ends : List ℕ) (values : List (Option B)) (offset count : ℕ) → IsWindow ends offset count
    → length values ≡ length ends → Covers rows ends values offset count ↔ (rows ≡ run_rows ends values offset count)
Covers_iff_run_rows {B} rows ends values offset count window paired =
    let whole = Covers-run_rows ends values offset count window paired in (
      (λ cover. equal_from_Covers rows (run_rows ends values offset count) ends values offset count cover whole),
      (λ same. subst (λ (xs : List (Option B)). Covers xs ends values offset count) (sym same) whole),
    )
