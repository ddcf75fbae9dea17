-- Lists that runs of lists show.
use Rattle.std.proofs.Common.{◌≡◌, ◌<◌, ◌+◌, ℕ, List, Bool, false, Option, Some, None, cond, length, refl, sym, ◌∙◌, ap, arith}
use Rattle.std.specs.List.{slice_get}
use Rattle.std.specs.Prelude.{slice_index, slice_index_or, slice_range}
use Rattle.std.proofs.lemmas.List.FromFn.{get_or-map-range_with_len}
use Rattle.column_base.specs.declared.dtype.PType.{PType}
use Rattle.column_base.specs.declared.dtype.DType.TheVariants as column
use Rattle.column_base.specs.ValidityForm.{NeverNull, NoneNull, AllNull, ByBits}
use Rattle.column_core.specs.Value.{Value, Items}
use Rattle.column_core.specs.Leaf.{Leaf, leaf_dtype, leaf_rows}
use Rattle.runend_windows.specs.Window.{run_at, IsWindow}
use Rattle.column_core.specs.PrimitiveForm.{PrimitiveForm}
use Rattle.runend_windows.specs.Ends.{ends_of}
use Rattle.runend_windows.specs.Window.{run_rows}
use Rattle.runend_array.specs.Lists.{AreLists, ByRows, ByRuns, HasRows, Index, Lists, RowValidityForm, RunIndex, index_at, index_count, index_numbers, list_at, list_count, list_dtype, list_rows, row_flag_at, row_flags_of, row_nullability}
use Rattle.column_core.specs.Value.{element_of}
use Rattle.runend_array.specs.ListRuns.{AreListsInRuns, IsValidityInRuns}
use Rattle.runend_windows.proofs.Lists.{equal_by_slice_get}
use Rattle.runend_array.proofs.ListRows.{length-list_rows, slice_get-made}
use Rattle.runend_windows.proofs.RunAt.{run_of_row_within}
use Rattle.runend_windows.proofs.RunRows.{length-run_rows, slice_get-run_rows_of_window}

-- a number of an index, one by one
index_numbers-at : (index : Index) (i : ℕ) → i < index_count index → slice_index (index_numbers index) i ≡ index_at index i
index_numbers-at index i h = get_or-map-range_with_len (index_at index) 0 (index_count index) i i 0 h (omega arith)

-- the flag of a row, one by one
row_flags-at : (form : RowValidityForm) (n i : ℕ) → i < n → slice_index_or (row_flags_of form n) i false ≡ row_flag_at form i
row_flags-at form n i h = get_or-map-range_with_len (row_flag_at form) 0 n i i false h (omega arith)

-- what a validity in runs says of a row
pub flag-in_runs : (ends_type : PType) (ends : List ℕ) (offset count : ℕ) (values rows : RowValidityForm) (values_count i : ℕ) → IsValidityInRuns ends_type ends values values_count offset count rows
    → run_at ends (offset + i) < values_count → row_flag_at rows i ≡ row_flag_at values (run_at ends (offset + i))
flag-in_runs ends_type ends offset count (ByRows NeverNull) rows values_count i v h = ap (λ f. row_flag_at f i) (v.kept refl)
flag-in_runs ends_type ends offset count (ByRows NoneNull) rows values_count i v h = ap (λ f. row_flag_at f i) (v.kept refl)
flag-in_runs ends_type ends offset count (ByRows AllNull) rows values_count i v h = ap (λ f. row_flag_at f i) (v.kept refl)
flag-in_runs ends_type ends offset count (ByRows (ByBits bits)) rows values_count i v h =
    ap (λ f. row_flag_at f i) (v.runs (λ none. cc)) ∙ row_flags-at (ByRows (ByBits bits)) values_count (run_at ends (offset + i)) h
flag-in_runs ends_type ends offset count (ByRuns own_type own_ends bits own_offset own_count) rows values_count i v h =
    ap (λ f. row_flag_at f i) (v.runs (λ none. cc)) ∙ row_flags-at (ByRuns own_type own_ends bits own_offset own_count) values_count (run_at ends (offset + i)) h

-- it speaks of the rows of the window
pub has_rows-in_runs : (ends_type : PType) (ends : List ℕ) (offset count : ℕ) (values rows : RowValidityForm) (values_count : ℕ) → IsValidityInRuns ends_type ends values values_count offset count rows
    → HasRows rows count
has_rows-in_runs ends_type ends offset count (ByRows NeverNull) rows values_count v = rw (v.kept refl) tt
has_rows-in_runs ends_type ends offset count (ByRows NoneNull) rows values_count v = rw (v.kept refl) tt
has_rows-in_runs ends_type ends offset count (ByRows AllNull) rows values_count v = rw (v.kept refl) tt
has_rows-in_runs ends_type ends offset count (ByRows (ByBits bits)) rows values_count v = rw (v.runs (λ none. cc)) refl
has_rows-in_runs ends_type ends offset count (ByRuns own_type own_ends bits own_offset own_count) rows values_count v = rw (v.runs (λ none. cc)) refl

-- and keeps the nullability
pub nullability-in_runs : (ends_type : PType) (ends : List ℕ) (offset count : ℕ) (values rows : RowValidityForm) (values_count : ℕ) → IsValidityInRuns ends_type ends values values_count offset count rows
    → row_nullability rows ≡ row_nullability values
nullability-in_runs ends_type ends offset count (ByRows NeverNull) rows values_count v = ap row_nullability (v.kept refl)
nullability-in_runs ends_type ends offset count (ByRows NoneNull) rows values_count v = ap row_nullability (v.kept refl)
nullability-in_runs ends_type ends offset count (ByRows AllNull) rows values_count v = ap row_nullability (v.kept refl)
nullability-in_runs ends_type ends offset count (ByRows (ByBits bits)) rows values_count v = ap row_nullability (v.runs (λ none. cc))
nullability-in_runs ends_type ends offset count (ByRuns own_type own_ends bits own_offset own_count) rows values_count v = ap row_nullability (v.runs (λ none. cc))

-- a row by its parts
abbrev row_with : Leaf → ℕ → ℕ → Bool → Option Value
row_with elements start size valid = cond valid (Some (Items (slice_range (leaf_rows elements) start (start + size)))) None

module _ (ends_type : PType) (ends : List ℕ) (offset count : ℕ) (values lists : Lists)
    (window : IsWindow ends offset count)
    (paired : list_count values ≡ length ends)
    (were : AreLists values)
    (shown : AreListsInRuns ends_type ends values offset count lists) where
  run_within : (i : ℕ) → i < count → run_at ends (offset + i) < list_count values
  run_within i h = let run = run_of_row_within ends offset count i window h in omega arith

  counted : list_count lists ≡ count
  counted = ap index_count shown.offsets

  offset-at : (i : ℕ) → i < count → index_at lists.offsets i ≡ index_at values.offsets (run_at ends (offset + i))
  offset-at i h = ap (λ o. index_at o i) shown.offsets ∙ index_numbers-at values.offsets (run_at ends (offset + i)) (run_within i h)

  size-at : (i : ℕ) → i < count → index_at lists.sizes i ≡ index_at values.sizes (run_at ends (offset + i))
  size-at i h = ap (λ s. index_at s i) shown.sizes ∙ index_numbers-at values.sizes (run_at ends (offset + i)) (rw were.sized (run_within i h))

  flag-at : (i : ℕ) → i < count → row_flag_at lists.validity i ≡ row_flag_at values.validity (run_at ends (offset + i))
  flag-at i h = flag-in_runs ends_type ends offset count values.validity lists.validity (list_count values) i shown.validity (run_within i h)

  -- a row is the list of its run
  list-at : (i : ℕ) → i < count → list_at lists i ≡ list_at values (run_at ends (offset + i))
  list-at i h =
      ap (λ e. row_with e (index_at lists.offsets i) (index_at lists.sizes i) (row_flag_at lists.validity i)) shown.elements
      ∙ ap (λ o. row_with values.elements o (index_at lists.sizes i) (row_flag_at lists.validity i)) (offset-at i h)
      ∙ ap (λ s. row_with values.elements (index_at values.offsets (run_at ends (offset + i))) s (row_flag_at lists.validity i)) (size-at i h)
      ∙ ap (λ b. row_with values.elements (index_at values.offsets (run_at ends (offset + i))) (index_at values.sizes (run_at ends (offset + i))) b) (flag-at i h)

  -- and so the rows are those that the runs show
  pub list_rows-in_runs : list_rows lists ≡ run_rows ends (list_rows values) offset count
  list_rows-in_runs = equal_by_slice_get (list_rows lists) (run_rows ends (list_rows values) offset count) (long ∙ sym (length-run_rows ends (list_rows values) offset count)) (λ i h. row i (rw long at h))
    where
      long : length (list_rows lists) ≡ count
      long = length-list_rows lists ∙ counted

      row : (i : ℕ) → i < count → slice_get (list_rows lists) i ≡ slice_get (run_rows ends (list_rows values) offset count) i
      row i h =
          slice_get-made (list_at lists) (list_count lists) i (rw counted h)
          ∙ ap Some (list-at i h)
          ∙ sym (slice_get-run_rows_of_window ends (list_rows values) offset count i window (length-list_rows values ∙ paired) h
          ∙ slice_get-made (list_at values) (list_count values) (run_at ends (offset + i)) (run_within i h))

  -- they are lists
  pub AreLists-in_runs : AreLists lists
  AreLists-in_runs = record {
    sized = ap index_count shown.sizes ∙ sym counted;
    flagged = rw counted (has_rows-in_runs ends_type ends offset count values.validity lists.validity (list_count values) shown.validity);
    within = λ i h valid.
        let row : i < count = rw counted at h in
        rw (shown.elements, offset-at i row, size-at i row) (were.within (run_at ends (offset + i)) (run_within i row) (sym (flag-at i row) ∙ valid));
  }

  -- of the same type
  pub list_dtype-in_runs : list_dtype lists ≡ list_dtype values
  list_dtype-in_runs =
      ap (λ e. column.List (element_of (leaf_dtype e)) (row_nullability lists.validity)) shown.elements
      ∙ ap (λ n. column.List (element_of (leaf_dtype values.elements)) n) (nullability-in_runs ends_type ends offset count values.validity lists.validity (list_count values) shown.validity)

-- parts in runs make lists in runs
pub AreListsInRuns-of_parts : (form : PrimitiveForm) (offset count : ℕ) (values lists : Lists) → list_count values ≡ length form.numbers → lists.elements ≡ values.elements
    → lists.offsets ≡ RunIndex form.ptype (ends_of form) (index_numbers values.offsets) offset count
    → lists.sizes ≡ RunIndex form.ptype (ends_of form) (index_numbers values.sizes) offset count
    → IsValidityInRuns form.ptype (ends_of form) values.validity (length form.numbers) offset count lists.validity
    → AreListsInRuns form.ptype (ends_of form) values offset count lists
AreListsInRuns-of_parts form offset count values lists paired elements offsets sizes validity = record { elements = elements; offsets = offsets; sizes = sizes; validity = rw paired validity }
