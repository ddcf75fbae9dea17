-- The rows and the form of a slice.
use Rattle.std.proofs.Common.{◌≡◌, ◌⊎◌, inl, inr, ℕ, ◌+◌, ◌-◌, ◌<◌, ◌≤◌, replicate, sym, ◌∙◌, ap, arith}
use Rattle.std.specs.Prelude.{option_map, slice_range}
use Rattle.column_core.specs.Value.{FlatValue, IsLists, Single}
use Rattle.runend_array.specs.Column.{AreRuns, Column, Constant, OfConstant, OfLeaf, OfLists, OfRuns, Runs, column_dtype, column_of_runs, column_rows}
use Rattle.runend_windows.specs.Window.{run_rows}
use Rattle.runend_windows.proofs.SlicedRuns.{slice_range-none, run_rows-narrowed, copies-of_run}
use Rattle.runend_column.specs.SliceForm.{IsOfRuns, SliceLeaves, RepeatsRun}
use Rattle.runend_array.specs.RowRuns.{first_run, last_run}

-- a column of some of the runs has their type
pub dtype-of_runs : (whole : Runs) (first stop offset count : ℕ) (part : Column) → IsOfRuns whole first stop offset count part → column_dtype part ≡ column_dtype whole.values
dtype-of_runs whole first stop offset count (OfLeaf leaf) kept = absurd kept
dtype-of_runs whole first stop offset count (OfConstant constant) kept = absurd kept
dtype-of_runs whole first stop offset count (OfLists lists) kept = absurd kept
dtype-of_runs whole first stop offset count (OfRuns ends_type ends values o n) kept = kept.values.dtype

-- no runs show what a slice of no rows has
pub rows-of_none : (whole : Runs) (start stop : ℕ) (part : Column) → start ≡ stop → IsOfRuns whole 0 0 0 0 part → column_rows part ≡ slice_range (column_rows (column_of_runs whole)) start stop
rows-of_none whole start stop (OfLeaf leaf) same kept = absurd kept
rows-of_none whole start stop (OfConstant constant) same kept = absurd kept
rows-of_none whole start stop (OfLists lists) same kept = absurd kept
rows-of_none whole start stop (OfRuns ends_type ends values o n) same kept =
    ap (run_rows ends (column_rows values) o) kept.window.1 ∙ sym (slice_range-none (column_rows (column_of_runs whole)) start stop same)

pub form-of_none : (whole : Runs) (start stop : ℕ) (part : Column) → start ≡ stop → IsOfRuns whole 0 0 0 0 part → SliceLeaves whole start stop part
form-of_none whole start stop part same kept = record {
  empty = λ _. kept;
  one = λ some _ _. absurd (omega arith);
  lists = λ some _. absurd (omega arith);
  several = λ some _. absurd (omega arith);
}

module _ (whole : Runs) (start stop : ℕ) (valid : AreRuns whole) (some : start < stop) (within : stop ≤ whole.count) where
  -- the runs between show the rows between
  pub rows-of_runs : (part : Column) → IsOfRuns whole (first_run whole start) (last_run whole stop + 1) (whole.offset + start) (stop - start) part
      → column_rows part ≡ slice_range (column_rows (column_of_runs whole)) start stop
  rows-of_runs (OfLeaf leaf) kept = absurd kept
  rows-of_runs (OfConstant constant) kept = absurd kept
  rows-of_runs (OfLists lists) kept = absurd kept
  rows-of_runs (OfRuns ends_type ends values o n) kept =
      rw (kept.ends, kept.values.rows, kept.window.0, kept.window.1)
      (run_rows-narrowed whole.ends whole.offset whole.count start stop valid.window some within (column_rows whole.values) valid.paired)

  pub form-of_runs : (part : Column) → (first_run whole start < last_run whole stop) ⊎ IsLists (column_dtype whole.values)
      → IsOfRuns whole (first_run whole start) (last_run whole stop + 1) (whole.offset + start) (stop - start) part → SliceLeaves whole start stop part
  form-of_runs part more kept = record {
    empty = λ same. absurd (omega arith);
    one = λ _ same single. absurd (elim more [ inl several ↦ omega arith | inr lists ↦ single lists ]);
    lists = λ _ _. kept;
    several = λ _ _. kept;
  }

  -- rows of one run are copies of its value
  pub rows-of_one : (constant : Constant) → first_run whole start ≡ last_run whole stop → RepeatsRun whole (first_run whole start) (stop - start) constant
      → replicate constant.count (option_map (λ (v : FlatValue). Single v) constant.value) ≡ slice_range (column_rows (column_of_runs whole)) start stop
  rows-of_one constant one repeats =
      ap (λ (n : ℕ). replicate n (option_map (λ (v : FlatValue). Single v) constant.value)) repeats.counted
      ∙ copies-of_run whole.ends whole.offset whole.count start stop valid.window some within (column_rows whole.values) valid.paired
      (option_map (λ (v : FlatValue). Single v) constant.value) one repeats.value

  pub form-of_one : (constant : Constant) → first_run whole start ≡ last_run whole stop → ¬ IsLists (column_dtype whole.values) → RepeatsRun whole (first_run whole start) (stop - start) constant
      → SliceLeaves whole start stop (OfConstant constant)
  form-of_one constant one single repeats = record {
    empty = λ same. absurd (omega arith);
    one = λ _ _ _. repeats;
    lists = λ _ lists. absurd (single lists);
    several = λ _ several. absurd (omega arith);
  }
