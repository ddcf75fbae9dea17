-- A loop that sums runs, and how far it is.
use Rattle.std.specs.Prelude.{◌≡◌, ℕ, ℤ, Bool, true, false, drop, ◌&&◌, Option, None, List, ◌++◌, option_map, slice_get}
use Rattle.column_sums.specs.SumRange.{SumRange, is_within}
use Rattle.column_sums.specs.RowSum.{sum_from, sum_of_rows, are_null}
use Rattle.column_sums.specs.RunSum.{rows_of_runs, valid_runs, through_first_leaving, calls_of}
use Rattle.column_sums.specs.SumState.{SumState}

-- Runs before `run` were summed, and no sum left the range: what the rest adds makes up the whole. `before` are
-- the calls before the loop, and `is_empty` says whether no run so far was valid.
pub record IsSummed (range : SumRange) (before : List (ℤ × ℕ)) (runs : List (Option ℤ × ℕ)) (run : ℕ) (sum : SumState) (is_empty : Bool) : Type 0 where
  pub within : is_within range sum.value ≡ true
  pub value : sum_from range sum.value (rows_of_runs (drop run runs)) ≡ sum_of_rows range (rows_of_runs runs)
  pub calls : sum.calls ++ through_first_leaving range sum.value (valid_runs (drop run runs)) ≡ before ++ calls_of range runs
  pub empty : (is_empty && are_null (rows_of_runs (drop run runs))) ≡ are_null (rows_of_runs runs)

-- the runs were summed: their rows have this sum, or null, these calls were made, and it is said whether no row is
-- valid
pub record IsSumOfRuns (range : SumRange) (before : List (ℤ × ℕ)) (runs : List (Option ℤ × ℕ)) (sum : Option ℤ) (calls : List (ℤ × ℕ)) (is_empty : Bool) : Type 0 where
  pub value : sum ≡ sum_of_rows range (rows_of_runs runs)
  pub made : calls ≡ before ++ calls_of range runs
  pub empty : is_empty ≡ are_null (rows_of_runs runs)

-- wherever the runs before `from` were summed, those before `to` are too
abbrev pub IsSummedOn : SumRange → List (Option ℤ × ℕ) → ℕ → SumState → Bool → ℕ → SumState → Bool → Type 0
IsSummedOn range runs from old was_empty to new is_empty =
    (before : List (ℤ × ℕ)) → IsSummed range before runs from old was_empty → IsSummed range before runs to new is_empty

-- wherever the runs before `from` were summed, some sum of those after them left the range
abbrev pub IsLeftAfter : SumRange → List (Option ℤ × ℕ) → ℕ → SumState → Bool → SumState → Type 0
IsLeftAfter range runs from old was_empty new =
    (before : List (ℤ × ℕ)) → IsSummed range before runs from old was_empty → IsSumOfRuns range before runs None new.calls false

-- the value of the run at a place, where there is one
abbrev pub run_value : List (Option ℤ × ℕ) → ℕ → Option (Option ℤ)
run_value runs run = option_map (λ shown. shown.0) (slice_get runs run)

-- how many rows show it
abbrev pub run_rows : List (Option ℤ × ℕ) → ℕ → Option ℕ
run_rows runs run = option_map (λ shown. shown.1) (slice_get runs run)
