-- Runs of optional integers, and the calls of `add_run` that sum them.
--
-- Code that has runs implements `Runs` and calls `sum_in_runs`. A loop of one's own goes
--
--   let mut is_empty = true;
--   for run in 0..run_count {
--       if let Some(value) = value_of(run) {
--           is_empty = false;
--           if !sum.add_run(value, row_count(run)) {
--               return SumAnswer { sum: None, is_empty };
--           }
--       }
--   }
--   SumAnswer { sum: Some(SumValue::Signed(sum.value())), is_empty }
--
-- under the invariant `IsSummed SignedRange l.initial.sum.calls runs l.run l.sum l.is_empty` (`specs/Summed.antt`), by
-- the lemmas of `proofs/RunSums.antt`: `begun` at its start, `null_run` and `valid_run` at a step, `left` at the early
-- return and `finished` at the end; of either `answered` makes the answer. Each valid run is to be shown by some row.
use Rattle.std.specs.Prelude.{ℕ, ℤ, pos, ◌+ℤ◌, ◌*ℤ◌, replicate, if◌then◌else◌, Option, Some, None, List, [], ◌∷◌, ◌++◌}
use Rattle.column_sums.specs.SumRange.{SumRange, is_within}

-- the rows of runs: each run's value, or null, in as many rows as show it
abbrev pub rows_of_runs : List (Option ℤ × ℕ) → List (Option ℤ)
rows_of_runs [] = []
rows_of_runs (run ∷ runs) = replicate run.1 run.0 ++ rows_of_runs runs

-- the runs that are not null, in order: value and number of rows
abbrev pub valid_runs : List (Option ℤ × ℕ) → List (ℤ × ℕ)
valid_runs [] = []
valid_runs ((None, count) ∷ runs) = valid_runs runs
valid_runs ((Some n, count) ∷ runs) = (n, count) ∷ valid_runs runs

-- the runs up to and with the first that takes the sum out of the range, where it is `sum` before them
abbrev pub through_first_leaving : SumRange → ℤ → List (ℤ × ℕ) → List (ℤ × ℕ)
through_first_leaving range sum [] = []
through_first_leaving range sum ((n, count) ∷ runs) =
    let next = sum +ℤ n *ℤ pos count in
    (n, count) ∷ (if is_within range next then through_first_leaving range next runs else [])

-- the calls of `add_run`, one for each valid run, up to and with the first that leaves the range
abbrev pub calls_of : SumRange → List (Option ℤ × ℕ) → List (ℤ × ℕ)
calls_of range runs = through_first_leaving range (pos 0) (valid_runs runs)

-- rows as runs of one row each
abbrev pub runs_of_rows : List (Option ℤ) → List (Option ℤ × ℕ)
runs_of_rows [] = []
runs_of_rows (row ∷ rows) = (row, 1) ∷ runs_of_rows rows
