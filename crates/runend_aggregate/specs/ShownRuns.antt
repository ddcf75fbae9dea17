-- The visible runs of a run column: those that some row of its window shows, in order.
use Rattle.std.specs.Prelude.{◌≡◌, ℕ, zero, suc, ◌+◌, ◌-◌, ℤ, pos, List, [], ◌∷◌, Option, None, Some, map, min, option_map, slice_index, slice_index_or}
use Rattle.column_core.specs.Value.{Single}
use Rattle.column_sums.specs.SumAnswer.{number_in}
use Rattle.runend_array.specs.Column.{Constant, Runs, column_rows}
use Rattle.runend_array.specs.RowRuns.{first_visible, stop_visible}

-- how many rows of a window of `count` rows from position `offset` on lie before a run
abbrev pub rows_before : List ℕ → ℕ → ℕ → ℕ → ℕ
rows_before ends offset count zero = 0
rows_before ends offset count (suc run) = min (slice_index ends run - offset) count

-- how many rows of the window show a run: those before its end, without those before the run
abbrev pub rows_showing : List ℕ → ℕ → ℕ → ℕ → ℕ
rows_showing ends offset count run = min (slice_index ends run - offset) count - rows_before ends offset count run

-- of `n` runs from one on, what each shows and in how many rows of the window
abbrev pub runs_from : List ℕ → List (Option ℤ) → ℕ → ℕ → ℕ → ℕ → List (Option ℤ × ℕ)
runs_from ends numbers offset count run zero = []
runs_from ends numbers offset count run (suc n) =
    (slice_index_or numbers run None, rows_showing ends offset count run) ∷ runs_from ends numbers offset count (run + 1) n

-- the visible runs of a column of integers: what each shows and in how many rows
abbrev pub visible_runs : Runs → List (Option ℤ × ℕ)
visible_runs r =
    let first = first_visible r.ends r.offset r.count in
    runs_from r.ends (map number_in (column_rows r.values)) r.offset r.count first (stop_visible r.ends r.offset r.count - first)

-- a run of a number of rows, or none for 0 rows
abbrev pub one_run : Option ℤ → ℕ → List (Option ℤ × ℕ)
one_run value zero = []
one_run value (suc n) = (value, suc n) ∷ []

-- the runs of a constant of integers: one of all its rows
abbrev pub constant_runs : Constant → List (Option ℤ × ℕ)
constant_runs constant = one_run (number_in (option_map Single constant.value)) constant.count

-- runs that end at 3, 6, 8 and 12, and show 4, null, 4 and 5
pub record AreFourRuns (r : Runs) : Type 0 where
  pub ends : r.ends ≡ 3 ∷ 6 ∷ 8 ∷ 12 ∷ []
  pub numbers : map number_in (column_rows r.values) ≡ Some (pos 4) ∷ None ∷ Some (pos 4) ∷ Some (pos 5) ∷ []
