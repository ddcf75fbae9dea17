-- The runs of a range of rows, and of all rows: the visible runs.
use Rattle.std.specs.Prelude.{ℕ, zero, suc, ◌+◌, ◌-◌, List}
use Rattle.runend_windows.specs.Window.{run_at}
use Rattle.runend_array.specs.Column.{Runs}

-- the run of row `start`
abbrev pub first_run : Runs → ℕ → ℕ
first_run whole start = run_at whole.ends (whole.offset + start)

-- the run of the row before row `stop`
abbrev pub last_run : Runs → ℕ → ℕ
last_run whole stop = run_at whole.ends (whole.offset + stop - 1)

-- the run of the first row of a window; 0 without rows
abbrev pub first_visible : List ℕ → ℕ → ℕ → ℕ
first_visible ends offset zero = 0
first_visible ends offset (suc n) = run_at ends offset

-- one past the run of the last row; 0 without rows
abbrev pub stop_visible : List ℕ → ℕ → ℕ → ℕ
stop_visible ends offset zero = 0
stop_visible ends offset (suc n) = run_at ends (offset + n) + 1
