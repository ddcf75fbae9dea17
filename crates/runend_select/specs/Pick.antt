-- Which strategy finds the runs of indices, what it answers, and how many ends it tests.
use Rattle.std.specs.Prelude.{◌+◌, ◌-◌, ◌*◌, ◌≤◌, ℕ, ℤ, List, Option}
use Rattle.column_core.specs.Digits.{digits}
use Rattle.runend_windows.specs.Window.{run_at}
use Rattle.runend_select.specs.declared.strategy.Strategy.{Strategy}
use Rattle.runend_select.specs.declared.strategy.Strategy.TheVariants.{SortedMerge, Table, SortAndMerge, Binary}
use Rattle.runend_select.specs.declared.strategy.TakeThresholds.{TakeThresholds}
use Rattle.runend_select.specs.Indices.{AreSorted, runs_of, valid_count}

-- valid indices that are sorted already are merged with the runs, where there are few runs for each
abbrev pub PrefersSortedMerge : List (Option ℤ) → ℕ → TakeThresholds → Type 0
PrefersSortedMerge indices runs thresholds = AreSorted indices × (runs ≤ valid_count indices * thresholds.sorted_runs_per_index)

-- a bit for each row pays, where there are few rows for each valid index
abbrev pub PrefersTable : List (Option ℤ) → ℕ → TakeThresholds → Type 0
PrefersTable indices count thresholds = count ≤ valid_count indices * thresholds.table_len_per_index

-- valid indices are sorted and then merged, where there are many runs, yet few for each valid index
abbrev pub PrefersSortAndMerge : List (Option ℤ) → ℕ → TakeThresholds → Type 0
PrefersSortAndMerge indices runs thresholds = (thresholds.unsorted_min_runs ≤ runs) × (runs ≤ valid_count indices * thresholds.unsorted_runs_per_index)

-- the picked strategy: the first of the three that is preferred, over runs that show `count` rows, else binary search.
-- A product that saturates compares like the number itself, since there are less than 2 ^ 64 runs and rows.
abbrev pub IsPicked : List (Option ℤ) → ℕ → ℕ → TakeThresholds → Strategy → Type 0
IsPicked indices runs count thresholds SortedMerge = PrefersSortedMerge indices runs thresholds
IsPicked indices runs count thresholds Table = (¬ PrefersSortedMerge indices runs thresholds) × PrefersTable indices count thresholds
IsPicked indices runs count thresholds SortAndMerge =
    (¬ PrefersSortedMerge indices runs thresholds) × (¬ PrefersTable indices count thresholds) × PrefersSortAndMerge indices runs thresholds
IsPicked indices runs count thresholds Binary =
    (¬ PrefersSortedMerge indices runs thresholds) × (¬ PrefersTable indices count thresholds) × (¬ PrefersSortAndMerge indices runs thresholds)

-- the run that a strategy returns for a null index: the run of row 0 for `Table`, else 0
abbrev pub run_of_null : Strategy → List ℕ → ℕ → ℕ
run_of_null SortedMerge ends offset = 0
run_of_null Table ends offset = run_at ends offset
run_of_null SortAndMerge ends offset = 0
run_of_null Binary ends offset = 0

-- what a strategy returns
abbrev pub answer_of : Strategy → List ℕ → ℕ → List (Option ℤ) → List ℕ
answer_of strategy ends offset indices = runs_of ends offset (run_of_null strategy ends offset) indices

-- how many ends a strategy tests at most, by the numbers of valid indices and of runs, which show `count` rows
abbrev pub most_tests : Strategy → ℕ → ℕ → ℕ → ℕ
most_tests SortedMerge valid runs count = runs - 1 + valid
most_tests Table valid runs count = runs - 1 + count
most_tests SortAndMerge valid runs count = runs - 1 + valid
most_tests Binary valid runs count = valid * digits runs
