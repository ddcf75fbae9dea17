-- The sum of a list of optional integers, row by row.
use Rattle.std.specs.Prelude.{ℤ, pos, ◌+ℤ◌, Bool, is_none, if◌then◌else◌, Option, Some, None, List, [], ◌∷◌}
use Rattle.std.specs.List.{list_all}
use Rattle.column_sums.specs.SumRange.{SumRange, is_within}

-- the sum after each row that is not null, where the rows are added to a first sum one at a time, in order
abbrev pub partial_sums : ℤ → List (Option ℤ) → List ℤ
partial_sums sum [] = []
partial_sums sum (None ∷ rows) = partial_sums sum rows
partial_sums sum (Some n ∷ rows) = (sum +ℤ n) ∷ partial_sums (sum +ℤ n) rows

-- the last of the numbers, or the one before them where there is none
abbrev pub last_after : ℤ → List ℤ → ℤ
last_after n [] = n
last_after n (m ∷ ms) = last_after m ms

-- the rows added to a first sum: null if some partial sum leaves the range, else the last one
abbrev pub sum_from : SumRange → ℤ → List (Option ℤ) → Option ℤ
sum_from range sum rows = if list_all (is_within range) (partial_sums sum rows) then Some (last_after sum (partial_sums sum rows)) else None

-- the sum of the rows, which begins at 0
abbrev pub sum_of_rows : SumRange → List (Option ℤ) → Option ℤ
sum_of_rows range rows = sum_from range (pos 0) rows

-- whether each row is null
abbrev pub are_null : List (Option ℤ) → Bool
are_null rows = list_all is_none rows
