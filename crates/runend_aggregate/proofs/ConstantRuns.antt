-- A constant column of integers as one run of all its rows.
use Rattle.std.proofs.Common.{◌≡◌, ◌∙◌, ◌<◌, ℕ, zero, suc, ℤ, List, ◌∷◌, Option, Some, length, map, replicate, refl, sym, ap, arith}
use Rattle.std.specs.Prelude.{slice_get}
use Rattle.column_core.specs.Value.{Value}
use Rattle.column_sums.specs.RunSum.{rows_of_runs}
use Rattle.column_sums.specs.SumAnswer.{number_in}
use Rattle.runend_aggregate.specs.ShownRuns.{one_run}
use Rattle.runend_aggregate.proofs.RunRows.{append-nil}

rows_of_one_run : (value : Option ℤ) (count : ℕ) → rows_of_runs (one_run value count) ≡ replicate count value
rows_of_one_run value zero = refl
rows_of_one_run value (suc n) = sym (append-nil (replicate (suc n) value))

numbers-replicate : (row : Option Value) (count : ℕ) → replicate count (number_in row) ≡ map number_in (replicate count row)
numbers-replicate row zero = refl
numbers-replicate row (suc n) = ap (λ (numbers : List (Option ℤ)). number_in row ∷ numbers) (numbers-replicate row n)

-- the run of a row's number shows the numbers of as many such rows
pub rows_of_constant : (row : Option Value) (value : Option ℤ) (count : ℕ) → value ≡ number_in row → rows_of_runs (one_run value count) ≡ map number_in (replicate count row)
rows_of_constant row value count same = rows_of_one_run value count ∙ ap (replicate count) same ∙ numbers-replicate row count

-- there is one exactly where there are rows
pub length-one_run : (value : Option ℤ) (count runs : ℕ) → (count ≡ 0 → runs ≡ 0) → (0 < count → runs ≡ 1) → runs ≡ length (one_run value count)
length-one_run value zero runs none one = none refl
length-one_run value (suc n) runs none one = one (omega arith)

-- and a run that is asked for is this one
pub get-one_run : (value : Option ℤ) (count run : ℕ) → run < length (one_run value count) → slice_get (one_run value count) run ≡ Some (value, count)
get-one_run value zero run within = absurd (omega arith)
get-one_run value (suc n) zero within = refl
get-one_run value (suc n) (suc run) within = absurd (omega arith)

-- which some row shows
pub one_run-shown : (value : Option ℤ) (count run : ℕ) → run < length (one_run value count) → 0 < count
one_run-shown value zero run within = absurd (omega arith)
one_run-shown value (suc n) run within = omega arith
