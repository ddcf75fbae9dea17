-- Runs that are summed in lanes of their own, before what these come to is added to the sum.
use Rattle.std.specs.Prelude.{◌≡◌, ◌+◌, ◌≤◌, ◌+ℤ◌, ◌&&◌, ℕ, ℤ, Bool, true, pos, if◌then◌else◌, Option, List, length, drop}
use Rattle.column_sums.specs.SumRange.{SumRange}
use Rattle.column_sums.specs.SumState.{SumState, with_lanes}
use Rattle.column_sums.specs.RunSum.{rows_of_runs}
use Rattle.column_sums.specs.Reach.{StaysWithin}
use Rattle.column_sums.specs.Summed.{IsSummedOn}

-- The runs from `from` to `to` - 1 are in lanes: they are listed in `sum`, which is else as it was (`old`), and what
-- they come to would make it the sum of them too. `all_null` says whether none of them is valid.
pub record AreInLanes (range : SumRange) (size : ℕ) (runs : List (Option ℤ × ℕ)) (from : ℕ) (old : SumState) (was_empty : Bool) (to : ℕ) (sum : SumState) (lanes : ℤ) (all_null : Bool) : Type 0 where
  pub own : StaysWithin range size lanes (length (rows_of_runs (drop to runs)))
  pub stays : StaysWithin range size (old.value +ℤ lanes) (length (rows_of_runs (drop to runs)))
  pub summed : IsSummedOn range runs from old was_empty to (with_lanes sum lanes) (was_empty && all_null)
  pub value : sum.value ≡ old.value
  pub additions : sum.additions ≡ old.additions
  pub nothing : all_null ≡ true → lanes ≡ pos 0
  pub listed : (length old.calls + (if all_null then 0 else 1)) ≤ length sum.calls
