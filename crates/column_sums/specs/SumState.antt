-- What a contract sees of a sum that is given runs.
use Rattle.std.specs.Prelude.{◌≡◌, ◌+◌, ◌≤◌, ℕ, ℤ, pos, ◌+ℤ◌, ◌*ℤ◌, true, Option, Some, None, List, [], ◌∷◌, ◌++◌, length}
use Rattle.column_sums.specs.SumRange.{SumRange, is_within}

-- the sum so far; the runs that were added so far, each value with its number of rows; and how often anything was
-- added to it, be it 0
pub record SumState : Type 0 where
  pub value : ℤ
  pub calls : List (ℤ × ℕ)
  pub additions : ℕ

-- the sum whose list has one run more, and none more where it is null: nothing is added yet
abbrev pub with_listed : SumState → Option ℤ → ℕ → SumState
with_listed sum None count = sum
with_listed sum (Some n) count = record { value = sum.value; calls = sum.calls ++ (n, count) ∷ []; additions = sum.additions }

-- what lanes come to with one run more, which is nothing where it is null
abbrev pub lanes_with : ℤ → Option ℤ → ℕ → ℤ
lanes_with lanes None count = lanes
lanes_with lanes (Some n) count = lanes +ℤ n *ℤ pos count

-- the sum after one addition, of what lanes come to
abbrev pub with_lanes : SumState → ℤ → SumState
with_lanes sum lanes = record { value = sum.value +ℤ lanes; calls = sum.calls; additions = sum.additions + 1 }

-- something was added no more often than runs were listed
abbrev pub IsCounted : SumState → SumState → Type 0
IsCounted old new = new.additions + length old.calls ≤ old.additions + length new.calls

-- neither the run nor the sum with it leaves the range
abbrev pub IsAddable : SumRange → ℤ → Option ℤ → ℕ → Type 0
IsAddable range sum None count = Unit {0}
IsAddable range sum (Some n) count = (is_within range (sum +ℤ n *ℤ pos count) ≡ true) × (is_within range (n *ℤ pos count) ≡ true)
