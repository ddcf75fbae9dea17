-- Windows over runs: which run a position is in, and which windows are valid. Ends and positions count rows.
use Rattle.std.specs.Prelude.{◌≡◌, ℕ, ◌+◌, ◌-◌, ◌^◌, ◌<◌, ◌≤◌, List, length, map, nat_lt, slice_index, slice_index_or, Option, None, unsigned_abs, ℤ}
use Rattle.std.specs.List.{position_or_len, range_with_len}
use Rattle.std.specs.List.Sorted.{IsStrictlyIncreasing}

-- the run of a position: the least run whose end is past it, or the number of runs where there is none
abbrev pub run_at : List ℕ → ℕ → ℕ
run_at ends position = position_or_len (λ e. nat_lt position e) ends

-- the run of a position, by its index: it ends past the position, and each run before it does not
pub record IsRunAt (ends : List ℕ) (position run : ℕ) : Type 0 where
  pub within : run < length ends
  pub past : position < slice_index ends run
  pub least : (j : ℕ) → j < run → slice_index ends j ≤ position

-- the last end, or 0 without runs
abbrev pub last_end : List ℕ → ℕ
last_end ends = slice_index ends (length ends - 1)

-- a valid window: `count` rows from position `offset` on, over runs with these ends
pub record IsWindow (ends : List ℕ) (offset count : ℕ) : Type 0 where
  pub increasing : IsStrictlyIncreasing ends
  pub none : length ends ≡ 0 → (offset ≡ 0) × (count ≡ 0)
  pub first : 0 < count → offset ≤ slice_index ends 0
  pub last : 0 < count → offset + count ≤ last_end ends
  pub small : offset + count < 2 ^ 64

-- the rows of a window: each shows the value of its run
abbrev pub run_rows : {B : Type 0} → List ℕ → List (Option B) → ℕ → ℕ → List (Option B)
run_rows ends values offset count = map (λ position. slice_index_or values (run_at ends position) None) (range_with_len offset count)

-- the ends of items of a native type
abbrev pub typed_ends : {E : Type 0} → (E → ℤ) → List E → List ℕ
typed_ends number ends = map unsigned_abs (map number ends)
