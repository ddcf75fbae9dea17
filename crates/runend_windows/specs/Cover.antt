-- Covers of a list by runs.
use Rattle.std.specs.Prelude.{◌≡◌, ◌≢◌, ℕ, ◌+◌, ◌<◌, List, length, slice_get, slice_index}
use Rattle.std.specs.List.{AllAdjacentBelow}
use Rattle.runend_windows.specs.Window.{run_at, last_end, IsWindow}

-- a cover: a valid window in which each row is the value of its run
pub record Covers {A : Type 0} (rows : List A) (ends : List ℕ) (values : List A) (offset count : ℕ) : Type 0 where
  pub window : IsWindow ends offset count
  pub paired : length values ≡ length ends
  pub counted : length rows ≡ count
  pub each : (i : ℕ) → i < count → slice_get rows i ≡ slice_get values (run_at ends (offset + i))

-- exact: the window is all of the runs, from the first position to the last end
pub record IsExact (ends : List ℕ) (offset count : ℕ) : Type 0 where
  pub start : offset ≡ 0
  pub stop : last_end ends ≡ count

-- tight: no run is empty, and none can be joined with the next
pub record IsTight {A : Type 0} (ends : List ℕ) (values : List A) : Type 0 where
  pub filled : 0 < length ends → 0 < slice_index ends 0
  pub differ : AllAdjacentBelow (λ x y. x ≢ y) values (length values)

-- a tight exact cover of the rows, from the first position on
pub record IsTightCover {A : Type 0} (rows : List A) (ends : List ℕ) (values : List A) : Type 0 where
  pub covers : Covers rows ends values 0 (length rows)
  pub exact : IsExact ends 0 (length rows)
  pub tight : IsTight ends values
