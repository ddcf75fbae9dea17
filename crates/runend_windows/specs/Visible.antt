-- Visible runs: those that some row of a window shows. Hidden runs, before and after them, decide nothing.
use Rattle.std.specs.Prelude.{◌≡◌, ℕ, zero, suc, ◌+◌, ◌<◌, List, [], length, slice_index_or, slice_range}
use Rattle.runend_windows.specs.Window.{run_at}

-- the items of the visible runs, from a list with an item for each run; `count` rows from position `offset` on are
-- shown
abbrev pub visible : {B : Type 0} → List ℕ → ℕ → ℕ → List B → List B
visible ends offset zero items = []
visible ends offset (suc n) items = slice_range items (run_at ends offset) (run_at ends (offset + n) + 1)

-- some row of the window is in the run
pub record HasRow (ends : List ℕ) (offset count run : ℕ) : Type 0 where
  pub row : ℕ
  pub within : row < count
  pub holds : run_at ends (offset + row) ≡ run

-- the item at an index is the first of a list that fails a test
pub record FailsFirst {B : Type 0} (P : B → Type 0) (items : List B) (index : ℕ) (item : B) : Type 0 where
  pub within : index < length items
  pub here : slice_index_or items index item ≡ item
  pub fails : ¬ P item
  pub before : (k : ℕ) (default : B) → k < index → P (slice_index_or items k default)
