-- The runs of the rows that a mask selects.
use Rattle.std.specs.Prelude.{◌≡◌, ◌↔◌, ℕ, ◌+◌, ◌-◌, ◌<◌, true, Some, List, Bool, length, map, take, count_by, slice_get}
use Rattle.column_base.specs.Bits.{set_indices_of}
use Rattle.column_ops.specs.Filter.{filter_rows}
use Rattle.runend_windows.specs.Window.{run_at}

-- how many rows are selected up to the end of a run, of rows from position `offset` on
abbrev pub selected_before : List Bool → ℕ → ℕ → ℕ
selected_before bits offset end = count_by (λ bit. bit) (take (end - offset) bits)

-- some selected row is in the run
pub record HasSelectedRow (ends : List ℕ) (offset : ℕ) (bits : List Bool) (run : ℕ) : Type 0 where
  pub row : ℕ
  pub selected : slice_get bits row ≡ Some true
  pub holds : run_at ends (offset + row) ≡ run

-- which runs are kept, those with a selected row, and their ends: each after as many rows as are selected up to the old
-- end
pub record AreKept (ends : List ℕ) (offset : ℕ) (bits kept : List Bool) (kept_ends : List ℕ) : Type 0 where
  pub paired : length kept ≡ length ends
  pub each : (run : ℕ) → run < length ends → (slice_get kept run ≡ Some true) ↔ HasSelectedRow ends offset bits run
  pub counted : kept_ends ≡ filter_rows kept (map (selected_before bits offset) ends)

-- the places of the kept runs, in ascending order, and their ends
pub record AreKeptAt (ends : List ℕ) (offset : ℕ) (bits : List Bool) (places kept_ends : List ℕ) : Type 0 where
  pub kept : List Bool
  pub are : AreKept ends offset bits kept kept_ends
  pub placed : places ≡ set_indices_of kept
