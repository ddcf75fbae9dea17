-- Rows that are cut out of runs.
use Rattle.std.specs.Prelude.{◌≡◌, ◌<◌, ℕ, List, All, length, map, slice_index}
use Rattle.std.specs.List.{range_with_len}
use Rattle.runend_windows.specs.Cover.{Covers}
use Rattle.runend_windows.specs.Window.{IsWindow, last_end, run_at}

-- the run of each of `count` rows from position `offset` on
abbrev pub runs_of : List ℕ → ℕ → ℕ → List ℕ
runs_of ends offset count = map (run_at ends) (range_with_len offset count)

-- pieces that end there, the last of them after `count` rows, each of one of `limit` runs, and none without a row
pub record ArePieces (limit : ℕ) (ends runs : List ℕ) (count : ℕ) : Type 0 where
  pub window : IsWindow ends 0 count
  pub paired : length runs ≡ length ends
  pub stop : last_end ends ≡ count
  pub filled : 0 < length ends → 0 < slice_index ends 0
  pub there : All (λ run. run < limit) runs

-- the pieces of rows of which these are the runs
pub record AreCut (limit : ℕ) (rows ends runs : List ℕ) (count : ℕ) : Type 0 where
  pub pieces : ArePieces limit ends runs count
  pub cover : Covers rows ends runs 0 count
