-- Rows that are copies of rows of a column.
use Rattle.std.specs.Prelude.{◌≡◌, ◌<◌, ◌≤◌, ℕ, List, Option, length}
use Rattle.runend_encode.specs.Starts.{rows_at}
use Rattle.row_stretches.specs.Pieces.{AreCut}

-- from a row on, up to a later one of at most `count` rows, what is told of a row stays the same
pub record StaysUntil {X : Type 0} (told : ℕ → X) (row stop count : ℕ) : Type 0 where
  pub past : row < stop
  pub within : stop ≤ count
  pub same : (k : ℕ) → row ≤ k → k < stop → told k ≡ told row

-- rows in pieces, each of copies of one row of a column, which `runs` numbers
pub record AreCopies {B : Type 0} (all rows : List (Option B)) (ends runs : List ℕ) (count : ℕ) : Type 0 where
  pub numbers : List ℕ
  pub cut : AreCut (length all) numbers ends runs count
  pub shown : rows_at all numbers ≡ rows
