-- Groups of equal neighbouring rows of several columns.
use Rattle.std.specs.Prelude.{◌≡◌, ◌+◌, ◌<◌, ◌⊎◌, ℕ, ◌∷◌, All, Contains, List, None, Option, length, map, slice_index, slice_index_or}
use Rattle.std.specs.List.{range_with_len}
use Rattle.column_core.specs.Value.{Value}
use Rattle.runend_windows.specs.Cover.{IsTightCover}
use Rattle.runend_windows.specs.Starts.{starts_from}
use Rattle.runend_windows.specs.Window.{IsWindow, last_end}
use Rattle.row_stretches.specs.declared.stretches.Stretch.{Stretch}

-- the row of each column at a place, null past the last one
abbrev pub row_across : List (List (Option Value)) → ℕ → List (Option Value)
row_across columns place = map (λ rows. slice_index_or rows place None) columns

-- the rows of several columns, each with its row of each column
abbrev pub rows_across : List (List (Option Value)) → ℕ → List (List (Option Value))
rows_across columns count = map (row_across columns) (range_with_len 0 count)

-- groups of equal neighbouring rows of several columns, null equal to null, end before these rows: with the row at which
-- each begins, they are the only tight exact cover of the rows
abbrev pub AreGroupEnds : List (List (Option Value)) → ℕ → List ℕ → Type 0
AreGroupEnds columns count ends = IsTightCover (rows_across columns count) ends (map (row_across columns) (starts_from 0 ends))

-- ends of groups of `count` rows, none of which is empty: each is past the one before, and the last is that number
pub record AreEndsOf (count : ℕ) (ends : List ℕ) : Type 0 where
  pub window : IsWindow ends 0 count
  pub stop : last_end ends ≡ count
  pub filled : 0 < length ends → 0 < slice_index ends 0

-- the ends of both, in ascending order
pub record AreCommonEnds (ends others : List ℕ) (count : ℕ) (made : List ℕ) : Type 0 where
  pub whole : AreEndsOf count made
  pub one_of : All (λ end. Contains ends end ⊎ Contains others end) made
  pub first : All (Contains made) ends
  pub second : All (Contains made) others

-- the rows of a group
abbrev pub group_stretch : List ℕ → ℕ → Stretch
group_stretch ends group = record { start = slice_index (0 ∷ ends) group; stop = slice_index ends group }

-- a stretch of one row
abbrev pub row_alone : ℕ → Stretch
row_alone row = record { start = row; stop = row + 1 }
