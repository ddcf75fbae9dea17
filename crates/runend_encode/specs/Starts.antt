-- Where runs start, and what is there.
use Rattle.std.specs.Prelude.{ℕ, List, Option, None}
use Rattle.column_core.specs.Value.{Value}
use Rattle.runend_windows.specs.Cover.{IsTightCover}
use Rattle.runend_windows.specs.Starts.{items_at, starts_from}

-- the rows at these places
abbrev pub rows_at : {B : Type 0} → List (Option B) → List ℕ → List (Option B)
rows_at rows places = items_at None rows places

-- runs with these ends, each of the value of its first row, are the tight exact cover of the rows
abbrev pub AreRunEnds : List (Option Value) → List ℕ → Type 0
AreRunEnds rows ends = IsTightCover rows ends (rows_at rows (starts_from 0 ends))
