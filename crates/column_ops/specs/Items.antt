-- Items that a column stores one by one, and the rows that they are.
use Rattle.std.specs.Prelude.{◌≡◌, ◌<◌, ◌≤◌, ℕ, List, Bool, true, false, Option, Some, map, option_map, slice_get}
use Rattle.column_core.specs.Optionals.{optionals}
use Rattle.column_core.specs.Value.{FlatValue, Value, Single}

-- the row of an item that is not null
abbrev pub item_row : {S : Type 0} → (S → FlatValue) → S → Option Value
item_row value item = Some (Single (value item))

-- the rows of items none of which is null
abbrev pub item_rows : {S : Type 0} → (S → FlatValue) → List S → List (Option Value)
item_rows value items = map (item_row value) items

-- the rows of items, null where the flag is false
abbrev pub flagged_rows : {S : Type 0} → (S → FlatValue) → List S → List Bool → List (Option Value)
flagged_rows value items flags = map (option_map Single) (map (option_map value) (optionals items flags))

-- the rows from one place on, before another, are all this one
abbrev pub AreAll : List (Option Value) → ℕ → ℕ → Option Value → Type 0
AreAll rows start stop row = (k : ℕ) → start ≤ k → k < stop → slice_get rows k ≡ Some row

-- the first place from one on, before another, where the flag is true, else the latter
pub record IsFirstValid (flags : List Bool) (start stop place : ℕ) : Type 0 where
  pub low : start ≤ place
  pub high : place ≤ stop
  pub nulls : (k : ℕ) → start ≤ k → k < place → slice_get flags k ≡ Some false
  pub valid : place < stop → slice_get flags place ≡ Some true
