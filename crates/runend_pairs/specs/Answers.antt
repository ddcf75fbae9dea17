-- Items that answers are stored as, and what an operation answers.
use Rattle.std.specs.Prelude.{◌≡◌, List, Bool, Option, Some, None, map, option_map}
use Rattle.column_core.specs.Optionals.{optionals}
use Rattle.column_core.specs.Value.{FlatValue, Value, Single}

-- the row of an item or of null
abbrev pub row_of : {Z : Type 0} → (Z → FlatValue) → Option Z → Option Value
row_of shown item = option_map (λ z. Single (shown z)) item

-- the rows of items, null where the flag is false
abbrev pub rows_of_items : {Z : Type 0} → (Z → FlatValue) → List Z → List Bool → List (Option Value)
rows_of_items shown items bits = map (row_of shown) (optionals items bits)

-- what an operation finds is the answer, or nothing exactly where the type does not have the answer
abbrev pub IsFound : {Z : Type 0} → (Z → FlatValue) → (Option Value → Type 0) → Option Value → Option (Option Z) → Type 0
IsFound shown has answer None = ¬ has answer
IsFound shown has answer (Some found) = has answer × (row_of shown found ≡ answer)
