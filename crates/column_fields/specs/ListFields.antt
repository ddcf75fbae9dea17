-- What a message of lists ends with: the messages of the elements of all lists, of the offsets, and of the sizes.
use Rattle.std.specs.Prelude.{◌≡◌, ℕ, ◌^◌, ◌<◌, List, ◌++◌, length}
use Rattle.column_fields.specs.Field.{bytes_field}

unfoldable pub list_fields : List ℕ → List ℕ → List ℕ → List ℕ
list_fields elements offsets sizes = bytes_field 17 elements ++ (bytes_field 18 offsets ++ bytes_field 19 sizes)

-- the bytes are those fields of no lists
pub record AreNoListFields (bytes : List ℕ) : Type 0 where
  pub none : (elements offsets sizes : List ℕ) → length elements < 2 ^ 64 → length offsets < 2 ^ 64 → length sizes < 2 ^ 64 → bytes ≡ list_fields elements offsets sizes → ⊥
