-- What each message begins with: version 1, the number of the type, the number of the form, and how many rows.
use Rattle.std.specs.Prelude.{◌≡◌, ℕ, ◌^◌, ◌<◌, List, ◌++◌}
use Rattle.column_fields.specs.Field.{number_field}

unfoldable pub header_bytes : ℕ → ℕ → ℕ → List ℕ
header_bytes kind form rows = number_field 1 1 ++ (number_field 2 kind ++ (number_field 3 form ++ number_field 4 rows))

-- bytes begin with no header
pub record HasNoHeader (bytes : List ℕ) : Type 0 where
  pub none : (kind form rows : ℕ) (rest : List ℕ) → kind < 2 ^ 64 → form < 2 ^ 64 → rows < 2 ^ 64 → bytes ≡ header_bytes kind form rows ++ rest → ⊥
