-- The fields that say which rows are null: 5 says how, and 6 has the bits if there are some.
use Rattle.std.specs.Prelude.{◌≡◌, ℕ, List, ◌++◌}
use Rattle.column_base.specs.ValidityForm.{ValidityForm, NeverNull, NoneNull, AllNull, ByBits, HasLength}
use Rattle.column_fields.specs.Field.{number_field, bytes_field}
use Rattle.column_fields.specs.BitBytes.{bit_bytes}

-- the form of the validity, and its bits if it has some
unfoldable pub validity_field : ValidityForm → List ℕ
validity_field NeverNull = number_field 5 1
validity_field NoneNull = number_field 5 2
validity_field AllNull = number_field 5 3
validity_field (ByBits bits) = number_field 5 4 ++ bytes_field 6 (bit_bytes bits)

-- bytes begin with no validity of `rows` rows
pub record HasNoValidity (rows : ℕ) (bytes : List ℕ) : Type 0 where
  pub none : (validity : ValidityForm) (rest : List ℕ) → HasLength validity rows → bytes ≡ validity_field validity ++ rest → ⊥
