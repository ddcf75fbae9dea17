-- What a message of stored rows ends with: which rows are null, and the items.
use Rattle.std.specs.Prelude.{◌≡◌, ℕ, ◌^◌, ◌<◌, List, ◌++◌, length}
use Rattle.column_base.specs.ValidityForm.{ValidityForm, HasLength}
use Rattle.column_fields.specs.Field.{bytes_field}
use Rattle.column_fields.specs.Validity.{validity_field}

unfoldable pub flat_fields : ValidityForm → List ℕ → List ℕ
flat_fields validity items = validity_field validity ++ bytes_field 7 items

-- the bytes are those fields for no validity of `rows` rows
pub record AreNoFlatFields (rows : ℕ) (bytes : List ℕ) : Type 0 where
  pub none : (validity : ValidityForm) (items : List ℕ) → HasLength validity rows → length items < 2 ^ 64 → bytes ≡ flat_fields validity items → ⊥
