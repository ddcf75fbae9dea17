-- What a message of decimals ends with: which rows are null, the items, the precision, and the scale.
use Rattle.std.specs.Prelude.{◌≡◌, ℕ, ℤ, pos, negsuc, ◌+◌, ◌*◌, ◌^◌, ◌<◌, List, ◌++◌, length, FitsSigned}
use Rattle.std.specs.Int.{w8}
use Rattle.column_base.specs.declared.dtype.DecimalDType.{DecimalDType}
use Rattle.column_base.specs.ValidityForm.{ValidityForm, HasLength}
use Rattle.column_fields.specs.Field.{number_field, bytes_field}
use Rattle.column_fields.specs.Validity.{validity_field}

-- 0, -1, 1, -2, 2 .. are written as 0, 1, 2, 3, 4 ..
abbrev pub scale_number : ℤ → ℕ
scale_number (pos n) = n * 2
scale_number (negsuc n) = n * 2 + 1

-- no scale has this number
pub record HasNoScale (n : ℕ) : Type 0 where
  pub none : (scale : ℤ) → FitsSigned w8 scale → scale_number scale ≡ n → ⊥

-- precision and scale are numbers of their native types
pub record IsDecimalType (decimal : DecimalDType) : Type 0 where
  pub precision : decimal.precision < 2 ^ 8
  pub scale : FitsSigned w8 decimal.scale

-- the fields that say precision and scale
unfoldable pub decimal_type : DecimalDType → List ℕ
decimal_type decimal = number_field 14 decimal.precision ++ number_field 15 (scale_number decimal.scale)

-- bytes begin with those fields of no type
pub record BeginsWithNoDecimalType (bytes : List ℕ) : Type 0 where
  pub none : (decimal : DecimalDType) (rest : List ℕ) → IsDecimalType decimal → bytes ≡ decimal_type decimal ++ rest → ⊥

-- the items, the precision, and the scale
unfoldable pub decimal_items : DecimalDType → List ℕ → List ℕ
decimal_items decimal items = bytes_field 7 items ++ decimal_type decimal

-- the bytes are those fields of no decimals
pub record AreNoDecimalItems (bytes : List ℕ) : Type 0 where
  pub none : (decimal : DecimalDType) (items : List ℕ) → IsDecimalType decimal → length items < 2 ^ 64 → bytes ≡ decimal_items decimal items → ⊥

unfoldable pub decimal_fields : ValidityForm → DecimalDType → List ℕ → List ℕ
decimal_fields validity decimal items = validity_field validity ++ decimal_items decimal items

-- the bytes are those fields for no validity of `rows` rows
pub record AreNoDecimalFields (rows : ℕ) (bytes : List ℕ) : Type 0 where
  pub none : (validity : ValidityForm) (decimal : DecimalDType) (items : List ℕ) → HasLength validity rows → IsDecimalType decimal → length items < 2 ^ 64 → bytes ≡ decimal_fields validity decimal items → ⊥
