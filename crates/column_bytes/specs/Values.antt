-- What the message of a constant says of its value.
use Rattle.std.specs.Prelude.{ℕ, ℤ, Option, Some, None, option_map, List, [], ◌∷◌, ◌++◌}
use Rattle.column_base.specs.declared.dtype.Nullability.{Nullability}
use Rattle.column_base.specs.declared.dtype.Nullability.TheVariants.{NonNullable, Nullable}
use Rattle.column_base.specs.declared.dtype.DType.{DType}
use Rattle.column_base.specs.declared.dtype.DType.TheVariants as column
use Rattle.column_base.specs.Types.{HasNumber, nullability_of}
use Rattle.column_base.specs.ValidityForm.{ValidityForm, NeverNull, NoneNull, AllNull}
use Rattle.column_base.specs.Words.{one_if}
use Rattle.column_core.specs.Value.{FlatValue, Truth, Number, DecimalNumber, Text, Bytes, Single, IsRowOf}
use Rattle.column_fields.specs.DecimalBytes.{decimal_bytes}
use Rattle.column_fields.specs.DecimalFields.{IsDecimalType, decimal_type}
use Rattle.column_fields.specs.ElementFields.{IsElementType, element_type}
use Rattle.column_fields.specs.FlatFields.{flat_fields}
use Rattle.column_fields.specs.NumberBytes.{number_bytes}

-- a type of integers, booleans, texts or bytes: its number says all of it but whether it has null
abbrev pub IsPlainType : DType → Type 0
IsPlainType (column.Primitive t n) = Unit {0}
IsPlainType (column.Bool n) = Unit {0}
IsPlainType (column.Decimal d n) = ⊥
IsPlainType (column.Utf8 n) = Unit {0}
IsPlainType (column.Binary n) = Unit {0}
IsPlainType (column.List e n) = ⊥

-- the value is one of such a type, or null where the type has null
pub record IsStoredValue (t : DType) (value : Option FlatValue) : Type 0 where
  pub plain : IsPlainType t
  pub typed : IsRowOf t (option_map Single value)

-- precision and scale of decimals, also of those that are elements of lists, are numbers of their native types
abbrev pub IsStoredType : DType → Type 0
IsStoredType (column.Primitive t n) = Unit {0}
IsStoredType (column.Bool n) = Unit {0}
IsStoredType (column.Decimal d n) = IsDecimalType d
IsStoredType (column.Utf8 n) = Unit {0}
IsStoredType (column.Binary n) = Unit {0}
IsStoredType (column.List e n) = IsElementType e

-- the value is one of such a type, or null where the type has null; of lists it is null
pub record IsStoredScalar (t : DType) (value : Option FlatValue) : Type 0 where
  pub stored : IsStoredType t
  pub typed : IsRowOf t (option_map Single value)

-- the validity of a value that is not null: the type has no null, or has null
abbrev pub some_validity : Nullability → ValidityForm
some_validity NonNullable = NeverNull
some_validity Nullable = NoneNull

abbrev pub value_validity : Nullability → Option FlatValue → ValidityForm
value_validity n None = AllNull
value_validity n (Some v) = some_validity n

-- the bytes of a value: of a number those of its type, of a decimal 16, of a boolean 0 or 1, of a text or bytes these
abbrev pub some_bytes : DType → FlatValue → List ℕ
some_bytes (column.Primitive t n) (Number z) = number_bytes t z
some_bytes (column.Bool n) (Truth b) = one_if b ∷ []
some_bytes (column.Decimal d n) (DecimalNumber z) = decimal_bytes z
some_bytes (column.Utf8 n) (Text bytes) = bytes
some_bytes (column.Binary n) (Bytes bytes) = bytes
some_bytes t v = []

-- null has none
abbrev pub value_bytes : DType → Option FlatValue → List ℕ
value_bytes t None = []
value_bytes t (Some v) = some_bytes t v

abbrev pub value_fields : DType → Option FlatValue → List ℕ
value_fields t value = flat_fields (value_validity (nullability_of t) value) (value_bytes t value)

-- what the number of a type does not say of it: precision and scale of decimals, the type of the elements of lists
abbrev pub type_fields : DType → List ℕ
type_fields (column.Decimal d n) = decimal_type d
type_fields (column.List e n) = element_type e
type_fields t = []

-- what the message of a constant says after its header
abbrev pub constant_fields : DType → Option FlatValue → List ℕ
constant_fields t value = value_fields t value ++ type_fields t

-- the type is one of integers, and has this one
abbrev pub IsNumberIn : DType → ℤ → Type 0
IsNumberIn (column.Primitive t n) z = HasNumber t z
IsNumberIn (column.Bool n) z = ⊥
IsNumberIn (column.Decimal d n) z = ⊥
IsNumberIn (column.Utf8 n) z = ⊥
IsNumberIn (column.Binary n) z = ⊥
IsNumberIn (column.List e n) z = ⊥
