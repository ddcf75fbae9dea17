-- One value of a type, or null.
use Rattle.std.specs.Prelude.{pos, Option, Some, None, string_bytes}
use Rattle.column_base.specs.declared.dtype.DType.{DType}
use Rattle.column_base.specs.declared.dtype.DType.TheVariants as column
use Rattle.column_base.specs.Types.{HasNumber, IsUnsigned, nullability_of}
use Rattle.column_core.specs.Value.{FlatValue, Truth, Number, DecimalNumber, Text, Bytes, MayBeNull}
use Rattle.column_core.specs.declared.scalar.ScalarValue.{ScalarValue}
use Rattle.column_core.specs.declared.scalar.ScalarValue.TheVariants as owned

-- the flat value that an owned value holds
abbrev pub flat_of : {A : Type 0} → ScalarValue A → FlatValue
flat_of (owned.Bool b) = Truth b
flat_of (owned.Unsigned n) = Number (pos n)
flat_of (owned.Signed z) = Number z
flat_of (owned.Decimal z) = DecimalNumber z
flat_of (owned.Utf8 s) = Text (string_bytes s)
flat_of (owned.Binary v) = Bytes v.items

-- the owned value is one of the type: unsigned types are spelled Unsigned, signed ones Signed, and lists have none
abbrev pub IsOwnedOf : {A : Type 0} → DType → ScalarValue A → Type 0
IsOwnedOf (column.Bool n) (owned.Bool b) = Unit {0}
IsOwnedOf (column.Primitive t n) (owned.Unsigned k) = IsUnsigned t × HasNumber t (pos k)
IsOwnedOf (column.Primitive t n) (owned.Signed z) = (¬ IsUnsigned t) × HasNumber t z
IsOwnedOf (column.Decimal d n) (owned.Decimal z) = Unit {0}
IsOwnedOf (column.Utf8 n) (owned.Utf8 s) = Unit {0}
IsOwnedOf (column.Binary n) (owned.Binary v) = Unit {0}
IsOwnedOf t v = ⊥

-- the optional owned value is one of the type: no null in a type without null
abbrev pub IsScalarOf : {A : Type 0} → DType → Option (ScalarValue A) → Type 0
IsScalarOf t None = MayBeNull (nullability_of t)
IsScalarOf t (Some v) = IsOwnedOf t v
