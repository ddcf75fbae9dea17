-- What is in a row, and what a column is to its user.
use Rattle.std.specs.Prelude.{ℕ, ℤ, Bool, List, Option, Some, None, All, FitsSigned}
use Rattle.std.specs.Int.{w128}
use Rattle.std.specs.Str.{IsUtf8}
use Rattle.column_base.specs.declared.dtype.Nullability.{Nullability}
use Rattle.column_base.specs.declared.dtype.Nullability.TheVariants.{NonNullable, Nullable}
use Rattle.column_base.specs.declared.dtype.ElementDType.{ElementDType}
use Rattle.column_base.specs.declared.dtype.ElementDType.TheVariants as element
use Rattle.column_base.specs.declared.dtype.DType.{DType}
use Rattle.column_base.specs.declared.dtype.DType.TheVariants as column
use Rattle.column_base.specs.Types.{HasNumber, nullability_of}

-- a flat value: a boolean, an integer, the integer of a decimal, the bytes of a text, or bytes
pub data FlatValue : Type 0 where
  Truth : Bool → FlatValue
  Number : ℤ → FlatValue
  DecimalNumber : ℤ → FlatValue
  Text : List ℕ → FlatValue
  Bytes : List ℕ → FlatValue

-- a value: one flat value, or a list of optional flat values
pub data Value : Type 0 where
  Single : FlatValue → Value
  Items : List (Option FlatValue) → Value

-- a type without null has no null
abbrev pub MayBeNull : Nullability → Type 0
MayBeNull NonNullable = ⊥
MayBeNull Nullable = Unit {0}

-- the flat value is one of the elements' type
abbrev pub IsElementOf : ElementDType → FlatValue → Type 0
IsElementOf (element.Bool n) (Truth b) = Unit {0}
IsElementOf (element.Primitive t n) (Number z) = HasNumber t z
IsElementOf (element.Decimal d n) (DecimalNumber z) = FitsSigned w128 z
IsElementOf (element.Utf8 n) (Text bytes) = IsUtf8 bytes
IsElementOf (element.Binary n) (Bytes bytes) = Unit {0}
IsElementOf t v = ⊥

-- whether an element of this type may be null
abbrev pub element_nullability : ElementDType → Nullability
element_nullability (element.Bool n) = n
element_nullability (element.Primitive t n) = n
element_nullability (element.Decimal d n) = n
element_nullability (element.Utf8 n) = n
element_nullability (element.Binary n) = n

-- the optional flat value is one of the elements' type
abbrev pub IsItemOf : ElementDType → Option FlatValue → Type 0
IsItemOf t None = MayBeNull (element_nullability t)
IsItemOf t (Some v) = IsElementOf t v

-- the type of elements that lie in a flat column of this type
abbrev pub element_of : DType → ElementDType
element_of (column.Bool n) = element.Bool n
element_of (column.Primitive t n) = element.Primitive t n
element_of (column.Decimal d n) = element.Decimal d n
element_of (column.Utf8 n) = element.Utf8 n
element_of (column.Binary n) = element.Binary n
element_of (column.List e n) = e

-- a type of lists
abbrev pub IsLists : DType → Type 0
IsLists (column.List e n) = Unit {0}
IsLists t = ⊥

-- the value is one of the type
abbrev pub IsValueOf : DType → Value → Type 0
IsValueOf (column.Bool n) (Single (Truth b)) = Unit {0}
IsValueOf (column.Primitive t n) (Single (Number z)) = HasNumber t z
IsValueOf (column.Decimal d n) (Single (DecimalNumber z)) = FitsSigned w128 z
IsValueOf (column.Utf8 n) (Single (Text bytes)) = IsUtf8 bytes
IsValueOf (column.Binary n) (Single (Bytes bytes)) = Unit {0}
IsValueOf (column.List t n) (Items items) = All (IsItemOf t) items
IsValueOf t v = ⊥

-- the optional value is one of the type: no null in a type without null
abbrev pub IsRowOf : DType → Option Value → Type 0
IsRowOf t None = MayBeNull (nullability_of t)
IsRowOf t (Some v) = IsValueOf t v

-- a plain column: a type, and a finite list of optional values
pub record PlainColumn : Type 0 where
  pub dtype : DType
  pub rows : List (Option Value)

-- each row of a plain column is one of its type
abbrev pub IsTyped : PlainColumn → Type 0
IsTyped c = All (IsRowOf c.dtype) c.rows
