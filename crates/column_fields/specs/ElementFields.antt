-- The fields that name the type of the elements of lists.
use Rattle.std.specs.Prelude.{◌≡◌, ℕ, ◌^◌, ◌<◌, List, ◌++◌}
use Rattle.column_base.specs.declared.dtype.Nullability.{Nullability}
use Rattle.column_base.specs.declared.dtype.Nullability.TheVariants.{NonNullable, Nullable}
use Rattle.column_base.specs.declared.dtype.ElementDType.{ElementDType}
use Rattle.column_base.specs.declared.dtype.ElementDType.TheVariants as element
use Rattle.column_fields.specs.DecimalFields.{IsDecimalType, decimal_type}
use Rattle.column_fields.specs.Field.{number_field}
use Rattle.column_fields.specs.Types.{type_number}

-- precision and scale of decimals are numbers of their native types
abbrev pub IsElementType : ElementDType → Type 0
IsElementType (element.Bool n) = Unit {0}
IsElementType (element.Primitive t n) = Unit {0}
IsElementType (element.Decimal d n) = IsDecimalType d
IsElementType (element.Utf8 n) = Unit {0}
IsElementType (element.Binary n) = Unit {0}

-- 1 for a type without null, 2 for one with null
abbrev pub nullability_number : Nullability → ℕ
nullability_number NonNullable = 1
nullability_number Nullable = 2

-- no nullability has this number
pub record HasNoNullability (number : ℕ) : Type 0 where
  pub none : (n : Nullability) → nullability_number n ≡ number → ⊥

-- the number of a type, and that of its nullability
unfoldable pub numbered_type : ℕ → Nullability → List ℕ
numbered_type number n = number_field 20 number ++ number_field 21 (nullability_number n)

-- the bytes are those two fields of no type
pub record IsNoNumberedType (bytes : List ℕ) : Type 0 where
  pub none : (number : ℕ) (n : Nullability) → number < 2 ^ 64 → bytes ≡ numbered_type number n → ⊥

-- the fields of a type; those of decimals begin with precision and scale
abbrev pub element_type : ElementDType → List ℕ
element_type (element.Bool n) = numbered_type 9 n
element_type (element.Primitive t n) = numbered_type (type_number t) n
element_type (element.Decimal d n) = decimal_type d ++ numbered_type 10 n
element_type (element.Utf8 n) = numbered_type 11 n
element_type (element.Binary n) = numbered_type 12 n

-- the bytes are those fields of no type
pub record IsNoElementType (bytes : List ℕ) : Type 0 where
  pub none : (e : ElementDType) → IsElementType e → bytes ≡ element_type e → ⊥
