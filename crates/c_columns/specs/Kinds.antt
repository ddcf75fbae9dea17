-- Types and operators by number, as C reads and writes them.
use Rattle.std.specs.Prelude.{◌≡◌, ℕ, zero, suc, Option, Some, None}
use Rattle.column_base.specs.declared.dtype.PType.{PType}
use Rattle.column_base.specs.declared.dtype.PType.TheVariants.{U8, U16, U32, U64, I8, I16, I32, I64}
use Rattle.column_base.specs.declared.dtype.Nullability.{Nullability}
use Rattle.column_base.specs.declared.dtype.Nullability.TheVariants.{NonNullable, Nullable}
use Rattle.column_base.specs.declared.dtype.DecimalDType.{DecimalDType}
use Rattle.column_base.specs.declared.dtype.DType.{DType}
use Rattle.column_base.specs.declared.dtype.DType.TheVariants as column
use Rattle.column_ops.specs.declared.operator.CompareOperator.{CompareOperator}
use Rattle.column_ops.specs.declared.operator.CompareOperator.TheVariants.{Eq, NotEq, Gt, Gte, Lt, Lte}
use Rattle.column_core.specs.declared.varbinview.VarBinKind.{VarBinKind}
use Rattle.column_core.specs.declared.varbinview.VarBinKind.TheVariants.{Utf8, Binary}
use Rattle.c_columns.specs.declared.kinds.Kind.{Kind}

-- the numbers of the types of integers
abbrev pub ptype_number : PType → ℕ
ptype_number U8 = 0
ptype_number U16 = 1
ptype_number U32 = 2
ptype_number U64 = 3
ptype_number I8 = 4
ptype_number I16 = 5
ptype_number I32 = 6
ptype_number I64 = 7

-- the type of integers of a number, from 0 to 7
abbrev pub ptype_by : ℕ → Option PType
ptype_by zero = Some U8
ptype_by (suc zero) = Some U16
ptype_by (suc (suc zero)) = Some U32
ptype_by (suc (suc (suc zero))) = Some U64
ptype_by (suc (suc (suc (suc zero)))) = Some I8
ptype_by (suc (suc (suc (suc (suc zero))))) = Some I16
ptype_by (suc (suc (suc (suc (suc (suc zero)))))) = Some I32
ptype_by (suc (suc (suc (suc (suc (suc (suc zero))))))) = Some I64
ptype_by (suc (suc (suc (suc (suc (suc (suc (suc k)))))))) = None

-- whether rows may be null, as a byte: 0 says no
abbrev pub nullable_byte : Nullability → ℕ
nullable_byte NonNullable = 0
nullable_byte Nullable = 1

-- what a byte says of it
abbrev pub nullability_by : ℕ → Nullability
nullability_by zero = NonNullable
nullability_by (suc k) = Nullable

-- the type of integers, if it is one
abbrev pub whole_by : Option PType → Nullability → Option DType
whole_by None nullability = None
whole_by (Some ptype) nullability = Some (column.Primitive ptype nullability)

-- the type that C names by number, flag, precision and scale
abbrev pub dtype_by : ℕ → Kind → Option DType
dtype_by (suc (suc (suc (suc (suc (suc (suc (suc zero)))))))) kind = Some (column.Bool (nullability_by kind.nullable))
dtype_by (suc (suc (suc (suc (suc (suc (suc (suc (suc zero))))))))) kind = Some (column.Decimal (record { precision = kind.precision; scale = kind.scale }) (nullability_by kind.nullable))
dtype_by (suc (suc (suc (suc (suc (suc (suc (suc (suc (suc zero)))))))))) kind = Some (column.Utf8 (nullability_by kind.nullable))
dtype_by (suc (suc (suc (suc (suc (suc (suc (suc (suc (suc (suc zero))))))))))) kind = Some (column.Binary (nullability_by kind.nullable))
dtype_by number kind = whole_by (ptype_by number) (nullability_by kind.nullable)

-- precision and scale
abbrev pub AreDigits : DecimalDType → Kind → Type 0
AreDigits decimal kind = (kind.precision ≡ decimal.precision) × (kind.scale ≡ decimal.scale)

-- the type has this number, and the byte says whether its rows may be null; a list is 12
abbrev pub IsKindOf : DType → Kind → Type 0
IsKindOf (column.Primitive ptype n) kind = (kind.number ≡ ptype_number ptype) × (kind.nullable ≡ nullable_byte n)
IsKindOf (column.Bool n) kind = (kind.number ≡ 8) × (kind.nullable ≡ nullable_byte n)
IsKindOf (column.Decimal decimal n) kind = (kind.number ≡ 9) × (kind.nullable ≡ nullable_byte n) × AreDigits decimal kind
IsKindOf (column.Utf8 n) kind = (kind.number ≡ 10) × (kind.nullable ≡ nullable_byte n)
IsKindOf (column.Binary n) kind = (kind.number ≡ 11) × (kind.nullable ≡ nullable_byte n)
IsKindOf (column.List e n) kind = (kind.number ≡ 12) × (kind.nullable ≡ nullable_byte n)

-- the operator of a number, from 0 to 5
abbrev pub operator_by : ℕ → Option CompareOperator
operator_by zero = Some Eq
operator_by (suc zero) = Some NotEq
operator_by (suc (suc zero)) = Some Gt
operator_by (suc (suc (suc zero))) = Some Gte
operator_by (suc (suc (suc (suc zero)))) = Some Lt
operator_by (suc (suc (suc (suc (suc zero))))) = Some Lte
operator_by (suc (suc (suc (suc (suc (suc k)))))) = None

-- bytes where the byte says so, else texts
abbrev pub varbin_kind_by : ℕ → VarBinKind
varbin_kind_by zero = Utf8
varbin_kind_by (suc k) = Binary
