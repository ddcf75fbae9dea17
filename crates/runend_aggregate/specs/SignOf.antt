-- The sign of the numbers of a type.
use Rattle.column_base.specs.declared.dtype.DType.{DType}
use Rattle.column_base.specs.declared.dtype.DType.TheVariants as column
use Rattle.column_base.specs.Types.{IsUnsigned}

-- a type of integers that has negative ones
abbrev pub IsSignedType : DType → Type 0
IsSignedType (column.Primitive t n) = ¬ IsUnsigned t
IsSignedType t = ⊥

-- a type of integers that has none
abbrev pub IsUnsignedType : DType → Type 0
IsUnsignedType (column.Primitive t n) = IsUnsigned t
IsUnsignedType t = ⊥
