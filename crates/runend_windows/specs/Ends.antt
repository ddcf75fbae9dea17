-- Ends as a flat column holds them.
use Rattle.std.specs.Prelude.{ℕ, List, map, unsigned_abs}
use Rattle.column_base.specs.declared.dtype.Nullability.TheVariants.{NonNullable}
use Rattle.column_base.specs.declared.dtype.DType.{DType}
use Rattle.column_base.specs.declared.dtype.DType.TheVariants as column
use Rattle.column_base.specs.Types.{IsUnsigned}
use Rattle.column_core.specs.PrimitiveForm.{PrimitiveForm}

-- a type of ends: unsigned and without null
abbrev pub IsEndsType : DType → Type 0
IsEndsType (column.Primitive t NonNullable) = IsUnsigned t
IsEndsType t = ⊥

-- the ends of a flat column of integers
abbrev pub ends_of : PrimitiveForm → List ℕ
ends_of form = map unsigned_abs form.numbers
