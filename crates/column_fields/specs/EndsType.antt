-- The type of the ends as a record states it.
use Rattle.std.specs.Prelude.{◌≤ℤ◌, ℤ, pos, Option, Some, None}
use Rattle.column_base.specs.declared.dtype.PType.{PType}
use Rattle.column_base.specs.declared.dtype.PType.TheVariants.{U8, U16, U32, U64, I8, I16, I32, I64}

-- the number of an unsigned type, and none of a signed one
abbrev pub ends_type_number : PType → Option ℤ
ends_type_number U8 = Some (pos 0)
ends_type_number U16 = Some (pos 1)
ends_type_number U32 = Some (pos 2)
ends_type_number U64 = Some (pos 3)
ends_type_number I8 = None
ends_type_number I16 = None
ends_type_number I32 = None
ends_type_number I64 = None

-- the number is that of a type
pub record IsEndsTypeNumber (number : ℤ) : Type 0 where
  pub low : pos 0 ≤ℤ number
  pub high : number ≤ℤ pos 3
