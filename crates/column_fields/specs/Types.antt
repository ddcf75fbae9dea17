-- The numbers of native types in a message.
use Rattle.std.specs.Prelude.{◌≡◌, ℕ}
use Rattle.column_base.specs.declared.dtype.PType.{PType}
use Rattle.column_base.specs.declared.dtype.PType.TheVariants.{U8, U16, U32, U64, I8, I16, I32, I64}

-- the number of a type
abbrev pub type_number : PType → ℕ
type_number U8 = 1
type_number U16 = 2
type_number U32 = 3
type_number U64 = 4
type_number I8 = 5
type_number I16 = 6
type_number I32 = 7
type_number I64 = 8

-- no type has this number
pub record HasNoType (n : ℕ) : Type 0 where
  pub none : (t : PType) → type_number t ≡ n → ⊥
