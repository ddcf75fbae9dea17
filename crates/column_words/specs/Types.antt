-- Words of types.
use Rattle.std.specs.Prelude.{◌++◌, ℕ, List, codes}
use Rattle.column_base.specs.declared.dtype.PType.{PType}
use Rattle.column_base.specs.declared.dtype.PType.TheVariants.{U8, U16, U32, U64, I8, I16, I32, I64}
use Rattle.column_base.specs.declared.dtype.Nullability.{Nullability}
use Rattle.column_base.specs.declared.dtype.Nullability.TheVariants.{NonNullable, Nullable}

-- the name of a type of numbers
abbrev pub ptype_name : PType → List ℕ
ptype_name U8 = codes "u8"
ptype_name U16 = codes "u16"
ptype_name U32 = codes "u32"
ptype_name U64 = codes "u64"
ptype_name I8 = codes "i8"
ptype_name I16 = codes "i16"
ptype_name I32 = codes "i32"
ptype_name I64 = codes "i64"

-- a name, followed by a question mark where rows may be null
abbrev pub marked : List ℕ → Nullability → List ℕ
marked name NonNullable = name
marked name Nullable = name ++ codes "?"

-- the name of a type of rows that are numbers
abbrev pub type_name : PType → Nullability → List ℕ
type_name ptype nullability = marked (ptype_name ptype) nullability
