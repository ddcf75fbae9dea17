-- The numbers of a buffer.
use Rattle.std.specs.Prelude.{ℤ, List, map, pos}
use Rattle.column_base.specs.declared.dtype.PType.{PType}
use Rattle.column_base.specs.declared.dtype.PType.TheVariants.{U8, U16, U32, U64, I8, I16, I32, I64}
use Rattle.column_base.specs.declared.values.PrimitiveValues.{PrimitiveValues}
use Rattle.column_base.specs.declared.values.PrimitiveValues.TheVariants as buffer

-- the numbers, in order
abbrev pub numbers : {A : Type 0} → PrimitiveValues A → List ℤ
numbers (buffer.U8 items) = map (λ n. pos n) items.items
numbers (buffer.U16 items) = map (λ n. pos n) items.items
numbers (buffer.U32 items) = map (λ n. pos n) items.items
numbers (buffer.U64 items) = map (λ n. pos n) items.items
numbers (buffer.I8 items) = items.items
numbers (buffer.I16 items) = items.items
numbers (buffer.I32 items) = items.items
numbers (buffer.I64 items) = items.items

-- the type of the numbers
abbrev pub ptype_of : {A : Type 0} → PrimitiveValues A → PType
ptype_of (buffer.U8 items) = U8
ptype_of (buffer.U16 items) = U16
ptype_of (buffer.U32 items) = U32
ptype_of (buffer.U64 items) = U64
ptype_of (buffer.I8 items) = I8
ptype_of (buffer.I16 items) = I16
ptype_of (buffer.I32 items) = I32
ptype_of (buffer.I64 items) = I64
