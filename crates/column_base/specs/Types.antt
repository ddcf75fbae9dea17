-- Types of columns.
use Rattle.std.specs.Prelude.{◌<◌, ◌≤◌, ◌^◌, ℕ, ℤ, Option, Some, None, IsSomeAnd, IfSome, FitsSigned}
use Rattle.std.specs.Int.{FitsUnsigned, w8, w16, w32, w64}
use Rattle.column_base.specs.declared.dtype.PType.{PType}
use Rattle.column_base.specs.declared.dtype.PType.TheVariants.{U8, U16, U32, U64, I8, I16, I32, I64}
use Rattle.column_base.specs.declared.dtype.Nullability.{Nullability}
use Rattle.column_base.specs.declared.dtype.DType.{DType}
use Rattle.column_base.specs.declared.dtype.DType.TheVariants.{Bool as BoolType, Primitive, Decimal, Utf8, Binary, List}

-- the type has this number
abbrev pub HasNumber : PType → ℤ → Type 0
HasNumber U8 n = FitsUnsigned w8 n
HasNumber U16 n = FitsUnsigned w16 n
HasNumber U32 n = FitsUnsigned w32 n
HasNumber U64 n = FitsUnsigned w64 n
HasNumber I8 n = FitsSigned w8 n
HasNumber I16 n = FitsSigned w16 n
HasNumber I32 n = FitsSigned w32 n
HasNumber I64 n = FitsSigned w64 n

-- how many bits an unsigned type has, and nothing for a signed type
abbrev pub unsigned_bits : PType → Option ℕ
unsigned_bits U8 = Some 8
unsigned_bits U16 = Some 16
unsigned_bits U32 = Some 32
unsigned_bits U64 = Some 64
unsigned_bits I8 = None
unsigned_bits I16 = None
unsigned_bits I32 = None
unsigned_bits I64 = None

-- the type is one of the four unsigned ones
abbrev pub IsUnsigned : PType → Type 0
IsUnsigned U8 = Unit {0}
IsUnsigned U16 = Unit {0}
IsUnsigned U32 = Unit {0}
IsUnsigned U64 = Unit {0}
IsUnsigned I8 = ⊥
IsUnsigned I16 = ⊥
IsUnsigned I32 = ⊥
IsUnsigned I64 = ⊥

-- an unsigned type that has the number n, where no unsigned type with fewer bits has it
pub record IsLeastFor (n : ℕ) (t : PType) : Type 0 where
  pub has : IsSomeAnd (unsigned_bits t) (λ b. n < 2 ^ b)
  pub least : (u : PType) → IsSomeAnd (unsigned_bits u) (λ b. n < 2 ^ b) → IsSomeAnd (unsigned_bits t) (λ b. IfSome (unsigned_bits u) (λ c. b ≤ c))

-- whether a type has a null
abbrev pub nullability_of : DType → Nullability
nullability_of (BoolType n) = n
nullability_of (Primitive t n) = n
nullability_of (Decimal d n) = n
nullability_of (Utf8 n) = n
nullability_of (Binary n) = n
nullability_of (List e n) = n

-- the type of the same kind with that nullability
abbrev pub with_nullability : DType → Nullability → DType
with_nullability (BoolType n) m = BoolType m
with_nullability (Primitive t n) m = Primitive t m
with_nullability (Decimal d n) m = Decimal d m
with_nullability (Utf8 n) m = Utf8 m
with_nullability (Binary n) m = Binary m
with_nullability (List e n) m = List e m
