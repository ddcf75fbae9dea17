-- The range of a sum.
use Rattle.std.specs.Prelude.{◌-◌, ◌^◌, ◌&&◌, ℤ, pos, negsuc, Bool, int_le}
use Rattle.std.specs.Coded.{Unit-prop}
use Rattle.column_base.specs.declared.dtype.PType.{PType}
use Rattle.column_base.specs.declared.dtype.PType.TheVariants.{U8, U16, U32, U64, I8, I16, I32, I64}
use Rattle.column_base.specs.Types.{IsUnsigned}

-- signed types are summed in i64, unsigned ones in u64
pub data SumRange : Type 0 where
  SignedRange : SumRange
  UnsignedRange : SumRange

-- the range of the sums of a type
abbrev pub sum_range : PType → SumRange
sum_range U8 = UnsignedRange
sum_range U16 = UnsignedRange
sum_range U32 = UnsignedRange
sum_range U64 = UnsignedRange
sum_range I8 = SignedRange
sum_range I16 = SignedRange
sum_range I32 = SignedRange
sum_range I64 = SignedRange

abbrev pub least : SumRange → ℤ
least SignedRange = negsuc (2 ^ 63 - 1)
least UnsignedRange = pos 0

abbrev pub greatest : SumRange → ℤ
greatest SignedRange = pos (2 ^ 63 - 1)
greatest UnsignedRange = pos (2 ^ 64 - 1)

-- whether a sum is in the range
abbrev pub is_within : SumRange → ℤ → Bool
is_within range n = int_le (least range) n && int_le n (greatest range)

-- a type is unsigned in one way at most
pub IsUnsigned-prop : (t : PType) → IsProp (IsUnsigned t)
IsUnsigned-prop U8 = Unit-prop
IsUnsigned-prop U16 = Unit-prop
IsUnsigned-prop U32 = Unit-prop
IsUnsigned-prop U64 = Unit-prop
IsUnsigned-prop I8 = λ a b. absurd a
IsUnsigned-prop I16 = λ a b. absurd a
IsUnsigned-prop I32 = λ a b. absurd a
IsUnsigned-prop I64 = λ a b. absurd a
