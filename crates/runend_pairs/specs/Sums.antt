-- Sums of the rows of a group.
use Rattle.std.specs.Prelude.{◌≡◌, ◌+ℤ◌, ◌*◌, ◌-◌, ◌^◌, ◌≤◌, ℕ, ℤ, pos, Bool, not, unsigned_abs, if◌then◌else◌, Option, Some, None, List, [], ◌∷◌, length}
use Rattle.column_base.specs.declared.dtype.PType.{PType}
use Rattle.column_base.specs.declared.dtype.PType.TheVariants.{I64, U64}
use Rattle.column_base.specs.declared.dtype.DType.{DType}
use Rattle.column_base.specs.declared.dtype.DType.TheVariants as column
use Rattle.column_sums.specs.RowSum.{are_null}
use Rattle.column_sums.specs.SumRange.{SumRange, SignedRange, UnsignedRange, sum_range}

-- the integer sum of the rows that are not null
abbrev pub total_of : List (Option ℤ) → ℤ
total_of [] = pos 0
total_of (None ∷ rows) = total_of rows
total_of (Some n ∷ rows) = n +ℤ total_of rows

-- the sum of the rows: null where all are null
abbrev pub sum_of : List (Option ℤ) → Option ℤ
sum_of rows = if are_null rows then None else Some (total_of rows)

-- the type of sums in a range
abbrev pub range_ptype : SumRange → PType
range_ptype SignedRange = I64
range_ptype UnsignedRange = U64

-- the type of the sums of numbers of a type
abbrev pub sum_ptype : PType → PType
sum_ptype t = range_ptype (sum_range t)

-- the native type of the sums of a column of integers
abbrev pub summed_ptype : DType → PType
summed_ptype (column.Primitive t n) = sum_ptype t
summed_ptype t = I64

-- this is the sum of signed numbers, each in 64 bits, and whether there is one
pub record IsSignedTotal (rows : List (Option ℤ)) (total : ℤ) (some : Bool) : Type 0 where
  pub is : total ≡ total_of rows
  pub found : some ≡ not (are_null rows)
  pub bound : unsigned_abs (total_of rows) ≤ 2 ^ 63 * length rows

-- the same for unsigned numbers
pub record IsUnsignedTotal (rows : List (Option ℤ)) (total : ℕ) (some : Bool) : Type 0 where
  pub is : pos total ≡ total_of rows
  pub found : some ≡ not (are_null rows)
  pub bound : total ≤ (2 ^ 64 - 1) * length rows
