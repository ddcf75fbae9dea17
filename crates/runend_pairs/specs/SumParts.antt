-- What rows add to a sum, by three numbers; those of joined rows follow from those of the parts.
use Rattle.std.specs.Prelude.{◌≡◌, ◌-◌, ◌*◌, ◌^◌, ◌≤◌, ◌+ℤ◌, ◌++◌, ℕ, ℤ, pos, unsigned_abs, fold, length, map, List, Option}
use Rattle.std.specs.Int.{int_max, int_min}
use Rattle.column_base.specs.declared.dtype.DType.{DType}
use Rattle.column_base.specs.declared.dtype.DType.TheVariants as column
use Rattle.column_core.specs.Value.{Value}
use Rattle.column_sums.specs.RowSum.{last_after, partial_sums}
use Rattle.column_sums.specs.SumAnswer.{number_in}
use Rattle.column_sums.specs.SumRange.{SumRange, SignedRange, UnsignedRange, sum_range}
use Rattle.runend_pairs.specs.declared.parts.SumParts.{SumParts}
use Rattle.runend_pairs.specs.declared.parts.SumParts.TheVariants.{Signed, Unsigned}

-- the total, and the least and the greatest of the partial sums: the one before the first row, which is 0, and those
-- after each row that is not null
pub record AreSumParts (rows : List (Option ℤ)) (total least greatest : ℤ) : Type 0 where
  pub last : total ≡ last_after (pos 0) (partial_sums (pos 0) rows)
  pub low : least ≡ fold int_min (pos 0) (partial_sums (pos 0) rows)
  pub high : greatest ≡ fold int_max (pos 0) (partial_sums (pos 0) rows)

-- those of signed numbers, each in 64 bits
pub record AreSignedParts (rows : List (Option ℤ)) (total least greatest : ℤ) : Type 0 where
  pub parts : AreSumParts rows total least greatest
  pub total_bound : unsigned_abs total ≤ 2 ^ 63 * length rows
  pub least_bound : unsigned_abs least ≤ 2 ^ 63 * length rows
  pub greatest_bound : unsigned_abs greatest ≤ 2 ^ 63 * length rows

-- those of unsigned numbers: the least sum is 0, and the greatest is the total
pub record AreUnsignedParts (rows : List (Option ℤ)) (total : ℕ) : Type 0 where
  pub parts : AreSumParts rows (pos total) (pos 0) (pos total)
  pub bound : total ≤ (2 ^ 64 - 1) * length rows

-- what rows add to a sum in a range, in the form of the numbers of that range
abbrev pub ArePartsIn : SumRange → List (Option ℤ) → SumParts → Type 0
ArePartsIn SignedRange rows (Signed parts) = AreSumParts rows parts.total parts.least parts.greatest
ArePartsIn SignedRange rows (Unsigned parts) = ⊥
ArePartsIn UnsignedRange rows (Signed parts) = ⊥
ArePartsIn UnsignedRange rows (Unsigned parts) = AreSumParts rows (pos parts.total) (pos 0) (pos parts.total)

-- what the rows of a column of integers of this type add to a sum
abbrev pub ArePartsOf : DType → List (Option Value) → SumParts → Type 0
ArePartsOf (column.Primitive t n) rows parts = ArePartsIn (sum_range t) (map number_in rows) parts
ArePartsOf t rows parts = ⊥

-- what joined rows add to a sum, by what the parts add
abbrev pub JoinsParts : Type 0
JoinsParts =
    (before after : List (Option ℤ)) (total least greatest more_total more_least more_greatest : ℤ) → AreSumParts before total least greatest → AreSumParts after more_total more_least more_greatest
    → AreSumParts (before ++ after) (total +ℤ more_total) (int_min least (total +ℤ more_least)) (int_max greatest (total +ℤ more_greatest))
