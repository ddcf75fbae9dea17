-- What a column in a handle adds to a sum, in pairs of words, and how the call ends.
use Rattle.std.specs.Prelude.{◌+◌, ◌*◌, ◌^◌, ◌≡◌, ℤ, pos, map, Option}
use Rattle.std.specs.Global.{Global}
use Rattle.std.specs.Int.{cast_unsigned, w64}
use Rattle.column_base.specs.declared.dtype.DType.{DType}
use Rattle.column_base.specs.declared.dtype.DType.TheVariants as column
use Rattle.column_sums.specs.SumAnswer.{number_in}
use Rattle.column_sums.specs.SumRange.{SumRange, SignedRange, UnsignedRange, sum_range}
use Rattle.runend_array.specs.Array.{dtype_of, rows}
use Rattle.runend_array.specs.declared.array_ref.ArrayRef.{ArrayRef}
use Rattle.runend_pairs.specs.GroupFaults.{numbers_fault}
use Rattle.runend_pairs.specs.SumParts.{AreSumParts}
use Rattle.runend_pairs.specs.declared.parts.SumParts.{SumParts}
use Rattle.runend_pairs.specs.declared.parts.SumParts.TheVariants.{Signed, Unsigned}
use Rattle.c_columns.specs.Pairs.{number_in as number_of_pair}
use Rattle.c_columns.specs.declared.error_fields.ErrorFields.{ErrorFields}
use Rattle.c_columns.specs.declared.pairs.Pair.{Pair}
use Rattle.c_kernels.specs.Floats.{EndsOnFloats}

-- the number of two words: for sums of unsigned numbers the high word counts from 0 to 2^64 - 1
abbrev pub number_by : SumRange → Pair → ℤ
number_by SignedRange pair = number_of_pair pair
number_by UnsignedRange pair = pos (cast_unsigned w64 pair.high * 2 ^ 64 + pair.low)

-- three numbers in words
abbrev pub ArePairsOf : SumParts → Pair → Pair → Pair → Type 0
ArePairsOf (Signed parts) total least greatest =
    (parts.total ≡ number_by SignedRange total) × (parts.least ≡ number_by SignedRange least) × (parts.greatest ≡ number_by SignedRange greatest)
ArePairsOf (Unsigned parts) total least greatest =
    (pos parts.total ≡ number_by UnsignedRange total) × (pos 0 ≡ number_by UnsignedRange least) × (pos parts.total ≡ number_by UnsignedRange greatest)

-- the three numbers of the rows of a column of integers, by the words of its sums
abbrev pub AreShownAs : DType → ArrayRef Global → Pair → Pair → Pair → Type 0
AreShownAs (column.Primitive t n) c total least greatest =
    AreSumParts (map number_in (rows c)) (number_by (sum_range t) total) (number_by (sum_range t) least) (number_by (sum_range t) greatest)
AreShownAs t c total least greatest = ⊥

abbrev pub ArePartsShown : ArrayRef Global → Pair → Pair → Pair → Type 0
ArePartsShown c total least greatest = AreShownAs (dtype_of c) c total least greatest

-- how the call ends: with 22 where the handle is empty, else with 13 exactly where the rows are not integers, and never
-- out of memory for them
abbrev pub EndsOnParts : Option (ArrayRef Global) → ℤ → ErrorFields → Type 0
EndsOnParts column code fields = EndsOnFloats numbers_fault column code fields
