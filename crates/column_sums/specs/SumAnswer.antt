-- What a sum answers for a column.
use Rattle.std.specs.Prelude.{◌≡◌, ℤ, map, option_map, unsigned_abs, Option, Some, None, List}
use Rattle.column_base.specs.declared.dtype.DType.{DType}
use Rattle.column_base.specs.declared.dtype.DType.TheVariants as column
use Rattle.column_base.specs.declared.error.VortexError.{VortexError}
use Rattle.column_base.specs.declared.error.VortexError.TheVariants.{Unsupported}
use Rattle.column_core.specs.Value.{Value, Single, Number}
use Rattle.column_sums.specs.SumRange.{SumRange, SignedRange, UnsignedRange, sum_range}
use Rattle.column_sums.specs.RowSum.{sum_of_rows, are_null}
use Rattle.column_sums.specs.declared.answer.SumValue.{SumValue}
use Rattle.column_sums.specs.declared.answer.SumValue.TheVariants.{Unsigned, Signed}
use Rattle.column_sums.specs.declared.answer.SumAnswer.{SumAnswer}

-- the number as a value of the type that is summed in
abbrev pub value_in : SumRange → ℤ → SumValue
value_in SignedRange n = Signed n
value_in UnsignedRange n = Unsigned (unsigned_abs n)

-- the answer for these rows: their sum, or null, and whether no row is valid
abbrev pub answer_of : SumRange → List (Option ℤ) → SumAnswer
answer_of range rows = record { sum = option_map (value_in range) (sum_of_rows range rows); is_empty = are_null rows }

-- the integer in a row, if there is one
abbrev pub number_in : Option Value → Option ℤ
number_in (Some (Single (Number n))) = Some n
number_in row = None

-- only integers are summed
abbrev pub sum_fault : DType → Option VortexError
sum_fault (column.Primitive t n) = None
sum_fault t = Some Unsupported

-- the answer is that of a column of integers, of this type and with these rows
abbrev pub IsSumAnswer : DType → List (Option Value) → SumAnswer → Type 0
IsSumAnswer (column.Primitive t n) rows answer = answer ≡ answer_of (sum_range t) (map number_in rows)
IsSumAnswer t rows answer = ⊥
