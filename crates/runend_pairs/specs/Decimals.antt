-- Two columns of decimals added, subtracted and multiplied.
use Rattle.std.specs.Prelude.{◌≡◌, ℕ, ◌+◌, ◌<◌, ◌≤◌, ◌^◌, min, max, ℤ, pos, negsuc, ◌+ℤ◌, int_lt, unsigned_abs, ◌&&◌, not, if◌then◌else◌, Bool, true, false, Option, Some, None, option_map}
use Rattle.std.specs.Ordering.{int_eq}
use Rattle.column_base.specs.declared.dtype.DType.{DType}
use Rattle.column_base.specs.declared.dtype.DType.TheVariants as column
use Rattle.column_base.specs.declared.dtype.DecimalDType.{DecimalDType}
use Rattle.column_base.specs.declared.error.VortexError.{VortexError}
use Rattle.column_base.specs.declared.error.VortexError.TheVariants.{TypeMismatch, Unsupported}
use Rattle.column_base.specs.Types.{nullability_of}
use Rattle.column_core.specs.Value.{DecimalNumber, Single, Value}
use Rattle.column_ops.specs.CompareFault.{length_fault}
use Rattle.column_ops.specs.Comparing.{either_nullability}
use Rattle.runend_pairs.specs.Operations.{number_from}
use Rattle.runend_pairs.specs.declared.numerics.NumericOperator.{NumericOperator}
use Rattle.runend_pairs.specs.declared.numerics.NumericOperator.TheVariants.{Add, Subtract, Multiply}

-- the integer has at most this many decimal digits, whatever its sign
abbrev pub HasDigits : ℕ → ℤ → Type 0
HasDigits digits n = unsigned_abs n < 10 ^ digits

-- the integer of the decimal in a value; a value of another kind counts as 0
abbrev pub decimal_integer : Value → ℤ
decimal_integer (Single (DecimalNumber n)) = n
decimal_integer value = pos 0

-- the row that is this decimal, or null
abbrev pub decimal_row : Option ℤ → Option Value
decimal_row number = option_map (λ n. Single (DecimalNumber n)) number

-- the answer of an operator for two rows: null where either is, else what the integers of both give
abbrev pub decimal_numeric_of : NumericOperator → Option Value → Option Value → Option Value
decimal_numeric_of operator left right = decimal_row (number_from operator (option_map decimal_integer left) (option_map decimal_integer right))

-- null, or a decimal with at most this many digits
abbrev pub IsDecimalOrNull : ℕ → Option Value → Type 0
IsDecimalOrNull digits None = Unit {0}
IsDecimalOrNull digits (Some (Single (DecimalNumber n))) = HasDigits digits n
IsDecimalOrNull digits answer = ⊥

-- what bounds the integers of a number of digits, which are 38 at most
pub record IsDigitLimit (digits limit : ℕ) : Type 0 where
  pub few : digits ≤ 38
  pub power : limit ≡ 10 ^ digits

-- whether the type is one of decimals
abbrev pub is_decimals : DType → Bool
is_decimals (column.Bool n) = false
is_decimals (column.Primitive t n) = false
is_decimals (column.Decimal d n) = true
is_decimals (column.Utf8 n) = false
is_decimals (column.Binary n) = false
is_decimals (column.List e n) = false

-- the precision and the scale of a column of decimals
abbrev pub decimal_in : DType → DecimalDType
decimal_in (column.Decimal d n) = d
decimal_in t = record { precision = 0; scale = pos 0 }

-- the digits that answers may have, 38 at most: for a sum one more than either side has, for a product the sum of both
-- and one more
abbrev pub answer_precision : NumericOperator → ℕ → ℕ → ℕ
answer_precision Add left right = min (max left right + 1) 38
answer_precision Subtract left right = min (max left right + 1) 38
answer_precision Multiply left right = min (left + right + 1) 38

-- the scale of the answers: for a sum the one of both sides, for a product the sum of the two
abbrev pub answer_scale : NumericOperator → ℤ → ℤ → ℤ
answer_scale Add left right = left
answer_scale Subtract left right = left
answer_scale Multiply left right = left +ℤ right

-- an `i8` has the scale
abbrev pub is_scale : ℤ → Bool
is_scale scale = not (int_lt scale (negsuc 127)) && int_lt scale (pos 128)

-- two scales go together: they are the same for a sum, and an `i8` has their sum for a product
abbrev pub go_together : NumericOperator → ℤ → ℤ → Bool
go_together Add left right = int_eq left right
go_together Subtract left right = int_eq left right
go_together Multiply left right = is_scale (left +ℤ right)

-- the precision and the scale of the answers
abbrev pub answer_decimal : NumericOperator → DecimalDType → DecimalDType → DecimalDType
answer_decimal operator left right = record {
  precision = answer_precision operator left.precision right.precision;
  scale = answer_scale operator left.scale right.scale;
}

-- the digits that the answers of two columns may have
abbrev pub answer_digits : NumericOperator → DType → DType → ℕ
answer_digits operator left right = answer_precision operator ((decimal_in left).precision) ((decimal_in right).precision)

-- the type of the answers, with null where either column has it
abbrev pub decimal_numeric_dtype : NumericOperator → DType → DType → DType
decimal_numeric_dtype operator left right =
    column.Decimal (answer_decimal operator (decimal_in left) (decimal_in right)) (either_nullability (nullability_of left) (nullability_of right))

-- both columns are of decimals, their scales go together, and they have as many rows
abbrev pub decimal_numeric_fault : NumericOperator → DType → DType → ℕ → ℕ → Option VortexError
decimal_numeric_fault operator left right left_count right_count =
    if is_decimals left && is_decimals right
    then (if go_together operator ((decimal_in left).scale) ((decimal_in right).scale) then length_fault left_count right_count else Some TypeMismatch)
    else Some Unsupported
