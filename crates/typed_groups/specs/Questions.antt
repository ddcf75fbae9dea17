-- What is asked of the rows of a group, and what its answer is.
use Rattle.std.specs.Prelude.{◌≡◌, ◌≢◌, ◌-◌, ◌<◌, ◌≤ℤ◌, ℕ, ℤ, pos, ⊤, All, List, Option, None, Some, length, map, slice_get, true, if◌then◌else◌}
use Rattle.std.specs.declared.cmp.Ordering.{Ordering}
use Rattle.std.specs.declared.cmp.Ordering.TheVariants.{Less, Greater}
use Rattle.column_base.specs.declared.dtype.DType.{DType}
use Rattle.column_base.specs.declared.dtype.DType.TheVariants as column
use Rattle.column_base.specs.declared.dtype.Nullability.TheVariants.{Nullable}
use Rattle.column_base.specs.declared.dtype.PType.TheVariants.{I64, U64}
use Rattle.column_base.specs.Types.{with_nullability}
use Rattle.column_core.specs.Value.{DecimalNumber, IsLists, Number, Single, Value}
use Rattle.column_floats.specs.Extremes.{IsCounted, NoneCounts}
use Rattle.column_floats.specs.Formats.{IsFormatOf}
use Rattle.column_ops.specs.OrderFacts.{IsFurthest}
use Rattle.column_sums.specs.RowSum.{are_null}
use Rattle.column_sums.specs.SumAnswer.{number_in}
use Rattle.float_bits.specs.declared.formats.FloatFormat.{FloatFormat}
use Rattle.float_bits.specs.declared.formats.FloatFormat.TheVariants.{F64}
use Rattle.float_bits.specs.Number.{IsNan}
use Rattle.float_bits.specs.Sum.{IsRoundedSum}
use Rattle.float_bits.specs.Tally.{Tally}
use Rattle.float_bits.specs.TotalOrder.{total_key}
use Rattle.runend_decimals.specs.Rows.{decimal_in, is_decimals}
use Rattle.runend_decimals.specs.Totals.{StaysWithin, total}
use Rattle.runend_floats.specs.Sums.{tally_of_keys}
use Rattle.runend_pairs.specs.NullCounts.{null_rows}
use Rattle.typed_groups.specs.declared.question.Question.{Question}
use Rattle.typed_groups.specs.declared.question.Question.TheVariants.{Count, FloatSum, DecimalSum, LeastNumber, GreatestNumber, Least, Greatest, First, Last}

-- rows of a type are asked this
abbrev pub IsAskedOf : Question → DType → Type 0
IsAskedOf Count t = ⊤
IsAskedOf (FloatSum f) t = IsFormatOf t f
IsAskedOf DecimalSum t = is_decimals t ≡ true
IsAskedOf (LeastNumber f) t = IsFormatOf t f
IsAskedOf (GreatestNumber f) t = IsFormatOf t f
IsAskedOf Least t = ¬ IsLists t
IsAskedOf Greatest t = ¬ IsLists t
IsAskedOf First t = ¬ IsLists t
IsAskedOf Last t = ¬ IsLists t

-- decimals of 38 digits at the same scale
abbrev pub decimal_sum_dtype : DType → DType
decimal_sum_dtype (column.Decimal d n) = column.Decimal (record { precision = 38; scale = d.scale }) Nullable
decimal_sum_dtype t = with_nullability t Nullable

-- the type of the answers for rows of a type
abbrev pub question_dtype : Question → DType → DType
question_dtype Count t = column.Primitive U64 Nullable
question_dtype (FloatSum f) t = column.Primitive I64 Nullable
question_dtype DecimalSum t = decimal_sum_dtype t
question_dtype (LeastNumber f) t = with_nullability t Nullable
question_dtype (GreatestNumber f) t = with_nullability t Nullable
question_dtype Least t = with_nullability t Nullable
question_dtype Greatest t = with_nullability t Nullable
question_dtype First t = with_nullability t Nullable
question_dtype Last t = with_nullability t Nullable

-- the key of a float, as it is stored
abbrev pub key_value : FloatFormat → ℕ → Value
key_value f bits = Single (Number (total_key f bits))

-- the sum of floats of 64 bits, rounded once, by its key
pub record IsRoundedKey (t : Tally) (value : Value) : Type 0 where
  pub bits : ℕ
  pub filled : t.rows ≢ 0
  pub rounded : IsRoundedSum t bits
  pub stored : value ≡ key_value F64 bits

-- null where there is no float
abbrev pub IsFloatSum : Tally → Option Value → Type 0
IsFloatSum t None = t.rows ≡ 0
IsFloatSum t (Some value) = IsRoundedKey t value

-- the sum of decimals, null where there is none
abbrev pub decimal_sum : List (Option ℤ) → Option Value
decimal_sum decimals = if are_null decimals then None else Some (Single (DecimalNumber (total decimals)))

-- whether a number is on no other's far side: the least, or the greatest
abbrev pub IsBeyond : Ordering → ℤ → ℤ → Type 0
IsBeyond Less n m = n ≤ℤ m
IsBeyond side n m = m ≤ℤ n

-- the number among floats that is furthest to a side, by its key
pub record IsFurthestNumber (side : Ordering) (f : FloatFormat) (keys : List (Option ℤ)) (value : Value) : Type 0 where
  pub bits : ℕ
  pub counted : IsCounted (λ b. ¬ IsNan f b) f keys bits
  pub bound : (other : ℕ) → IsCounted (λ b. ¬ IsNan f b) f keys other → IsBeyond side (total_key f bits) (total_key f other)
  pub stored : value ≡ key_value f bits

-- null where each row is null or a NaN
abbrev pub IsNumberEnd : Ordering → FloatFormat → List (Option ℤ) → Option Value → Type 0
IsNumberEnd side f keys None = NoneCounts (λ b. ¬ IsNan f b) f keys
IsNumberEnd side f keys (Some value) = IsFurthestNumber side f keys value

-- the value that is furthest to a side, null where all rows are null
abbrev pub IsEnd : Ordering → List (Option Value) → Option Value → Type 0
IsEnd side rows None = All (λ row. row ≡ None) rows
IsEnd side rows (Some value) = IsFurthest side rows (Some value)

-- the rows before a place are null
abbrev pub AreNullBefore : List (Option Value) → ℕ → Type 0
AreNullBefore rows place = (k : ℕ) → k < place → slice_get rows k ≡ Some None

-- those past it are
abbrev pub AreNullPast : List (Option Value) → ℕ → Type 0
AreNullPast rows place = (k : ℕ) → place < k → k < length rows → slice_get rows k ≡ Some None

-- the first value
pub record IsFirstValue (rows : List (Option Value)) (value : Value) : Type 0 where
  pub place : ℕ
  pub there : slice_get rows place ≡ Some (Some value)
  pub nulls : AreNullBefore rows place

-- the last value
pub record IsLastValue (rows : List (Option Value)) (value : Value) : Type 0 where
  pub place : ℕ
  pub there : slice_get rows place ≡ Some (Some value)
  pub nulls : AreNullPast rows place

-- null where all rows are null
abbrev pub IsFirst : List (Option Value) → Option Value → Type 0
IsFirst rows None = AreNullBefore rows (length rows)
IsFirst rows (Some value) = IsFirstValue rows value

abbrev pub IsLast : List (Option Value) → Option Value → Type 0
IsLast rows None = AreNullBefore rows (length rows)
IsLast rows (Some value) = IsLastValue rows value

-- the rows of a group have an answer: all but sums of decimals that leave 38 digits
abbrev pub HasAnswer : Question → List (Option Value) → Type 0
HasAnswer DecimalSum rows = StaysWithin (map decimal_in rows)
HasAnswer question rows = ⊤

-- the answer for the rows of a group
abbrev pub IsAnswer : Question → List (Option Value) → Option Value → Type 0
IsAnswer Count rows answer = answer ≡ Some (Single (Number (pos (length rows - null_rows rows))))
IsAnswer (FloatSum f) rows answer = IsFloatSum (tally_of_keys f (map number_in rows)) answer
IsAnswer DecimalSum rows answer = StaysWithin (map decimal_in rows) × (answer ≡ decimal_sum (map decimal_in rows))
IsAnswer (LeastNumber f) rows answer = IsNumberEnd Less f (map number_in rows) answer
IsAnswer (GreatestNumber f) rows answer = IsNumberEnd Greater f (map number_in rows) answer
IsAnswer Least rows answer = IsEnd Less rows answer
IsAnswer Greatest rows answer = IsEnd Greater rows answer
IsAnswer First rows answer = IsFirst rows answer
IsAnswer Last rows answer = IsLast rows answer
