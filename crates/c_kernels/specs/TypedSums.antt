-- The sum of the column of a handle, by what its rows are worked as: what is reported, and how the call ends.
use Rattle.std.specs.Prelude.{◌≡◌, ◌⊎◌, ◌^◌, ◌+ℤ◌, ◌*ℤ◌, ◌==◌, ℕ, ℤ, pos, map, Option, Some, None}
use Rattle.std.specs.Global.{Global}
use Rattle.column_base.specs.declared.dtype.DType.{DType}
use Rattle.column_sums.specs.declared.answer.SumAnswer.{SumAnswer}
use Rattle.column_sums.specs.declared.answer.SumValue.{SumValue}
use Rattle.column_sums.specs.declared.answer.SumValue.TheVariants.{Unsigned, Signed}
use Rattle.float_bits.specs.Sum.{IsRoundedSum}
use Rattle.float_bits.specs.Tally.{Tally}
use Rattle.runend_array.specs.Column.{column_dtype, column_rows}
use Rattle.runend_array.specs.declared.session.Kernel.TheVariants.{Sum}
use Rattle.runend_decimals.specs.Rows.{decimal_in}
use Rattle.runend_decimals.specs.Scales.{scale_of}
use Rattle.runend_decimals.specs.Totals.{IsFirstLeaving}
use Rattle.runend_decimals.specs.declared.fault.DecimalError.{DecimalError}
use Rattle.runend_decimals.specs.declared.fault.DecimalError.TheVariants.{Overflow, Refused}
use Rattle.runend_decimals.specs.declared.sums.DecimalSum.{DecimalSum}
use Rattle.typed_columns.specs.Typed.{TypedForm, typed_of}
use Rattle.typed_columns.specs.declared.typed_column.TypedColumn.{TypedColumn}
use Rattle.typed_kernels.specs.Sums.{summand_fault, summand_of, IsTypedSum}
use Rattle.typed_kernels.specs.declared.sums.Summand.TheVariants as summand
use Rattle.typed_kernels.specs.declared.sums.TypedSum.{TypedSum}
use Rattle.typed_kernels.specs.declared.sums.TypedSum.TheVariants.{Integers, Decimals, Floats}
use Rattle.c_columns.specs.Flags.{byte_of}
use Rattle.c_columns.specs.InPlace.{IsNeverShortOn}
use Rattle.c_columns.specs.declared.error_fields.ErrorFields.{ErrorFields}
use Rattle.c_columns.specs.declared.sessions.Session.{Session}
use Rattle.c_columns.specs.Ending.{AreFields, IsRefusedAs}
use Rattle.c_kernels.specs.Floats.{EndsFirstBy}
use Rattle.c_kernels.specs.declared.typed_sums.Total.{Total}

-- a sum of integers by its kind: 0 for one that left the range
abbrev pub IsIntegerTold : Option SumValue → Total → Type 0
IsIntegerTold None total = total.kind ≡ 0
IsIntegerTold (Some (Unsigned number)) total = (total.kind ≡ 1) × (total.as_unsigned ≡ number)
IsIntegerTold (Some (Signed number)) total = (total.kind ≡ 2) × (total.as_signed ≡ number)

-- and whether no row is valid
abbrev pub AreIntegersTold : SumAnswer → Total → Type 0
AreIntegersTold answer total = IsIntegerTold answer.sum total × (total.empty ≡ byte_of answer.is_empty)

-- a sum of decimals of this scale, in two parts of 64 bits
pub record IsDecimalTold (scale : ℤ) (sum : DecimalSum) (total : Total) : Type 0 where
  pub kind : total.kind ≡ 8
  pub parts : sum.sum ≡ (total.as_signed *ℤ pos (2 ^ 64)) +ℤ pos total.as_unsigned
  pub scaled : total.scale ≡ scale
  pub empty : total.empty ≡ byte_of sum.is_empty

-- a sum of floats, rounded once, by its bits
pub record IsFloatTold (sum : Tally) (total : Total) : Type 0 where
  pub kind : total.kind ≡ 7
  pub rounded : IsRoundedSum sum total.as_unsigned
  pub empty : total.empty ≡ byte_of (sum.rows == 0)

-- the sum of a column of this type
abbrev pub IsToldAs : DType → TypedSum → Total → Type 0
IsToldAs dtype (Integers answer) total = AreIntegersTold answer total
IsToldAs dtype (Decimals sum) total = IsDecimalTold (scale_of dtype) sum total
IsToldAs dtype (Floats sum) total = IsFloatTold sum total

-- it is the sum of the rows of a column
pub record IsSumOf (c : TypedForm) (total : Total) : Type 0 where
  pub sum : TypedSum
  pub sums : IsTypedSum c sum
  pub told : IsToldAs (column_dtype c.column) sum total

-- a refusal by its number and its fields: with 14, and the row as the first field, for a sum of more than 38 digits
abbrev pub IsSumError : DecimalError → ℤ → ErrorFields → Type 0
IsSumError (Refused error) code fields = IsRefusedAs error code fields
IsSumError (Overflow row) code fields = (code ≡ pos 14) × AreFields fields row 0 0

-- a column of decimals is refused with the first row that takes the sum past 38 digits
pub record EndsByLeft (c : TypedForm) (code : ℤ) (fields : ErrorFields) : Type 0 where
  pub row : ℕ
  pub decimals : summand_of c ≡ Some summand.Decimals
  pub leaving : IsFirstLeaving (map decimal_in (column_rows c.column)) row
  pub told : IsSumError (Overflow row) code fields

-- how the call ends: with 22 where the handle is empty; where rows are not added by that, and then it is never out of
-- memory
abbrev pub EndsOnSum : Option (TypedColumn Global) → ℤ → ErrorFields → Type 0
EndsOnSum None code fields = code ≡ pos 22
EndsOnSum (Some c) code fields = EndsFirstBy (summand_fault (summand_of (typed_of c))) code fields ⊎ EndsByLeft (typed_of c) code fields

-- integers that the kernel reads where they are take no memory
abbrev pub IsSumNeverShortOn : Session → Option (TypedColumn Global) → ℤ → Type 0
IsSumNeverShortOn s None code = Unit {0}
IsSumNeverShortOn s (Some c) code = summand_of (typed_of c) ≡ Some summand.Integers → IsNeverShortOn s Sum (Some c.array) code
