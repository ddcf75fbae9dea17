-- Columns cast to decimals, and decimals to integers, by runs: what is made, and how the calls end.
use Rattle.std.specs.Prelude.{◌≡◌, ◌⊎◌, ◌≤◌, ℕ, ℤ, pos, min, map, option_map, if◌then◌else◌, List, Option, Some, None}
use Rattle.std.specs.Global.{Global}
use Rattle.column_base.specs.Types.{nullability_of, HasNumber}
use Rattle.column_base.specs.declared.dtype.DType.{DType}
use Rattle.column_base.specs.declared.dtype.DType.TheVariants as column
use Rattle.column_base.specs.declared.dtype.DecimalDType.{DecimalDType}
use Rattle.column_base.specs.declared.dtype.PType.{PType}
use Rattle.column_base.specs.declared.error.VortexError.{VortexError}
use Rattle.column_core.specs.Kinds.{is_numbers}
use Rattle.column_core.specs.Value.{Value}
use Rattle.column_sums.specs.SumAnswer.{number_in}
use Rattle.runend_array.specs.Array.{dtype_of, rows}
use Rattle.runend_array.specs.declared.array_ref.ArrayRef.{ArrayRef}
use Rattle.runend_decimals.specs.Digits.{HasDigits}
use Rattle.runend_decimals.specs.Rows.{decimal_in, decimals_fault}
use Rattle.runend_decimals.specs.Scales.{decimal_row, integer_row, rescaled, scale_of, EachDecimal, IsHeldAt, IsRescaleRefusal}
use Rattle.runend_decimals.specs.declared.fault.RescaleError.{RescaleError}
use Rattle.runend_decimals.specs.declared.fault.RescaleError.TheVariants.{Inexact, Overflow, Refused}
use Rattle.c_columns.specs.Builders.{IsEncodingOf}
use Rattle.c_columns.specs.Ending.{AreFields, IsRefusedAs}
use Rattle.c_columns.specs.declared.error_fields.ErrorFields.{ErrorFields}

-- a number of digits that decimals may have
abbrev pub IsPrecision : ℕ → Type 0
IsPrecision digits = (1 ≤ digits) × (digits ≤ 38)

-- columns of integers and of decimals are cast to decimals
abbrev pub exact_fault : DType → Option VortexError
exact_fault t = if is_numbers t then None else decimals_fault t

-- the integer in a row, or that of a decimal at the scale of its column; integers have no places
abbrev pub exact_in : DType → Option Value → Option ℤ
exact_in t row = if is_numbers t then number_in row else decimal_in row

abbrev pub exacts_in : ArrayRef Global → List (Option ℤ)
exacts_in column = map (exact_in (dtype_of column)) (rows column)

-- the same number as a decimal of the type, null where the row is
abbrev pub decimal_at : DType → DecimalDType → Option Value → Option Value
decimal_at t to row = decimal_row (option_map (rescaled (scale_of t) to.scale) (exact_in t row))

-- each number is a decimal of this precision and scale
abbrev pub AllAreDecimals : DType → DecimalDType → List (Option ℤ) → Type 0
AllAreDecimals t to numbers = EachDecimal (IsHeldAt (scale_of t) to.scale (HasDigits (min to.precision 38))) numbers

-- the run column that is the encoding of the same numbers as decimals
pub record AreDecimals (to : DecimalDType) (given made : ArrayRef Global) : Type 0 where
  pub encoding : IsEncodingOf (map (decimal_at (dtype_of given) to) (rows given)) (column.Decimal to (nullability_of (dtype_of given))) made
  pub held : AllAreDecimals (dtype_of given) to (exacts_in given)

-- the decimal in a row as an integer
abbrev pub integer_at : DType → Option Value → Option Value
integer_at t row = integer_row (option_map (rescaled (scale_of t) (pos 0)) (decimal_in row))

-- each decimal is an integer of this type
abbrev pub AllAreIntegers : DType → PType → List (Option ℤ) → Type 0
AllAreIntegers t to numbers = EachDecimal (IsHeldAt (scale_of t) (pos 0) (HasNumber to)) numbers

-- the run column that is the encoding of decimals as integers
pub record AreWholes (to : PType) (given made : ArrayRef Global) : Type 0 where
  pub encoding : IsEncodingOf (map (integer_at (dtype_of given)) (rows given)) (column.Primitive to (nullability_of (dtype_of given))) made
  pub held : AllAreIntegers (dtype_of given) to (map decimal_in (rows given))

-- why a cast of a column of the right type is refused: for memory, or by the first row that does not fit
abbrev pub FailsAsDecimals : DecimalDType → ArrayRef Global → RescaleError → Type 0
FailsAsDecimals to given error = IsRescaleRefusal None (scale_of (dtype_of given)) to.scale (HasDigits (min to.precision 38)) (exacts_in given) error

abbrev pub FailsAsWholes : PType → ArrayRef Global → RescaleError → Type 0
FailsAsWholes to given error = IsRescaleRefusal None (scale_of (dtype_of given)) (pos 0) (HasNumber to) (map decimal_in (rows given)) error

-- a refusal by its number and its fields: with 14, the row, and 1 where no number of that scale is the same, else 0
abbrev pub IsRescaleErrorAs : RescaleError → ℤ → ErrorFields → Type 0
IsRescaleErrorAs (Refused error) code fields = IsRefusedAs error code fields
IsRescaleErrorAs (Overflow row) code fields = (code ≡ pos 14) × AreFields fields row 0 0
IsRescaleErrorAs (Inexact row) code fields = (code ≡ pos 14) × AreFields fields row 1 0

-- the cast ends by the fault of the type, and then it is never out of memory; else with 0, or by such a failure
abbrev pub EndsByRescale : Option VortexError → (RescaleError → Type 0) → ℤ → ErrorFields → Type 0
EndsByRescale None Fails code fields = (code ≡ pos 0) ⊎ ((error : RescaleError) × Fails error × IsRescaleErrorAs error code fields)
EndsByRescale (Some error) Fails code fields = IsRefusedAs error code fields

-- how a cast of the column of a handle ends: with 22 where the handle is empty
abbrev pub EndsOnRescale : (DType → Option VortexError) → (ArrayRef Global → RescaleError → Type 0) → Option (ArrayRef Global) → ℤ → ErrorFields → Type 0
EndsOnRescale fault Fails None code fields = code ≡ pos 22
EndsOnRescale fault Fails (Some c) code fields = EndsByRescale (fault (dtype_of c)) (Fails c) code fields
