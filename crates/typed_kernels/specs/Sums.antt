-- The sums of columns, by what their rows are worked as.
use Rattle.std.specs.Prelude.{◌≡◌, Option, Some, None, map, true}
use Rattle.column_base.specs.declared.dtype.DType.{DType}
use Rattle.column_base.specs.declared.dtype.DType.TheVariants as columns
use Rattle.column_base.specs.declared.error.VortexError.{VortexError}
use Rattle.column_base.specs.declared.error.VortexError.TheVariants.{Unsupported}
use Rattle.column_core.specs.Refusal.{IsErrorFor}
use Rattle.column_floats.specs.Formats.{IsFormatOf}
use Rattle.column_sums.specs.SumAnswer.{number_in, sum_fault, IsSumAnswer}
use Rattle.float_bits.specs.declared.formats.FloatFormat.{FloatFormat}
use Rattle.logical_types.specs.declared.types.LogicalType.TheVariants.{Integer, Float, Date, TimeOfDay, Timestamp, Duration, Decimal}
use Rattle.runend_array.specs.Column.{column_dtype, column_rows}
use Rattle.runend_decimals.specs.Rows.{decimal_in, is_decimals}
use Rattle.runend_decimals.specs.Totals.{sum_of, IsFirstLeaving, StaysWithin}
use Rattle.runend_decimals.specs.declared.fault.DecimalError.{DecimalError}
use Rattle.runend_decimals.specs.declared.fault.DecimalError.TheVariants.{Refused, Overflow}
use Rattle.runend_floats.specs.Sums.{tally_of_keys}
use Rattle.typed_columns.specs.Typed.{TypedForm}
use Rattle.typed_kernels.specs.Served.{served}
use Rattle.typed_kernels.specs.declared.meanings.Served.{Served}
use Rattle.typed_kernels.specs.declared.meanings.Served.TheVariants as served_as
use Rattle.typed_kernels.specs.declared.sums.Summand.{Summand}
use Rattle.typed_kernels.specs.declared.sums.Summand.TheVariants.{Integers, Decimals, Floats}
use Rattle.typed_kernels.specs.declared.sums.TypedSum.{TypedSum}
use Rattle.typed_kernels.specs.declared.sums.TypedSum.TheVariants as sums

-- what stored rows of a type are added as
abbrev pub summed_as : DType → Option Summand
summed_as (columns.Bool n) = None
summed_as (columns.Primitive t n) = Some Integers
summed_as (columns.Decimal d n) = Some Decimals
summed_as (columns.Utf8 n) = None
summed_as (columns.Binary n) = None
summed_as (columns.List e n) = None

-- what rows are added as: of times only lengths are
abbrev pub summand : Served → DType → Option Summand
summand served_as.Stored dtype = summed_as dtype
summand (served_as.Floats f) dtype = Some (Floats f)
summand (served_as.Times (Integer t)) dtype = None
summand (served_as.Times (Float f)) dtype = None
summand (served_as.Times (Date u)) dtype = None
summand (served_as.Times (TimeOfDay u)) dtype = None
summand (served_as.Times (Timestamp u)) dtype = None
summand (served_as.Times (Duration u)) dtype = Some Integers
summand (served_as.Times (Decimal d w)) dtype = None

abbrev pub summand_of : TypedForm → Option Summand
summand_of c = summand (served c) (column_dtype c.column)

-- a type has rows that are added so
abbrev pub IsSummable : DType → Summand → Type 0
IsSummable dtype Integers = sum_fault dtype ≡ None
IsSummable dtype Decimals = is_decimals dtype ≡ true
IsSummable dtype (Floats f) = IsFormatOf dtype f

-- the sum of the rows
abbrev pub IsTypedSum : TypedForm → TypedSum → Type 0
IsTypedSum c (sums.Integers answer) = (summand_of c ≡ Some Integers) × IsSumAnswer (column_dtype c.column) (column_rows c.column) answer
IsTypedSum c (sums.Decimals sum) = (summand_of c ≡ Some Decimals) × (sum ≡ sum_of (map decimal_in (column_rows c.column))) × StaysWithin (map decimal_in (column_rows c.column))
IsTypedSum c (sums.Floats sum) = (f : FloatFormat) × (summand_of c ≡ Some (Floats f)) × (sum ≡ tally_of_keys f (map number_in (column_rows c.column)))

-- a column whose rows are not added
abbrev pub summand_fault : Option Summand → Option VortexError
summand_fault None = Some Unsupported
summand_fault (Some summand) = None

-- refused by that or for memory, and decimals by the first row that leaves 38 digits
abbrev pub IsTypedSumError : TypedForm → DecimalError → Type 0
IsTypedSumError c (Refused error) = IsErrorFor (summand_fault (summand_of c)) error
IsTypedSumError c (Overflow row) = (summand_of c ≡ Some Decimals) × IsFirstLeaving (map decimal_in (column_rows c.column)) row
