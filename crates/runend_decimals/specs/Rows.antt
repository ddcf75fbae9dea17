-- The rows of a column of decimals.
use Rattle.std.specs.Prelude.{ℤ, pos, Bool, true, false, Option, Some, None, if◌then◌else◌}
use Rattle.column_base.specs.declared.dtype.DType.{DType}
use Rattle.column_base.specs.declared.dtype.DType.TheVariants as column
use Rattle.column_base.specs.declared.error.VortexError.{VortexError}
use Rattle.column_base.specs.declared.error.VortexError.TheVariants.{Unsupported}
use Rattle.column_core.specs.DecimalForm.{DecimalForm, decimal_with}
use Rattle.column_core.specs.Kinds.{is_numbers}
use Rattle.column_core.specs.PrimitiveForm.{PrimitiveForm}
use Rattle.column_core.specs.Value.{Value, Single, DecimalNumber}

-- the integer of the decimal in a row, or null; null also for a value of another kind
abbrev pub decimal_in : Option Value → Option ℤ
decimal_in (Some (Single (DecimalNumber n))) = Some n
decimal_in row = None

-- whether the type is one of decimals
abbrev pub is_decimals : DType → Bool
is_decimals (column.Bool n) = false
is_decimals (column.Primitive t n) = false
is_decimals (column.Decimal d n) = true
is_decimals (column.Utf8 n) = false
is_decimals (column.Binary n) = false
is_decimals (column.List e n) = false

-- only columns of decimals are served
abbrev pub decimals_fault : DType → Option VortexError
decimals_fault t = if is_decimals t then None else Some Unsupported

-- only columns of integers are served
abbrev pub integers_fault : DType → Option VortexError
integers_fault t = if is_numbers t then None else Some Unsupported

-- integers as decimals without places
abbrev pub decimals_without_places : PrimitiveForm → DecimalForm
decimals_without_places form = decimal_with (record { precision = 38; scale = pos 0 }) form.numbers form.validity
