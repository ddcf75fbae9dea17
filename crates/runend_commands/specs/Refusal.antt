-- Why a command is refused on a plain column. No form, session or threshold has a part in it.
use Rattle.std.specs.Prelude.{length, Option, Some, None}
use Rattle.std.specs.Option.{option_or}
use Rattle.column_base.specs.declared.dtype.DType.{DType}
use Rattle.column_base.specs.declared.dtype.DType.TheVariants as column
use Rattle.column_base.specs.declared.error.VortexError.{VortexError}
use Rattle.column_base.specs.declared.error.VortexError.TheVariants.{OnlyPrimitive}
use Rattle.column_base.specs.Mask.{mask_bits}
use Rattle.column_core.specs.PrimitiveForm.{optional_numbers}
use Rattle.column_core.specs.Refusal.{range_fault, row_fault}
use Rattle.column_core.specs.Value.{PlainColumn}
use Rattle.column_ops.specs.Cast.{cast_fault}
use Rattle.column_ops.specs.Codes.{code_fault}
use Rattle.column_ops.specs.Fill.{fill_fault}
use Rattle.column_ops.specs.Filter.{filter_fault}
use Rattle.column_ops.specs.Take.{take_fault}
use Rattle.column_ops.specs.CompareFault.{compare_column_fault, compare_scalar_fault}
use Rattle.column_sums.specs.SumAnswer.{sum_fault}
use Rattle.column_core.specs.Kinds.{list_fault}
use Rattle.runend_array.specs.Array.{dtype_of, rows}
use Rattle.runend_commands.specs.declared.command.Command.{Command}
use Rattle.runend_commands.specs.declared.command.Command.TheVariants.{Slice, Filter, Take, TakeFrom, CompareScalar, CompareColumn, Cast, FillNull, Encode, Decode, At, Sum, MinMax, IsConstant, IsSorted}

-- the rows are not integers
abbrev pub numbers_fault : DType → Option VortexError
numbers_fault (column.Primitive t n) = None
numbers_fault t = Some OnlyPrimitive

-- the first fault of a command, with its fields, or none
abbrev pub refusal : {A : Type 0} → PlainColumn → Command A → Option VortexError
refusal before (Slice range) = range_fault range.start range.end (length before.rows)
refusal before (Filter mask) = filter_fault (length (mask_bits mask)) (length before.rows)
refusal before (Take indices) = take_fault (optional_numbers indices) (length before.rows)
refusal before (TakeFrom dictionary) = code_fault before (length (rows dictionary))
refusal before (CompareScalar operator value) = compare_scalar_fault before.dtype value.dtype
refusal before (CompareColumn operator right) = compare_column_fault before.dtype (dtype_of right) (length before.rows) (length (rows right))
refusal before (Cast dtype) = cast_fault before dtype
refusal before (FillNull value) = fill_fault before.dtype value
refusal before Encode = numbers_fault before.dtype
refusal before Decode = None
refusal before (At index) = option_or (list_fault before.dtype) (row_fault index (length before.rows))
refusal before Sum = sum_fault before.dtype
refusal before MinMax = list_fault before.dtype
refusal before IsConstant = list_fault before.dtype
refusal before (IsSorted strict) = list_fault before.dtype
