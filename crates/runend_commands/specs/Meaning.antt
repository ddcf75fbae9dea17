-- What a command that is not refused does to a plain column, and which form it leaves.
use Rattle.std.specs.Prelude.{◌≡◌, ◌↔◌, ◌⊎◌, ℕ, All, IsTrue, List, length, Option, None, Some, option_map, slice_get, slice_range}
use Rattle.column_base.specs.declared.dtype.PType.{PType}
use Rattle.column_base.specs.declared.dtype.PType.TheVariants.{U64}
use Rattle.column_base.specs.declared.dtype.DType.{DType}
use Rattle.column_base.specs.Types.{IsLeastFor}
use Rattle.column_base.specs.Mask.{mask_bits}
use Rattle.column_core.specs.PrimitiveForm.{optional_numbers, primitive_dtype}
use Rattle.column_core.specs.Value.{FlatValue, PlainColumn, Single, Value}
use Rattle.column_ops.specs.Codes.{code_rows}
use Rattle.column_ops.specs.Fill.{fill_dtype, fill_rows}
use Rattle.column_ops.specs.Filter.{filter_rows}
use Rattle.column_ops.specs.Nullable.{take_dtype}
use Rattle.column_ops.specs.Take.{take_rows}
use Rattle.column_ops.specs.Comparing.{compare_dtype, compare_rows, compare_with}
use Rattle.column_ops.specs.OrderFacts as order
use Rattle.column_sums.specs.SumAnswer.{IsSumAnswer}
use Rattle.runend_array.specs.Array.{column_of, dtype_of, rows}
use Rattle.runend_array.specs.Column.{Column, OfLeaf, OfConstant, OfLists, OfRuns, column_rows, plain_of, IsFlat}
use Rattle.runend_array.specs.Encoding.{IsComputedFlat}
use Rattle.runend_windows.specs.Cover.{IsTightCover}
use Rattle.runend_windows.specs.Window.{last_end}
use Rattle.runend_array.specs.declared.array_ref.ArrayRef.{ArrayRef}
use Rattle.runend_commands.specs.declared.command.Command.{Command}
use Rattle.runend_commands.specs.declared.command.Command.TheVariants.{Slice, Filter, Take, TakeFrom, CompareScalar, CompareColumn, Cast, FillNull, Encode, Decode, At, Sum, MinMax, IsConstant, IsSorted}
use Rattle.runend_commands.specs.declared.command.Answer.{Answer}
use Rattle.runend_commands.specs.declared.command.Answer.TheVariants.{Done, Value as ValueIs, Sum as SumIs, MinMax as MinMaxIs, Bool as BoolIs}
use Rattle.runend_commands.specs.Extremes.{AreExtremesIfAny}

-- an array as a plain column: its type and its rows, whatever its form
abbrev pub plain : {A : Type 0} → ArrayRef A → PlainColumn
plain array = plain_of (column_of array)

-- the value, if there is one, in place of each null
abbrev pub rows_filled : List (Option Value) → Option FlatValue → List (Option Value)
rows_filled rows None = rows
rows_filled rows (Some value) = fill_rows rows (Single value)

-- the rows after it
abbrev pub rows_after : {A : Type 0} → PlainColumn → Command A → List (Option Value)
rows_after before (Slice range) = slice_range before.rows range.start range.end
rows_after before (Filter mask) = filter_rows (mask_bits mask) before.rows
rows_after before (Take indices) = take_rows before.rows (optional_numbers indices)
rows_after before (TakeFrom dictionary) = code_rows (rows dictionary) before.rows
rows_after before (CompareScalar operator value) = compare_with operator before.rows (option_map Single value.value)
rows_after before (CompareColumn operator right) = compare_rows operator before.rows (rows right)
rows_after before (FillNull value) = rows_filled before.rows value.value
rows_after before command = before.rows

-- their type
abbrev pub dtype_after : {A : Type 0} → PlainColumn → Command A → DType
dtype_after before (Take indices) = take_dtype before.dtype (primitive_dtype indices)
dtype_after before (TakeFrom dictionary) = take_dtype (dtype_of dictionary) before.dtype
dtype_after before (CompareScalar operator value) = compare_dtype before.dtype value.dtype
dtype_after before (CompareColumn operator right) = compare_dtype before.dtype (dtype_of right)
dtype_after before (Cast dtype) = dtype
dtype_after before (FillNull value) = fill_dtype before.dtype
dtype_after before command = before.dtype

-- the value of a row, in the column's type
abbrev pub IsRowValue : {A : Type 0} → PlainColumn → ℕ → Answer A → Type 0
IsRowValue before index (ValueIs scalar) = (scalar.dtype ≡ before.dtype) × (slice_get before.rows index ≡ Some (option_map Single scalar.value))
IsRowValue before index answer = ⊥

-- the sum of the rows
abbrev pub IsSumOf : {A : Type 0} → PlainColumn → Answer A → Type 0
IsSumOf before (SumIs answer) = IsSumAnswer before.dtype before.rows answer
IsSumOf before answer = ⊥

-- the least and the greatest row, if any
abbrev pub AreExtremesOf : {A : Type 0} → PlainColumn → Answer A → Type 0
AreExtremesOf before (MinMaxIs found) = AreExtremesIfAny before found
AreExtremesOf before answer = ⊥

-- whether the fact holds
abbrev pub IsTruthOf : {A : Type 0} → Type 0 → Answer A → Type 0
IsTruthOf P (BoolIs truth) = IsTrue truth ↔ P
IsTruthOf P answer = ⊥

-- the answer fits the command: a command whose purpose is the rows that it leaves is answered that it is done
abbrev pub IsAnswer : {A : Type 0} → PlainColumn → Command A → Answer A → Type 0
IsAnswer before (At index) answer = IsRowValue before index answer
IsAnswer before Sum answer = IsSumOf before answer
IsAnswer before MinMax answer = AreExtremesOf before answer
IsAnswer before IsConstant answer = IsTruthOf (order.IsConstant before.rows) answer
IsAnswer before (IsSorted strict) answer = IsTruthOf (order.IsSorted strict before.rows) answer
IsAnswer before command answer = answer ≡ Done

-- one null, as a constant
abbrev pub IsOneNull : Column → Type 0
IsOneNull (OfLeaf leaf) = ⊥
IsOneNull (OfConstant constant) = (constant.value ≡ None) × (constant.count ≡ 1)
IsOneNull (OfLists lists) = ⊥
IsOneNull (OfRuns ends_type ends values offset count) = ⊥

-- ends of the least type that holds the last of them, and flat values as a call computes them; where all rows are null
-- there may be one constant null instead, and then the ends are u64
abbrev pub AreTightParts : PType → List ℕ → Column → List (Option Value) → Type 0
AreTightParts ends_type ends values rows =
    (IsLeastFor (last_end ends) ends_type × IsComputedFlat values) ⊎ ((ends_type ≡ U64) × IsOneNull values × All (λ row. row ≡ None) rows)

-- a run column that is a tight exact cover of the rows, so it has the least number of runs
abbrev pub IsTightColumn : List (Option Value) → Column → Type 0
IsTightColumn rows (OfLeaf leaf) = ⊥
IsTightColumn rows (OfConstant constant) = ⊥
IsTightColumn rows (OfLists lists) = ⊥
IsTightColumn rows (OfRuns ends_type ends values offset count) =
    IsTightCover rows ends (column_rows values) × (offset ≡ 0) × (count ≡ length rows) × AreTightParts ends_type ends values rows

-- what a command promises of the form that it leaves, whichever kernels there are: a command that only answers leaves
-- the array as it is
abbrev pub LeavesForm : {A : Type 0} → ArrayRef A → Command A → ArrayRef A → Type 0
LeavesForm before Encode after = IsTightColumn (column_rows (column_of before)) (column_of after)
LeavesForm before Decode after = IsFlat (column_of after)
LeavesForm before (At index) after = after ≡ before
LeavesForm before Sum after = after ≡ before
LeavesForm before MinMax after = after ≡ before
LeavesForm before IsConstant after = after ≡ before
LeavesForm before (IsSorted strict) after = after ≡ before
LeavesForm before command after = Unit {0}
