-- The column of a handle compared with a number that C passes: what is made, and how the call ends.
use Rattle.std.specs.Prelude.{◌≡◌, ℤ, pos, Option, Some, None}
use Rattle.std.specs.List.{AllZip}
use Rattle.std.specs.Option.{option_or}
use Rattle.std.specs.Global.{Global}
use Rattle.column_base.specs.Types.{nullability_of}
use Rattle.column_base.specs.declared.dtype.DType.TheVariants as types
use Rattle.column_base.specs.declared.error.VortexError.{VortexError}
use Rattle.column_base.specs.declared.error.VortexError.TheVariants.{TypeMismatch}
use Rattle.column_ops.specs.declared.operator.CompareOperator.{CompareOperator}
use Rattle.exact_comparisons.specs.ExactRows.{number_fault, IsExactTruth}
use Rattle.exact_numbers.specs.declared.numbers.ExactNumber.{ExactNumber}
use Rattle.runend_array.specs.Array.{dtype_of, rows}
use Rattle.runend_array.specs.Column.{column_dtype}
use Rattle.runend_array.specs.declared.array_ref.ArrayRef.{ArrayRef}
use Rattle.typed_columns.specs.Typed.{TypedForm, typed_of}
use Rattle.typed_columns.specs.declared.typed_column.TypedColumn.{TypedColumn}
use Rattle.typed_kernels.specs.Served.{served}
use Rattle.c_columns.specs.Numbers.{number_passed}
use Rattle.c_columns.specs.declared.error_fields.ErrorFields.{ErrorFields}
use Rattle.c_columns.specs.declared.row_value.RowValue.{RowValue}
use Rattle.c_kernels.specs.Floats.{EndsFirstBy}

-- booleans, null where the row is: whether the operator holds of each row and the number that is passed, both as the
-- exact numbers that they are
pub record AreComparedWith (operator : CompareOperator) (value : RowValue) (column : TypedColumn Global) (made : ArrayRef Global) : Type 0 where
  pub number : ExactNumber
  pub passed : number_passed value ≡ Some number
  pub truths : AllZip (IsExactTruth (served (typed_of column)) (dtype_of column.array) operator number) (rows column.array) (rows made)
  pub dtype : dtype_of made ≡ types.Bool (nullability_of (dtype_of column.array))

-- only a number is compared with
abbrev pub passed_fault : Option ExactNumber → Option VortexError
passed_fault None = Some TypeMismatch
passed_fault (Some number) = None

-- why a column is not compared with a value: its rows are not compared with numbers, or the value is none
abbrev pub comparing_fault : RowValue → TypedForm → Option VortexError
comparing_fault value c = option_or (number_fault (served c) (column_dtype c.column)) (passed_fault (number_passed value))

-- how the call ends: with 22 where the handle is empty; by the fault, and then it is never out of memory
abbrev pub EndsOnComparing : RowValue → Option (TypedColumn Global) → ℤ → ErrorFields → Type 0
EndsOnComparing value None code fields = code ≡ pos 22
EndsOnComparing value (Some c) code fields = EndsFirstBy (comparing_fault value (typed_of c)) code fields
