-- The rows of one column tested: what is made of them, and how the call ends.
use Rattle.std.specs.Prelude.{◌≡◌, ℤ, pos, map, Option, Some, None}
use Rattle.std.specs.Global.{Global}
use Rattle.column_base.specs.declared.dtype.DType.{DType}
use Rattle.column_base.specs.declared.dtype.DType.TheVariants as column
use Rattle.column_base.specs.declared.dtype.Nullability.TheVariants.{NonNullable}
use Rattle.column_base.specs.declared.error.VortexError.{VortexError}
use Rattle.column_core.specs.Kinds.{list_fault}
use Rattle.column_core.specs.Value.{Value}
use Rattle.runend_array.specs.Array.{column_of, dtype_of, rows}
use Rattle.runend_array.specs.declared.array_ref.ArrayRef.{ArrayRef}
use Rattle.runend_pairs.specs.Faults.{truth_fault}
use Rattle.runend_pairs.specs.Operations.{negated, null_test, valid_test}
use Rattle.runend_pairs.specs.Zipped.{is_constant, IsAnswerColumn}
use Rattle.c_columns.specs.Ending.{EndsBy}
use Rattle.c_columns.specs.declared.error_fields.ErrorFields.{ErrorFields}
use Rattle.c_kernels.specs.declared.tested.RowTest.{RowTest}
use Rattle.c_kernels.specs.declared.tested.RowTest.TheVariants.{Not, Null, Valid}

-- the answer for a row
abbrev pub test_answer : RowTest → Option Value → Option Value
test_answer Not = negated
test_answer Null = null_test
test_answer Valid = valid_test

-- the type of the answers
abbrev pub test_dtype : RowTest → DType → DType
test_dtype Not dtype = dtype
test_dtype test dtype = column.Bool NonNullable

-- the answers for the rows of a column, in the least number of runs, or in a constant where the column is one
abbrev pub IsTested : RowTest → ArrayRef Global → ArrayRef Global → Type 0
IsTested test c made = IsAnswerColumn (is_constant (column_of c)) (map (test_answer test) (rows c)) (test_dtype test (dtype_of c)) (column_of made)

-- why a column is not tested
abbrev pub test_fault : RowTest → ArrayRef Global → Option VortexError
test_fault Not c = truth_fault (dtype_of c)
test_fault test c = list_fault (dtype_of c)

-- how the call ends: with 22 where the handle is empty
abbrev pub EndsOnTested : RowTest → Option (ArrayRef Global) → ℤ → ErrorFields → Type 0
EndsOnTested test None code fields = code ≡ pos 22
EndsOnTested test (Some c) code fields = EndsBy (test_fault test c) code fields
