-- Two columns of floats in handles worked row by row: what is made of them, and how the call ends.
use Rattle.std.specs.Prelude.{◌≡◌, ◌==◌, ℕ, ℤ, pos, length, if◌then◌else◌, Option, Some, None}
use Rattle.std.specs.Global.{Global}
use Rattle.column_base.specs.declared.error.VortexError.{VortexError}
use Rattle.column_floats.specs.Formats.{format_of}
use Rattle.runend_array.specs.Array.{column_of, dtype_of, rows}
use Rattle.runend_array.specs.declared.array_ref.ArrayRef.{ArrayRef}
use Rattle.runend_pairs.specs.FloatKeys.{float_numeric_fault, float_numeric_of}
use Rattle.runend_pairs.specs.Operations.{numeric_dtype}
use Rattle.runend_pairs.specs.Zipped.{are_constant, zip_rows, IsAnswerColumn}
use Rattle.runend_pairs.specs.declared.float_numerics.FloatOperator.{FloatOperator}
use Rattle.runend_pairs.specs.declared.float_numerics.FloatOperator.TheVariants.{Add, Subtract, Multiply, Divide}
use Rattle.c_columns.specs.declared.error_fields.ErrorFields.{ErrorFields}
use Rattle.c_kernels.specs.Floats.{EndsFirstBy}

-- the operator of a number: sums, differences and products have the numbers that they have of integers
abbrev pub float_operator_numbered : ℕ → Option FloatOperator
float_operator_numbered number =
    if number == 6 then Some Add else (if number == 7 then Some Subtract else (if number == 8 then Some Multiply else (if number == 14 then Some Divide else None)))

-- what the operator gives for the two floats at each place, in the least number of runs, or in a constant where both
-- are constants
abbrev pub AreFloatsCombined : FloatOperator → ArrayRef Global → ArrayRef Global → ArrayRef Global → Type 0
AreFloatsCombined operator left right made =
    IsAnswerColumn (are_constant (column_of left) (column_of right)) (zip_rows (float_numeric_of operator (format_of (dtype_of left))) (rows left) (rows right)) (numeric_dtype (dtype_of left) (dtype_of right)) (column_of made)

-- why two columns of floats are not worked row by row
abbrev pub float_pair_fault : ArrayRef Global → ArrayRef Global → Option VortexError
float_pair_fault left right = float_numeric_fault (dtype_of left) (dtype_of right) (length (rows left)) (length (rows right))

-- how the call ends: with 22 where one of the two handles is empty
abbrev pub EndsOnFloatPairs : Option (ArrayRef Global) → Option (ArrayRef Global) → ℤ → ErrorFields → Type 0
EndsOnFloatPairs None right code fields = code ≡ pos 22
EndsOnFloatPairs (Some left) None code fields = code ≡ pos 22
EndsOnFloatPairs (Some left) (Some right) code fields = EndsFirstBy (float_pair_fault left right) code fields
