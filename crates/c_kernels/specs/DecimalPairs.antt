-- Two columns of decimals added, subtracted and multiplied: what is made of them, and why they are not.
use Rattle.std.specs.Prelude.{ℕ, length, List, Option}
use Rattle.std.specs.Global.{Global}
use Rattle.column_base.specs.declared.error.VortexError.{VortexError}
use Rattle.column_core.specs.Value.{Value}
use Rattle.runend_array.specs.Array.{column_of, dtype_of, rows}
use Rattle.runend_array.specs.declared.array_ref.ArrayRef.{ArrayRef}
use Rattle.runend_pairs.specs.Decimals.{answer_digits, decimal_numeric_dtype, decimal_numeric_fault, decimal_numeric_of, IsDecimalOrNull}
use Rattle.runend_pairs.specs.Zipped.{are_constant, zip_rows, AllHave, IsAnswerColumn, IsFirstWithout}
use Rattle.runend_pairs.specs.declared.numerics.NumericOperator.{NumericOperator}

-- the answers for the rows of two columns
abbrev pub decimal_answers : NumericOperator → ArrayRef Global → ArrayRef Global → List (Option Value)
decimal_answers operator left right = zip_rows (decimal_numeric_of operator) (rows left) (rows right)

-- none has more digits than the type of the answers
abbrev pub HasDecimalAnswer : NumericOperator → ArrayRef Global → ArrayRef Global → Option Value → Type 0
HasDecimalAnswer operator left right answer = IsDecimalOrNull (answer_digits operator (dtype_of left) (dtype_of right)) answer

-- the answers in the least number of runs, or in a constant where both columns are constants; the type has each
pub record AreDecimalsCombined (operator : NumericOperator) (left right made : ArrayRef Global) : Type 0 where
  pub answers : IsAnswerColumn (are_constant (column_of left) (column_of right)) (decimal_answers operator left right) (decimal_numeric_dtype operator (dtype_of left) (dtype_of right)) (column_of made)
  pub within : AllHave (HasDecimalAnswer operator left right) (decimal_answers operator left right)

-- why two columns are not added, subtracted or multiplied
abbrev pub decimal_pair_fault : NumericOperator → ArrayRef Global → ArrayRef Global → Option VortexError
decimal_pair_fault operator left right = decimal_numeric_fault operator (dtype_of left) (dtype_of right) (length (rows left)) (length (rows right))

-- the first row whose answer has more digits than the type of the answers
abbrev pub IsFirstPast : NumericOperator → ArrayRef Global → ArrayRef Global → ℕ → Type 0
IsFirstPast operator left right row = IsFirstWithout (HasDecimalAnswer operator left right) (decimal_answers operator left right) row
