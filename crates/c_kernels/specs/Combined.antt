-- Two columns in handles worked row by row: what is made of them, and how the call ends.
use Rattle.std.specs.Prelude.{◌≡◌, ◌⊎◌, ◌&&◌, ℕ, zero, suc, ℤ, pos, Bool, true, false, length, Option, Some, None}
use Rattle.std.specs.Global.{Global}
use Rattle.column_base.specs.declared.dtype.DType.{DType}
use Rattle.column_base.specs.declared.error.VortexError.{VortexError}
use Rattle.column_base.specs.declared.error.VortexError.TheVariants.{OutOfMemory}
use Rattle.column_core.specs.Value.{Value}
use Rattle.column_ops.specs.Comparing.{compare_dtype, compared}
use Rattle.column_ops.specs.declared.operator.CompareOperator.TheVariants.{Eq, NotEq, Gt, Gte, Lt, Lte}
use Rattle.runend_array.specs.Array.{column_of, dtype_of, rows}
use Rattle.runend_array.specs.declared.array_ref.ArrayRef.{ArrayRef}
use Rattle.runend_pairs.specs.Decimals.{is_decimals}
use Rattle.runend_pairs.specs.Faults.{boolean_fault, numeric_fault, pick_fault}
use Rattle.runend_pairs.specs.Operations.{boolean_of, extreme_dtype, first_valid, first_valid_dtype, greater, lesser, numeric_dtype, numeric_of, ptype_in, IsNumberOrNull}
use Rattle.runend_pairs.specs.Zipped.{are_constant, zip_rows, IsAnswerColumn, IsFirstWithout}
use Rattle.runend_pairs.specs.declared.booleans.BooleanOperator.TheVariants.{And, Or}
use Rattle.runend_pairs.specs.declared.fault.ZipError.{ZipError}
use Rattle.runend_pairs.specs.declared.fault.ZipError.TheVariants.{Refused, Overflow}
use Rattle.runend_pairs.specs.declared.numerics.NumericOperator.{NumericOperator}
use Rattle.runend_pairs.specs.declared.numerics.NumericOperator.TheVariants.{Add, Subtract, Multiply}
use Rattle.c_columns.specs.Ending.{AreFields, EndsBy, IsRefusedAs}
use Rattle.c_columns.specs.TwoColumns.{beside_fault}
use Rattle.c_columns.specs.declared.error_fields.ErrorFields.{ErrorFields}
use Rattle.c_kernels.specs.DecimalPairs.{decimal_pair_fault, AreDecimalsCombined, IsFirstPast}
use Rattle.c_kernels.specs.declared.operators.PairOperator.{PairOperator}
use Rattle.c_kernels.specs.declared.operators.PairOperator.TheVariants.{Compare, Calculate, Connect, Coalesce, Least, Greatest}

-- the operator of a number, from 0 to 13: comparisons have the numbers that they have in the call for comparisons
abbrev pub operator_numbered : ℕ → Option PairOperator
operator_numbered zero = Some (Compare Eq)
operator_numbered (suc zero) = Some (Compare NotEq)
operator_numbered (suc (suc zero)) = Some (Compare Gt)
operator_numbered (suc (suc (suc zero))) = Some (Compare Gte)
operator_numbered (suc (suc (suc (suc zero)))) = Some (Compare Lt)
operator_numbered (suc (suc (suc (suc (suc zero))))) = Some (Compare Lte)
operator_numbered (suc (suc (suc (suc (suc (suc zero)))))) = Some (Calculate Add)
operator_numbered (suc (suc (suc (suc (suc (suc (suc zero))))))) = Some (Calculate Subtract)
operator_numbered (suc (suc (suc (suc (suc (suc (suc (suc zero)))))))) = Some (Calculate Multiply)
operator_numbered (suc (suc (suc (suc (suc (suc (suc (suc (suc zero))))))))) = Some (Connect And)
operator_numbered (suc (suc (suc (suc (suc (suc (suc (suc (suc (suc zero)))))))))) = Some (Connect Or)
operator_numbered (suc (suc (suc (suc (suc (suc (suc (suc (suc (suc (suc zero))))))))))) = Some Coalesce
operator_numbered (suc (suc (suc (suc (suc (suc (suc (suc (suc (suc (suc (suc zero)))))))))))) = Some Least
operator_numbered (suc (suc (suc (suc (suc (suc (suc (suc (suc (suc (suc (suc (suc zero))))))))))))) = Some Greatest
operator_numbered (suc (suc (suc (suc (suc (suc (suc (suc (suc (suc (suc (suc (suc (suc k)))))))))))))) = None

-- the answers for the two rows at each place, in the least number of runs, or in a constant where both are constants
abbrev pub AreAnswers : (Option Value → Option Value → Option Value) → (DType → DType → DType) → ArrayRef Global → ArrayRef Global → ArrayRef Global → Type 0
AreAnswers answer dtype left right made =
    IsAnswerColumn (are_constant (column_of left) (column_of right)) (zip_rows answer (rows left) (rows right)) (dtype (dtype_of left) (dtype_of right)) (column_of made)

-- both types are of decimals
abbrev pub are_decimals : DType → DType → Bool
are_decimals left right = is_decimals left && is_decimals right

-- the sums, differences or products of two columns, which are both of decimals, or are worked as integers
abbrev pub AreCalculated : NumericOperator → Bool → ArrayRef Global → ArrayRef Global → ArrayRef Global → Type 0
AreCalculated operator true left right made = AreDecimalsCombined operator left right made
AreCalculated operator false left right made = AreAnswers (numeric_of operator) numeric_dtype left right made

-- the answers for the rows of two columns
abbrev pub AreCombined : PairOperator → ArrayRef Global → ArrayRef Global → ArrayRef Global → Type 0
AreCombined (Compare operator) left right made = AreAnswers (compared operator) compare_dtype left right made
AreCombined (Calculate operator) left right made = AreCalculated operator (are_decimals (dtype_of left) (dtype_of right)) left right made
AreCombined (Connect operator) left right made = AreAnswers (boolean_of operator) compare_dtype left right made
AreCombined Coalesce left right made = AreAnswers first_valid first_valid_dtype left right made
AreCombined Least left right made = AreAnswers lesser extreme_dtype left right made
AreCombined Greatest left right made = AreAnswers greater extreme_dtype left right made

-- why two columns are not added, subtracted or multiplied
abbrev pub calculate_fault : NumericOperator → Bool → ArrayRef Global → ArrayRef Global → Option VortexError
calculate_fault operator true left right = decimal_pair_fault operator left right
calculate_fault operator false left right = numeric_fault (dtype_of left) (dtype_of right) (length (rows left)) (length (rows right))

-- why two columns are not worked row by row
abbrev pub pair_fault : PairOperator → ArrayRef Global → ArrayRef Global → Option VortexError
pair_fault (Compare operator) left right = beside_fault left right
pair_fault (Calculate operator) left right = calculate_fault operator (are_decimals (dtype_of left) (dtype_of right)) left right
pair_fault (Connect operator) left right = boolean_fault (dtype_of left) (dtype_of right) (length (rows left)) (length (rows right))
pair_fault operator left right = pick_fault (dtype_of left) (dtype_of right) (length (rows left)) (length (rows right))

-- the first row whose sum, difference or product the type of the answers does not have
abbrev pub IsFirstLarge : NumericOperator → Bool → ArrayRef Global → ArrayRef Global → ℕ → Type 0
IsFirstLarge operator true left right row = IsFirstPast operator left right row
IsFirstLarge operator false left right row = IsFirstWithout (IsNumberOrNull (ptype_in (dtype_of left))) (zip_rows (numeric_of operator) (rows left) (rows right)) row

-- the first row whose answer the type of the answers does not have: only integers and decimals can be too large
abbrev pub row_without : PairOperator → ArrayRef Global → ArrayRef Global → ℕ → Type 0
row_without (Calculate operator) left right row = IsFirstLarge operator (are_decimals (dtype_of left) (dtype_of right)) left right row
row_without operator left right row = ⊥

-- refused by the fault where there is one, else by such a row where there is one, and else only for memory
abbrev pub IsPairRefusal : Option VortexError → (ℕ → Type 0) → ZipError → Type 0
IsPairRefusal fault without (Refused error) = (error ≡ OutOfMemory) ⊎ (fault ≡ Some error)
IsPairRefusal fault without (Overflow row) = (fault ≡ None) × without row

-- a refusal by its number and its fields: with 14, and the row as the first field, for an answer that does not fit
abbrev pub IsToldAs : ZipError → ℤ → ErrorFields → Type 0
IsToldAs (Refused error) code fields = IsRefusedAs error code fields
IsToldAs (Overflow row) code fields = (code ≡ pos 14) × AreFields fields row 0 0

-- answers are refused with the first row whose answer the type does not have
pub record EndsByRow (operator : PairOperator) (left right : ArrayRef Global) (code : ℤ) (fields : ErrorFields) : Type 0 where
  pub row : ℕ
  pub none : pair_fault operator left right ≡ None
  pub without : row_without operator left right row
  pub told : IsToldAs (Overflow row) code fields

-- how the call ends: with 22 where one of the two handles is empty
abbrev pub EndsOnPairs : PairOperator → Option (ArrayRef Global) → Option (ArrayRef Global) → ℤ → ErrorFields → Type 0
EndsOnPairs operator None right code fields = code ≡ pos 22
EndsOnPairs operator (Some left) None code fields = code ≡ pos 22
EndsOnPairs operator (Some left) (Some right) code fields = EndsBy (pair_fault operator left right) code fields ⊎ EndsByRow operator left right code fields
