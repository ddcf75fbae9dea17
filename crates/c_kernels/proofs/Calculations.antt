-- What is calculated with decimals, and with any other columns as with integers.
use Rattle.std.proofs.Common.{◌≡◌, sym, subst, Bool, true, false, Result, Ok, Err, Option, Some}
use Rattle.std.specs.Prelude.{IfErr, IfOk}
use Rattle.std.specs.Global.{Global}
use Rattle.column_base.specs.declared.error.VortexError.{VortexError}
use Rattle.runend_array.specs.Array.{column_of, dtype_of}
use Rattle.runend_array.specs.declared.array_ref.ArrayRef.{ArrayRef}
use Rattle.runend_pairs.specs.Decimals.{decimal_numeric_dtype}
use Rattle.runend_pairs.specs.Operations.{numeric_dtype, numeric_of}
use Rattle.runend_pairs.specs.Zipped.{are_constant, AllHave, IsAnswerColumn}
use Rattle.runend_pairs.specs.declared.fault.ZipError.{ZipError}
use Rattle.runend_pairs.specs.declared.fault.ZipError.TheVariants.{Refused}
use Rattle.runend_pairs.specs.declared.numerics.NumericOperator.{NumericOperator}
use Rattle.c_kernels.specs.Combined.{are_decimals, calculate_fault, AreAnswers, AreCalculated, IsFirstLarge, IsPairRefusal}
use Rattle.c_kernels.specs.DecimalPairs.{decimal_answers, HasDecimalAnswer}

module _ (operator : NumericOperator) (left right : ArrayRef Global) where
  abbrev both : Bool
  both = are_decimals (dtype_of left) (dtype_of right)

  pub decimals_made : (result : Result (ArrayRef Global) ZipError) → both ≡ true
      → IfOk result (λ made. IsAnswerColumn (are_constant (column_of left) (column_of right)) (decimal_answers operator left right) (decimal_numeric_dtype operator (dtype_of left) (dtype_of right)) (column_of made))
      → IfOk result (λ made. AllHave (HasDecimalAnswer operator left right) (decimal_answers operator left right)) → IfOk result (λ made. AreCalculated operator both left right made)
  decimals_made (Ok made) is answers within = subst (λ (b : Bool). AreCalculated operator b left right made) (sym is) (record { answers = answers; within = within })
  decimals_made (Err error) is answers within = tt

  pub integers_made : (result : Result (ArrayRef Global) ZipError) → both ≡ false → IfOk result (λ made. AreAnswers (numeric_of operator) numeric_dtype left right made) → IfOk result (λ made. AreCalculated operator both left right made)
  integers_made result is answers = subst (λ (b : Bool). IfOk result (λ made. AreCalculated operator b left right made)) (sym is) answers

  -- a fault of columns of this kind, and a row whose answer does not fit
  pub refused_as : (result : Result (ArrayRef Global) ZipError) (kind : Bool) → both ≡ kind → IfErr result (IsPairRefusal (calculate_fault operator kind left right) (IsFirstLarge operator kind left right))
      → IfErr result (IsPairRefusal (calculate_fault operator both left right) (IsFirstLarge operator both left right))
  refused_as result kind is refused = subst (λ (b : Bool). IfErr result (IsPairRefusal (calculate_fault operator b left right) (IsFirstLarge operator b left right))) (sym is) refused

  pub first_as : (result : Result (ArrayRef Global) ZipError) (kind : Bool) → both ≡ kind → ((error : VortexError) → calculate_fault operator kind left right ≡ Some error → result ≡ Err (Refused error))
      → (error : VortexError) → calculate_fault operator both left right ≡ Some error → result ≡ Err (Refused error)
  first_as result kind is first = subst (λ (b : Bool). (error : VortexError) → calculate_fault operator b left right ≡ Some error → result ≡ Err (Refused error)) (sym is) first
