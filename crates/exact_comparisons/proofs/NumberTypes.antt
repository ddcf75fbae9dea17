-- Types of numbers, and what is compared with values of them.
use Rattle.std.proofs.Common.{◌≡◌, ◌∙◌, ℤ, Bool, true, true≢false, if◌then◌else◌, None, Some, refl, ap, sym, subst}
use Rattle.column_base.specs.Types.{nullability_of, with_nullability}
use Rattle.column_base.specs.declared.dtype.DType.{DType}
use Rattle.column_base.specs.declared.dtype.DType.TheVariants as columns
use Rattle.column_base.specs.declared.dtype.Nullability.{Nullability}
use Rattle.column_base.specs.declared.dtype.Nullability.TheVariants.{NonNullable, Nullable}
use Rattle.column_base.specs.declared.error.VortexError.TheVariants.{TypeMismatch}
use Rattle.column_core.specs.Kinds.{same_kind}
use Rattle.column_core.specs.SameType.{same_dtype-decides}
use Rattle.column_ops.specs.CompareFault.{compare_scalar_fault}
use Rattle.column_ops.specs.Comparing.{compare_dtype, either_nullability}
use Rattle.column_ops.specs.declared.operator.CompareOperator.{CompareOperator}
use Rattle.exact_comparisons.specs.ExactRows.{is_numeric, stored_fault, AreNumbersOf}
use Rattle.exact_comparisons.specs.declared.number_types.NumberType.{NumberType}
use Rattle.exact_numbers.specs.Decisions.{IsDecidedAmong}
use Rattle.exact_numbers.specs.Exact.{exact_cmp, exact_decimal, exact_of, holds_exactly}
use Rattle.exact_numbers.specs.Positions.{IsWithin}
use Rattle.exact_numbers.specs.declared.decisions.Decision.{Decision}
use Rattle.exact_numbers.specs.declared.numbers.ExactNumber.{ExactNumber}
use Rattle.exact_comparisons.proofs.AnsweredRows.{IsDecided}

kind_of_itself : (t : DType) → same_kind t t ≡ true
kind_of_itself t = (same_dtype-decides (with_nullability t NonNullable) (with_nullability t NonNullable)).1 refl

-- numbers are compared with values of their own type
pub no_kind_fault : (t : DType) → is_numeric t ≡ true → compare_scalar_fault t t ≡ None
no_kind_fault (columns.Primitive p n) is = ap (λ (b : Bool). if b then None else Some TypeMismatch) (kind_of_itself (columns.Primitive p n))
no_kind_fault (columns.Decimal d n) is = ap (λ (b : Bool). if b then None else Some TypeMismatch) (kind_of_itself (columns.Decimal d n))
no_kind_fault (columns.Bool n) is = absurd (true≢false (sym is))
no_kind_fault (columns.Utf8 n) is = absurd (true≢false (sym is))
no_kind_fault (columns.Binary n) is = absurd (true≢false (sym is))
no_kind_fault (columns.List e n) is = absurd (true≢false (sym is))

-- and with numbers
pub no_stored_fault : (t : DType) → is_numeric t ≡ true → stored_fault t ≡ None
no_stored_fault (columns.Primitive p n) is = refl
no_stored_fault (columns.Decimal d n) is = refl
no_stored_fault (columns.Bool n) is = absurd (true≢false (sym is))
no_stored_fault (columns.Utf8 n) is = absurd (true≢false (sym is))
no_stored_fault (columns.Binary n) is = absurd (true≢false (sym is))
no_stored_fault (columns.List e n) is = absurd (true≢false (sym is))

-- the answers are null where the rows are
either_itself : (n : Nullability) → either_nullability n n ≡ n
either_itself NonNullable = refl
either_itself Nullable = refl

pub compared_type : (t : DType) → compare_dtype t t ≡ columns.Bool (nullability_of t)
compared_type t = ap (λ (n : Nullability). columns.Bool n) (either_itself (nullability_of t))

-- what is decided for the range of a type is decided for its integers
pub decided_for : (operator : CompareOperator) (number : ExactNumber) (t : DType) (numbers : NumberType) (decision : Decision) (scale least greatest : ℤ) → scale ≡ numbers.scale → least ≡ numbers.least → greatest ≡ numbers.greatest
    → AreNumbersOf t numbers → IsDecidedAmong operator number scale least greatest decision → IsDecided operator number t decision.operator decision.number
decided_for operator number t numbers decision scale least greatest e f g are decided = λ z has.
    let own : IsWithin numbers.least numbers.greatest z = (are.all z).0 has in
    let within : IsWithin least greatest z = subst (λ (k : ℤ). IsWithin k greatest z) (sym f) (subst (λ (k : ℤ). IsWithin numbers.least k z) (sym g) own) in
    ap (λ (k : ℤ). holds_exactly operator (exact_cmp (exact_decimal k z) (exact_of number))) (sym (e ∙ are.scale)) ∙ decided z within
