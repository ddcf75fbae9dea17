-- What a comparison answers, row by row, and how the answer is stored.
use Rattle.std.specs.Prelude.{◌≡◌, ◌<◌, List, [], ◌∷◌, Bool, false, Option, Some, None, length, map}
use Rattle.std.specs.declared.cmp.Ordering.{Ordering}
use Rattle.std.specs.Ordering.{is_eq, is_ne, is_gt, is_ge, is_lt, is_le}
use Rattle.column_base.specs.declared.dtype.Nullability.{Nullability}
use Rattle.column_base.specs.declared.dtype.Nullability.TheVariants.{NonNullable, Nullable}
use Rattle.column_base.specs.declared.dtype.DType.{DType}
use Rattle.column_base.specs.declared.dtype.DType.TheVariants as column
use Rattle.column_base.specs.Types.{nullability_of}
use Rattle.column_base.specs.ValidityForm.{AllNull, IsNormal}
use Rattle.column_core.specs.BoolForm.{BoolForm, IsFalseAtNulls}
use Rattle.column_core.specs.Value.{Value, Single, Truth}
use Rattle.column_ops.specs.Order.{value_cmp}
use Rattle.column_ops.specs.declared.operator.CompareOperator.{CompareOperator}
use Rattle.column_ops.specs.declared.operator.CompareOperator.TheVariants.{Eq, NotEq, Gt, Gte, Lt, Lte}

-- whether the operator holds of two values that are so ordered
abbrev pub holds_of : CompareOperator → Ordering → Bool
holds_of Eq ordering = is_eq ordering
holds_of NotEq ordering = is_ne ordering
holds_of Gt ordering = is_gt ordering
holds_of Gte ordering = is_ge ordering
holds_of Lt ordering = is_lt ordering
holds_of Lte ordering = is_le ordering

-- null where either row is null, else whether the operator holds of the two values
abbrev pub compared : CompareOperator → Option Value → Option Value → Option Value
compared operator None right = None
compared operator (Some left) None = None
compared operator (Some left) (Some right) = Some (Single (Truth (holds_of operator (value_cmp left right))))

-- the rows of two columns compared, each with the one at the same place
abbrev pub compare_rows : CompareOperator → List (Option Value) → List (Option Value) → List (Option Value)
compare_rows operator [] rights = []
compare_rows operator (left ∷ lefts) [] = []
compare_rows operator (left ∷ lefts) (right ∷ rights) = compared operator left right ∷ compare_rows operator lefts rights

-- each row compared with one optional value
abbrev pub compare_with : CompareOperator → List (Option Value) → Option Value → List (Option Value)
compare_with operator rows right = map (λ row. compared operator row right) rows

-- whether a test holds of an optional item: it does not of null
abbrev pub is_held : {B : Type 0} → (B → Bool) → Option B → Bool
is_held test None = false
is_held test (Some item) = test item

-- the bit that is stored for an answer: false for null
abbrev pub answer_bit : Option Value → Bool
answer_bit (Some (Single (Truth truth))) = truth
answer_bit answer = false

-- the bits that are stored for these answers
abbrev pub answer_bits : List (Option Value) → List Bool
answer_bits answers = map answer_bit answers

-- whether a comparison of two types has null: where either type has
abbrev pub either_nullability : Nullability → Nullability → Nullability
either_nullability NonNullable right = right
either_nullability Nullable right = Nullable

-- the type of a comparison of two types
abbrev pub compare_dtype : DType → DType → DType
compare_dtype left right = column.Bool (either_nullability (nullability_of left) (nullability_of right))

-- how a comparison is stored: bits of validity only where some row is null and some is not, all rows null only
-- where there is one, and false under null
pub record IsStoredComparison (form : BoolForm) : Type 0 where
  pub normal : IsNormal form.validity
  pub some : form.validity ≡ AllNull → 0 < length form.bits
  pub blank : IsFalseAtNulls form
