-- What operations answer for two rows, either of which may be null.
use Rattle.std.specs.Prelude.{if◌then◌else◌, List, [], ◌∷◌, ◌+ℤ◌, ◌-ℤ◌, ◌*ℤ◌, ◌≡◌, ℤ, pos, Bool, true, false, not, Option, Some, None, is_some, option_map, IsSome}
use Rattle.std.specs.Ordering.{is_eq, is_ge, is_le}
use Rattle.column_base.specs.declared.dtype.Nullability.{Nullability}
use Rattle.column_base.specs.declared.dtype.Nullability.TheVariants.{NonNullable}
use Rattle.column_base.specs.declared.dtype.DType.{DType}
use Rattle.column_base.specs.declared.dtype.PType.{PType}
use Rattle.column_base.specs.declared.dtype.PType.TheVariants.{I64}
use Rattle.column_base.specs.Types.{nullability_of, with_nullability}
use Rattle.column_ops.specs.Comparing.{either_nullability}
use Rattle.column_ops.specs.Order.{row_cmp, value_cmp}
use Rattle.column_base.specs.declared.dtype.DType.TheVariants as column
use Rattle.column_base.specs.declared.dtype.Nullability.TheVariants.{Nullable}
use Rattle.column_core.specs.ScalarView.{IsViewOf}
use Rattle.column_core.specs.Value.{Value, Single, Truth, Number, IsRowOf}
use Rattle.column_core.specs.declared.view.ScalarView.{ScalarView}
use Rattle.runend_pairs.specs.declared.numerics.NumericOperator.{NumericOperator}
use Rattle.runend_pairs.specs.declared.numerics.NumericOperator.TheVariants.{Add, Subtract, Multiply}
use Rattle.runend_pairs.specs.declared.choices.PickRule.{PickRule}
use Rattle.runend_pairs.specs.declared.choices.PickRule.TheVariants.{FirstValid, Lesser, Greater, WhereTrue, WhereFalse}
use Rattle.runend_pairs.specs.declared.booleans.BooleanOperator.{BooleanOperator}
use Rattle.runend_pairs.specs.declared.booleans.BooleanOperator.TheVariants.{And, Or}

-- an operation answers no null where neither row may be null: a row may be where its type has null
abbrev pub IsNeverNull : Nullability → Nullability → (Option Value → Option Value → Option Value) → Type 0
IsNeverNull left right f = (a b : Option Value) → (left ≡ NonNullable → IsSome a) → (right ≡ NonNullable → IsSome b) → IsSome (f a b)

-- two views of rows of two types, whose columns an operation takes
pub record AreViewsOf {A B : Type 0} (takes : DType → DType → Type 0) (left : ScalarView A) (right : ScalarView B) : Type 0 where
  pub left_type : DType
  pub right_type : DType
  pub taken : takes left_type right_type
  pub left_is : IsViewOf left_type left
  pub right_is : IsViewOf right_type right

-- a view of a row of a type that has null or not
abbrev pub IsViewIn : {A : Type 0} → (Nullability → DType) → ScalarView A → Type 0
IsViewIn dtype_in view = (nullability : Nullability) × IsViewOf (dtype_in nullability) view

-- a type is this one, with null or without
abbrev pub IsOfKind : (Nullability → DType) → DType → Type 0
IsOfKind dtype_in dtype = dtype ≡ dtype_in (nullability_of dtype)

-- null, or an integer that the type has
abbrev pub IsNumberOrNull : PType → Option Value → Type 0
IsNumberOrNull ptype answer = IsRowOf (column.Primitive ptype Nullable) answer

-- the native type of a column of integers
abbrev pub ptype_in : DType → PType
ptype_in (column.Primitive t n) = t
ptype_in t = I64

-- the type of the answers: integers of the native type of the left column, with null where either has it
abbrev pub numeric_dtype : DType → DType → DType
numeric_dtype left right = column.Primitive (ptype_in left) (either_nullability (nullability_of left) (nullability_of right))

-- the integer of a value; a value of another kind counts as 0
abbrev pub integer_of : Value → ℤ
integer_of (Single (Number n)) = n
integer_of value = pos 0

-- the integer that two integers give, of whatever size
abbrev pub calculated : NumericOperator → ℤ → ℤ → ℤ
calculated Add a b = a +ℤ b
calculated Subtract a b = a -ℤ b
calculated Multiply a b = a *ℤ b

-- null where either is null, else the integer that both give
abbrev pub number_from : NumericOperator → Option ℤ → Option ℤ → Option ℤ
number_from operator None right = None
number_from operator (Some a) None = None
number_from operator (Some a) (Some b) = Some (calculated operator a b)

-- an integer or null as a row
abbrev pub number_row : Option ℤ → Option Value
number_row number = option_map (λ n. Single (Number n)) number

-- the answer of an operator for two rows
abbrev pub numeric_of : NumericOperator → Option Value → Option Value → Option Value
numeric_of operator left right = number_row (number_from operator (option_map integer_of left) (option_map integer_of right))

-- the boolean of a value; a value of another kind counts as false
abbrev pub truth_of : Value → Bool
truth_of (Single (Truth b)) = b
truth_of value = false

-- whether both are true, where null is unknown
abbrev pub both : Option Bool → Option Bool → Option Bool
both (Some false) right = Some false
both (Some true) right = right
both None (Some false) = Some false
both None (Some true) = None
both None None = None

-- whether either is true, where null is unknown
abbrev pub either : Option Bool → Option Bool → Option Bool
either (Some true) right = Some true
either (Some false) right = right
either None (Some true) = Some true
either None (Some false) = None
either None None = None

abbrev pub connected : BooleanOperator → Option Bool → Option Bool → Option Bool
connected And left right = both left right
connected Or left right = either left right

-- a boolean or null as a row
abbrev pub truth_row : Option Bool → Option Value
truth_row truth = option_map (λ b. Single (Truth b)) truth

-- the answer of an operator for two rows
abbrev pub boolean_of : BooleanOperator → Option Value → Option Value → Option Value
boolean_of operator left right = truth_row (connected operator (option_map truth_of left) (option_map truth_of right))

-- the opposite of a boolean, null for null
abbrev pub negated : Option Value → Option Value
negated row = truth_row (option_map not (option_map truth_of row))

-- whether a row is null
abbrev pub null_test : Option Value → Option Value
null_test row = Some (Single (Truth (not (is_some row))))

-- whether a row is not null
abbrev pub valid_test : Option Value → Option Value
valid_test row = Some (Single (Truth (is_some row)))

-- whether two rows are the same
abbrev pub same_test : Option Value → Option Value → Option Value
same_test left right = Some (Single (Truth (is_eq (row_cmp left right))))

-- the first row, or the second where the first is null
abbrev pub first_valid : Option Value → Option Value → Option Value
first_valid None right = right
first_valid (Some left) right = Some left

-- the lesser row, null where either is null
abbrev pub lesser : Option Value → Option Value → Option Value
lesser None right = None
lesser (Some left) None = None
lesser (Some left) (Some right) = if is_le (value_cmp left right) then Some left else Some right

-- the greater row, null where either is null
abbrev pub greater : Option Value → Option Value → Option Value
greater None right = None
greater (Some left) None = None
greater (Some left) (Some right) = if is_ge (value_cmp left right) then Some left else Some right

-- the row where the mask is this boolean, else null
abbrev pub kept_where : Bool → Option Bool → Option Value → Option Value
kept_where wanted None row = None
kept_where true (Some mask) row = if mask then row else None
kept_where false (Some mask) row = if mask then None else row

-- the row where the mask is true, else null
abbrev pub where_true : Option Value → Option Value → Option Value
where_true mask row = kept_where true (option_map truth_of mask) row

-- the row where the mask is false, else null
abbrev pub where_false : Option Value → Option Value → Option Value
where_false mask row = kept_where false (option_map truth_of mask) row

-- the row that a rule picks of two
abbrev pub picked : PickRule → Option Value → Option Value → Option Value
picked FirstValid = first_valid
picked Lesser = lesser
picked Greater = greater
picked WhereTrue = where_true
picked WhereFalse = where_false

-- the type of the left column that a rule takes next to a right one of this type: a mask is of any, else it is that one
abbrev pub IsLeftOf : PickRule → (Nullability → DType) → DType → Type 0
IsLeftOf FirstValid dtype_in left = IsOfKind dtype_in left
IsLeftOf Lesser dtype_in left = IsOfKind dtype_in left
IsLeftOf Greater dtype_in left = IsOfKind dtype_in left
IsLeftOf WhereTrue dtype_in left = Unit {0}
IsLeftOf WhereFalse dtype_in left = Unit {0}

-- whether a type that has null only where both have it has null
abbrev pub both_nullability : Nullability → Nullability → Nullability
both_nullability NonNullable right = NonNullable
both_nullability Nullable right = right

-- the type of the first rows that are not null: it has null where both types have it
abbrev pub first_valid_dtype : DType → DType → DType
first_valid_dtype left right = with_nullability right (both_nullability (nullability_of left) (nullability_of right))

-- the type of the lesser and the greater rows: it has null where either type has it
abbrev pub extreme_dtype : DType → DType → DType
extreme_dtype left right = with_nullability right (either_nullability (nullability_of left) (nullability_of right))

-- the left row where the mask is true, the right one where it is false, else null
abbrev pub chosen_by : Option Bool → Option Value → Option Value → Option Value
chosen_by None left right = None
chosen_by (Some mask) left right = if mask then left else right

-- the rows that a mask chooses of two columns
abbrev pub chosen_rows : List (Option Value) → List (Option Value) → List (Option Value) → List (Option Value)
chosen_rows [] lefts rights = []
chosen_rows (mask ∷ masks) [] rights = []
chosen_rows (mask ∷ masks) (left ∷ lefts) [] = []
chosen_rows (mask ∷ masks) (left ∷ lefts) (right ∷ rights) = chosen_by (option_map truth_of mask) left right ∷ chosen_rows masks lefts rights
