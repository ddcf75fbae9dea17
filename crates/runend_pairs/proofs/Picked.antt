-- What faults and types say of columns that rows are picked from.
use Rattle.std.proofs.Common.{◌≡◌, ℕ, Bool, true, false, Option, Some, None, refl, sym, subst, ◌∙◌, ap}
use Rattle.std.specs.Prelude.{if◌then◌else◌, IsSome}
use Rattle.std.specs.Ordering.{is_ge, is_le}
use Rattle.std.proofs.lemmas.Bool.{false≢true}
use Rattle.column_base.specs.declared.dtype.Nullability.{Nullability}
use Rattle.column_base.specs.declared.dtype.Nullability.TheVariants.{NonNullable, Nullable}
use Rattle.column_base.specs.declared.dtype.PType.{PType}
use Rattle.column_base.specs.declared.dtype.DType.{DType}
use Rattle.column_base.specs.declared.dtype.DecimalDType.{DecimalDType}
use Rattle.column_base.specs.declared.dtype.DType.TheVariants as column
use Rattle.column_base.specs.Types.{nullability_of, with_nullability}
use Rattle.column_core.specs.Kinds.{same_kind}
use Rattle.column_core.specs.SameType.{same_dtype-decides}
use Rattle.column_core.specs.ScalarView.{IsViewOf}
use Rattle.column_core.specs.Value.{IsLists, Value}
use Rattle.column_core.specs.declared.view.ScalarView.{ScalarView}
use Rattle.column_ops.specs.CompareFault.{length_fault}
use Rattle.column_ops.specs.Comparing.{either_nullability}
use Rattle.column_ops.specs.Order.{value_cmp}
use Rattle.runend_pairs.specs.Faults.{is_picked, pick_fault, AreOfKind, ArePicked, IsLeftFor}
use Rattle.runend_pairs.specs.Operations.{both_nullability, picked, IsLeftOf, IsNeverNull, IsOfKind, IsViewIn}
use Rattle.runend_pairs.specs.declared.choices.PickRule.{PickRule}
use Rattle.runend_pairs.specs.declared.choices.PickRule.TheVariants.{FirstValid, Greater, Lesser, WhereFalse, WhereTrue}
use Rattle.runend_pairs.proofs.Faultless.{no_fault_of_three, same_length, single_truths, strict}

-- the first row that is not null is null only where both are
pub first_valid_never : (m n : Nullability) → both_nullability m n ≡ NonNullable → IsNeverNull m n (picked FirstValid)
first_valid_never NonNullable n none None b left right = absurd (false≢true (left refl))
first_valid_never NonNullable n none (Some a) b left right = refl
first_valid_never Nullable n none None b left right = right none
first_valid_never Nullable n none (Some a) b left right = refl

either_some : (test : Bool) (a b : Value) → IsSome (if test then Some a else Some b)
either_some true a b = refl
either_some false a b = refl

-- the lesser and the greater of two rows are null only where either is
lesser_some : (a b : Option Value) → IsSome a → IsSome b → IsSome (picked Lesser a b)
lesser_some None b left right = absurd (false≢true left)
lesser_some (Some a) None left right = absurd (false≢true right)
lesser_some (Some a) (Some b) left right = either_some (is_le (value_cmp a b)) a b

greater_some : (a b : Option Value) → IsSome a → IsSome b → IsSome (picked Greater a b)
greater_some None b left right = absurd (false≢true left)
greater_some (Some a) None left right = absurd (false≢true right)
greater_some (Some a) (Some b) left right = either_some (is_ge (value_cmp a b)) a b

pub lesser_never : (m n : Nullability) → either_nullability m n ≡ NonNullable → IsNeverNull m n (picked Lesser)
lesser_never m n none = strict (picked Lesser) m n lesser_some none

pub greater_never : (m n : Nullability) → either_nullability m n ≡ NonNullable → IsNeverNull m n (picked Greater)
greater_never m n none = strict (picked Greater) m n greater_some none

-- a type of the kind of another is that type, with null or without
kind_of_bools : (n : Nullability) (left : DType) → same_kind left (column.Bool n) ≡ true → IsOfKind (λ m. column.Bool m) left
kind_of_bools n (column.Bool m) same = refl
kind_of_bools n (column.Primitive t m) same = let one = (same_dtype-decides (column.Primitive t NonNullable) (column.Bool NonNullable)).0 same in cc
kind_of_bools n (column.Decimal d m) same = let one = (same_dtype-decides (column.Decimal d NonNullable) (column.Bool NonNullable)).0 same in cc
kind_of_bools n (column.Utf8 m) same = let one = (same_dtype-decides (column.Utf8 NonNullable) (column.Bool NonNullable)).0 same in cc
kind_of_bools n (column.Binary m) same = let one = (same_dtype-decides (column.Binary NonNullable) (column.Bool NonNullable)).0 same in cc
kind_of_bools n (column.List e m) same = let one = (same_dtype-decides (column.List e NonNullable) (column.Bool NonNullable)).0 same in cc

kind_of_integers : (p : PType) (n : Nullability) (left : DType) → same_kind left (column.Primitive p n) ≡ true → IsOfKind (λ m. column.Primitive p m) left
kind_of_integers p n (column.Bool m) same = let one = (same_dtype-decides (column.Bool NonNullable) (column.Primitive p NonNullable)).0 same in cc
kind_of_integers p n (column.Primitive t m) same = let one = (same_dtype-decides (column.Primitive t NonNullable) (column.Primitive p NonNullable)).0 same in cc
kind_of_integers p n (column.Decimal d m) same = let one = (same_dtype-decides (column.Decimal d NonNullable) (column.Primitive p NonNullable)).0 same in cc
kind_of_integers p n (column.Utf8 m) same = let one = (same_dtype-decides (column.Utf8 NonNullable) (column.Primitive p NonNullable)).0 same in cc
kind_of_integers p n (column.Binary m) same = let one = (same_dtype-decides (column.Binary NonNullable) (column.Primitive p NonNullable)).0 same in cc
kind_of_integers p n (column.List e m) same = let one = (same_dtype-decides (column.List e NonNullable) (column.Primitive p NonNullable)).0 same in cc

kind_of_decimals : (d : DecimalDType) (n : Nullability) (left : DType) → same_kind left (column.Decimal d n) ≡ true → IsOfKind (λ m. column.Decimal d m) left
kind_of_decimals d n (column.Bool m) same = let one = (same_dtype-decides (column.Bool NonNullable) (column.Decimal d NonNullable)).0 same in cc
kind_of_decimals d n (column.Primitive t m) same = let one = (same_dtype-decides (column.Primitive t NonNullable) (column.Decimal d NonNullable)).0 same in cc
kind_of_decimals d n (column.Decimal e m) same = let one = (same_dtype-decides (column.Decimal e NonNullable) (column.Decimal d NonNullable)).0 same in cc
kind_of_decimals d n (column.Utf8 m) same = let one = (same_dtype-decides (column.Utf8 NonNullable) (column.Decimal d NonNullable)).0 same in cc
kind_of_decimals d n (column.Binary m) same = let one = (same_dtype-decides (column.Binary NonNullable) (column.Decimal d NonNullable)).0 same in cc
kind_of_decimals d n (column.List e m) same = let one = (same_dtype-decides (column.List e NonNullable) (column.Decimal d NonNullable)).0 same in cc

-- both columns of a rule, where the right one is of a kind that is not of lists
module _ (dtype_in : Nullability → DType) (single : (n : Nullability) → ¬ IsLists (dtype_in n)) where
  not_lists : (t : DType) → IsOfKind dtype_in t → ¬ IsLists t
  not_lists t is = subst (λ (u : DType). ¬ IsLists u) (sym is) (single (nullability_of t))

  left_of_rule : (rule : PickRule) (left right : DType) → (same_kind left right ≡ true → IsOfKind dtype_in left) → IsLeftFor rule left right → IsLeftOf rule dtype_in left × (¬ IsLists left)
  left_of_rule FirstValid left right kind_of taken = (kind_of taken, not_lists left (kind_of taken))
  left_of_rule Lesser left right kind_of taken = (kind_of taken, not_lists left (kind_of taken))
  left_of_rule Greater left right kind_of taken = (kind_of taken, not_lists left (kind_of taken))
  left_of_rule WhereTrue left right kind_of taken = (tt, single_truths left taken)
  left_of_rule WhereFalse left right kind_of taken = (tt, single_truths left taken)

  of_both : (rule : PickRule) (left right : DType) (left_count right_count : ℕ) → (same_kind left right ≡ true → IsOfKind dtype_in left) → IsOfKind dtype_in right → ArePicked rule left right left_count right_count
      → AreOfKind rule dtype_in left right left_count right_count
  of_both rule left right left_count right_count kind_of right_is taken =
      let known = left_of_rule rule left right kind_of taken.left_is in
      record {
        left_is = known.0;
        right_is = right_is;
        left_single = known.1;
        right_single = not_lists right right_is;
        counted = taken.counted;
      }

-- which is one of booleans, of integers or of decimals
pub bools_of_both : (rule : PickRule) (n : Nullability) (left right seen : DType) (left_count right_count : ℕ) → seen ≡ right → seen ≡ column.Bool n → ArePicked rule left right left_count right_count
    → AreOfKind rule (λ m. column.Bool m) left right left_count right_count
bools_of_both rule n left right seen left_count right_count own shown taken =
    let is : right ≡ column.Bool n = sym own ∙ shown in
    of_both (λ m. column.Bool m) (λ m h. h) rule left right left_count right_count (λ same. kind_of_bools n left (subst (λ (t : DType). same_kind left t ≡ true) is same))
    (subst (λ (t : DType). IsOfKind (λ m. column.Bool m) t) (sym is) refl) taken

pub integers_of_both : (rule : PickRule) (p : PType) (n : Nullability) (left right seen : DType) (left_count right_count : ℕ) → seen ≡ right → seen ≡ column.Primitive p n → ArePicked rule left right left_count right_count
    → AreOfKind rule (λ m. column.Primitive p m) left right left_count right_count
integers_of_both rule p n left right seen left_count right_count own shown taken =
    let is : right ≡ column.Primitive p n = sym own ∙ shown in
    of_both (λ m. column.Primitive p m) (λ m h. h) rule left right left_count right_count (λ same. kind_of_integers p n left (subst (λ (t : DType). same_kind left t ≡ true) is same))
    (subst (λ (t : DType). IsOfKind (λ m. column.Primitive p m) t) (sym is) refl) taken

pub decimals_of_both : (rule : PickRule) (d : DecimalDType) (n : Nullability) (left right seen : DType) (left_count right_count : ℕ) → seen ≡ right → seen ≡ column.Decimal d n → ArePicked rule left right left_count right_count
    → AreOfKind rule (λ m. column.Decimal d m) left right left_count right_count
decimals_of_both rule d n left right seen left_count right_count own shown taken =
    let is : right ≡ column.Decimal d n = sym own ∙ shown in
    of_both (λ m. column.Decimal d m) (λ m h. h) rule left right left_count right_count (λ same. kind_of_decimals d n left (subst (λ (t : DType). same_kind left t ≡ true) is same))
    (subst (λ (t : DType). IsOfKind (λ m. column.Decimal d m) t) (sym is) refl) taken

-- the type of their rows
pub bools_with : (n m : Nullability) (right seen : DType) → seen ≡ right → seen ≡ column.Bool n → column.Bool m ≡ with_nullability right m
bools_with n m right seen own is = ap (λ (t : DType). with_nullability t m) (sym is ∙ own)

pub integers_with : (p : PType) (n m : Nullability) (right seen : DType) → seen ≡ right → seen ≡ column.Primitive p n → column.Primitive p m ≡ with_nullability right m
integers_with p n m right seen own is = ap (λ (t : DType). with_nullability t m) (sym is ∙ own)

pub decimals_with : (d : DecimalDType) (n m : Nullability) (right seen : DType) → seen ≡ right → seen ≡ column.Decimal d n → column.Decimal d m ≡ with_nullability right m
decimals_with d n m right seen own is = ap (λ (t : DType). with_nullability t m) (sym is ∙ own)

-- a right column that rows are picked from is of booleans, of integers or of decimals
pub right_kind : (rule : PickRule) (left right : DType) (left_count right_count : ℕ) → ArePicked rule left right left_count right_count → is_picked right ≡ true
right_kind rule left right left_count right_count taken = taken.kind

-- two columns without a fault
module _ (left right : DType) (left_count right_count : ℕ) (none : pick_fault left right left_count right_count ≡ None) where
  known_of_both : (is_picked left ≡ true) × (is_picked right ≡ true) × (same_kind left right ≡ true) × (length_fault left_count right_count ≡ None)
  known_of_both = no_fault_of_three (is_picked left) (is_picked right) (same_kind left right) (length_fault left_count right_count) none

  pub left_is_picked : is_picked left ≡ true
  left_is_picked = known_of_both.0

  pub first_valid_picked : ArePicked FirstValid left right left_count right_count
  first_valid_picked = record { kind = known_of_both.1; left_is = known_of_both.2; counted = same_length left_count right_count known_of_both.3 }

  pub lesser_picked : ArePicked Lesser left right left_count right_count
  lesser_picked = record { kind = known_of_both.1; left_is = known_of_both.2; counted = same_length left_count right_count known_of_both.3 }

  pub greater_picked : ArePicked Greater left right left_count right_count
  greater_picked = record { kind = known_of_both.1; left_is = known_of_both.2; counted = same_length left_count right_count known_of_both.3 }

-- a view of a type is one of that type, with null or without
pub view_in : {A : Type 0} (dtype_in : Nullability → DType) (t : DType) (view : ScalarView A) → IsOfKind dtype_in t → IsViewOf t view → IsViewIn dtype_in view
view_in dtype_in t view is of = (nullability_of t, subst (λ (u : DType). IsViewOf u view) is of)
