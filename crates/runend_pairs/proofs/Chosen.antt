-- Rows chosen by a mask, as the first that is not null of those that the mask keeps of either column.
use Rattle.std.proofs.Common.{◌≡◌, ℕ, ◌<◌, List, [], ◌∷◌, Bool, true, false, Option, Some, None, length, refl, sym, subst, ◌∙◌, ap, arith}
use Rattle.std.specs.Prelude.{◌&&◌, ◌==◌, not, option_map, if◌then◌else◌}
use Rattle.std.proofs.lemmas.Bool.Decides.{Decides-eqb}
use Rattle.std.proofs.lemmas.List.{length-replicate}
use Rattle.std.specs.Option.{option_or}
use Rattle.column_base.specs.declared.dtype.Nullability.TheVariants.{NonNullable, Nullable}
use Rattle.column_base.specs.declared.dtype.DType.{DType}
use Rattle.column_base.specs.declared.dtype.DType.TheVariants as column
use Rattle.column_base.specs.declared.error.VortexError.{VortexError}
use Rattle.column_base.specs.declared.error.VortexError.TheVariants.{Unsupported}
use Rattle.column_base.specs.contracts.dtype.DTypePartialEq.TheImpl as dtype_eq
use Rattle.column_base.specs.Types.{with_nullability}
use Rattle.column_core.specs.Kinds.{same_kind}
use Rattle.column_core.specs.Value.{FlatValue, Single, Value}
use Rattle.column_ops.specs.CompareFault.{length_fault}
use Rattle.runend_array.specs.Column.{Column, OfConstant, OfLeaf, OfLists, OfRuns, column_rows, column_dtype}
use Rattle.runend_pairs.specs.Faults.{choice_fault, is_picked, is_truths, pick_fault, ArePicked}
use Rattle.runend_pairs.specs.Operations.{chosen_by, chosen_rows, first_valid, truth_of, where_false, where_true}
use Rattle.runend_pairs.specs.declared.choices.PickRule.TheVariants.{FirstValid, WhereFalse, WhereTrue}
use Rattle.runend_pairs.specs.Zipped.{are_constant, is_constant, zip_rows, IsAnswerColumn}
use Rattle.runend_pairs.proofs.AnswerColumns.{one_answer_row}
use Rattle.runend_pairs.proofs.Faultless.{neither, same_length}
use Rattle.runend_pairs.proofs.Picked.{first_valid_picked, left_is_picked}
use Rattle.runend_pairs.proofs.Placed.{length-zip_rows}

-- a row and no other
or_nothing : (row : Option Value) → first_valid row None ≡ row
or_nothing None = refl
or_nothing (Some value) = refl

chosen_cases : (truth : Bool) (left right : Option Value) → first_valid (if truth then left else None) (if truth then None else right) ≡ (if truth then left else right)
chosen_cases true left right = or_nothing left
chosen_cases false left right = refl

-- the row that a mask chooses
chosen_row : (mask : Option Value) (left right : Option Value) → first_valid (where_true mask left) (where_false mask right) ≡ chosen_by (option_map truth_of mask) left right
chosen_row None left right = refl
chosen_row (Some value) left right = chosen_cases (truth_of value) left right

-- and the rows
pub chosen_of_kept : (masks lefts rights : List (Option Value)) → zip_rows first_valid (zip_rows where_true masks lefts) (zip_rows where_false masks rights) ≡ chosen_rows masks lefts rights
chosen_of_kept [] lefts rights = refl
chosen_of_kept (mask ∷ masks) [] rights = refl
chosen_of_kept (mask ∷ masks) (left ∷ lefts) [] = refl
chosen_of_kept (mask ∷ masks) (left ∷ lefts) (right ∷ rights) = λ i. chosen_row mask left right i ∷ chosen_of_kept masks lefts rights i

-- a constant is what answers are where that was asked, and there is a row
counted_cases : (n : ℕ) (test : Bool) → test ≡ (n == 0) → 0 < n → not test ≡ true
counted_cases n true is some = let none = (Decides-eqb n 0).0 (sym is) in absurd (omega arith)
counted_cases n false is some = refl

counted_not : (n m : ℕ) → 0 < m → m ≡ n → not (n == 0) ≡ true
counted_not n m some same = counted_cases n (n == 0) refl (omega arith)

pub constant_is : (constant : Bool) (answers : List (Option Value)) (dtype : DType) (column : Column) → IsAnswerColumn constant answers dtype column → (constant ≡ true → 0 < length answers) → is_constant column ≡ constant
constant_is true answers dtype (OfConstant k) made some =
    let row = option_map (λ (v : FlatValue). Single v) k.value in
    counted_not k.count (length answers) (some refl) (sym (ap length made.shows) ∙ length-replicate k.count row)
constant_is true answers dtype (OfLeaf leaf) made some = absurd made.form
constant_is true answers dtype (OfLists lists) made some = absurd made.form
constant_is true answers dtype (OfRuns ends_type ends values offset count) made some = absurd made.form
constant_is false answers dtype (OfConstant k) made some = absurd made.form
constant_is false answers dtype (OfLeaf leaf) made some = absurd made.form
constant_is false answers dtype (OfLists lists) made some = absurd made.form
constant_is false answers dtype (OfRuns ends_type ends values offset count) made some = refl

-- of two constants there are answers
pub some_answers : (f : Option Value → Option Value → Option Value) (left right : Column) → length (column_rows left) ≡ length (column_rows right) → are_constant left right ≡ true
    → 0 < length (zip_rows f (column_rows left) (column_rows right))
some_answers f left right same are =
    let one = one_answer_row f left right are same in
    let some = one.some in
    let long = length-zip_rows f (column_rows left) (column_rows right) same in
    omega arith

-- all three are constants
pub three_constants : (mask left right : Bool) → ((mask && left) && (mask && right)) ≡ (mask && (left && right))
three_constants true left right = refl
three_constants false left right = refl

-- types with null
pub with_null_twice : (t : DType) → with_nullability (with_nullability t Nullable) Nullable ≡ with_nullability t Nullable
with_null_twice (column.Bool n) = refl
with_null_twice (column.Primitive p n) = refl
with_null_twice (column.Decimal d n) = refl
with_null_twice (column.Utf8 n) = refl
with_null_twice (column.Binary n) = refl
with_null_twice (column.List e n) = refl

without_null : (t : DType) → with_nullability (with_nullability t Nullable) NonNullable ≡ with_nullability t NonNullable
without_null (column.Bool n) = refl
without_null (column.Primitive p n) = refl
without_null (column.Decimal d n) = refl
without_null (column.Utf8 n) = refl
without_null (column.Binary n) = refl
without_null (column.List e n) = refl

picked_with_null : (t : DType) → is_picked t ≡ true → is_picked (with_nullability t Nullable) ≡ true
picked_with_null (column.Bool n) is = refl
picked_with_null (column.Primitive p n) is = refl
picked_with_null (column.Decimal d n) is = refl
picked_with_null (column.Utf8 n) is = cc
picked_with_null (column.Binary n) is = cc
picked_with_null (column.List e n) is = cc

-- a mask and two columns without a fault
choice_parts : (truths : Bool) (first second : Option VortexError) → (if truths then option_or first second else Some Unsupported) ≡ None → (truths ≡ true) × (first ≡ None) × (second ≡ None)
choice_parts true first second none = let both_none = neither first second none in (refl, both_none.0, both_none.1)
choice_parts false first second none = cc

module _ (mask left right : DType) (mask_count left_count right_count : ℕ) (none : choice_fault mask left right mask_count left_count right_count ≡ None) where
  known : (is_truths mask ≡ true) × (pick_fault left right left_count right_count ≡ None) × (length_fault mask_count left_count ≡ None)
  known = choice_parts (is_truths mask) (pick_fault left right left_count right_count) (length_fault mask_count left_count) none

  both : ArePicked FirstValid left right left_count right_count
  both = first_valid_picked left right left_count right_count known.1

  pub masked_count : mask_count ≡ left_count
  masked_count = same_length mask_count left_count known.2

  pub right_count_is : left_count ≡ right_count
  right_count_is = both.counted

  -- the mask picks rows of either
  pub mask_of_left : ArePicked WhereTrue mask left mask_count left_count
  mask_of_left = record { kind = left_is_picked left right left_count right_count known.1; left_is = known.0; counted = masked_count }

  pub mask_of_right : ArePicked WhereFalse mask right mask_count right_count
  mask_of_right = record { kind = both.kind; left_is = known.0; counted = masked_count ∙ both.counted }

  -- and what it picked goes together
  pub kept_of_both : (kept others : DType) (kept_count others_count : ℕ) → kept ≡ with_nullability left Nullable → others ≡ with_nullability right Nullable → kept_count ≡ others_count → ArePicked FirstValid kept others kept_count others_count
  kept_of_both kept others kept_count others_count kept_is others_is same = record {
    kind = subst (λ (t : DType). is_picked t ≡ true) (sym others_is) (picked_with_null right both.kind);
    left_is = subst (λ (t : DType). same_kind t others ≡ true) (sym kept_is) (subst (λ (u : DType). same_kind (with_nullability left Nullable) u ≡ true) (sym others_is)
        (ap (λ (t : DType). (dtype_eq.ghosts).eq t (with_nullability (with_nullability right Nullable) NonNullable)) (without_null left)
        ∙ ap (λ (t : DType). (dtype_eq.ghosts).eq (with_nullability left NonNullable) t) (without_null right) ∙ both.left_is));
    counted = same;
  }

-- what the mask keeps of both columns has as many rows
pub kept_counts : (mask left right : DType) (masks lefts rights : List (Option Value)) → choice_fault mask left right (length masks) (length lefts) (length rights) ≡ None → (kept others : List (Option Value))
    → kept ≡ zip_rows where_true masks lefts → others ≡ zip_rows where_false masks rights → length kept ≡ length others
kept_counts mask left right masks lefts rights none kept others kept_is others_is =
    let same = masked_count mask left right (length masks) (length lefts) (length rights) none in
    let as_many = right_count_is mask left right (length masks) (length lefts) (length rights) none in
    ap length kept_is ∙ length-zip_rows where_true masks lefts same ∙ sym (length-zip_rows where_false masks rights (same ∙ as_many)) ∙ sym (ap length others_is)

-- the column of the first rows that are not null of those that the mask keeps is that of the chosen rows
pub chosen_column : (mask left right : Column) → choice_fault (column_dtype mask) (column_dtype left) (column_dtype right) (length (column_rows mask)) (length (column_rows left)) (length (column_rows right)) ≡ None
    → (kept others chosen : Column) → IsAnswerColumn (are_constant mask left) (zip_rows where_true (column_rows mask) (column_rows left)) (with_nullability (column_dtype left) Nullable) kept
    → IsAnswerColumn (are_constant mask right) (zip_rows where_false (column_rows mask) (column_rows right)) (with_nullability (column_dtype right) Nullable) others
    → IsAnswerColumn (are_constant kept others) (zip_rows first_valid (column_rows kept) (column_rows others)) (with_nullability (column_dtype others) Nullable) chosen
    → IsAnswerColumn (is_constant mask && are_constant left right) (chosen_rows (column_rows mask) (column_rows left) (column_rows right)) (with_nullability (column_dtype right) Nullable) chosen
chosen_column mask left right none kept others chosen of_left of_right of_both =
    let masks = column_rows mask in
    let lefts = column_rows left in
    let rights = column_rows right in
    let same = masked_count (column_dtype mask) (column_dtype left) (column_dtype right) (length masks) (length lefts) (length rights) none in
    let as_many = right_count_is (column_dtype mask) (column_dtype left) (column_dtype right) (length masks) (length lefts) (length rights) none in
    let kept_constant = constant_is (are_constant mask left) (zip_rows where_true masks lefts) (with_nullability (column_dtype left) Nullable) kept of_left (some_answers where_true mask left same) in
    let others_constant = constant_is (are_constant mask right) (zip_rows where_false masks rights) (with_nullability (column_dtype right) Nullable) others of_right (some_answers where_false mask right (same ∙ as_many)) in
    let constant : are_constant kept others ≡ (is_constant mask && are_constant left right) =
    (λ i. kept_constant i && others_constant i) ∙ three_constants (is_constant mask) (is_constant left) (is_constant right) in
    let shown : zip_rows first_valid (column_rows kept) (column_rows others) ≡ chosen_rows masks lefts rights =
    (λ i. zip_rows first_valid (of_left.shows i) (of_right.shows i)) ∙ chosen_of_kept masks lefts rights in
    let typed : with_nullability (column_dtype others) Nullable ≡ with_nullability (column_dtype right) Nullable =
    ap (λ (t : DType). with_nullability t Nullable) of_right.typed ∙ with_null_twice (column_dtype right) in
    subst (λ (k : Bool). IsAnswerColumn k (chosen_rows masks lefts rights) (with_nullability (column_dtype right) Nullable) chosen) constant
    (subst (λ (rows : List (Option Value)). IsAnswerColumn (are_constant kept others) rows (with_nullability (column_dtype right) Nullable) chosen) shown
    (subst (λ (t : DType). IsAnswerColumn (are_constant kept others) (zip_rows first_valid (column_rows kept) (column_rows others)) t chosen) typed of_both))
