-- Faults of comparisons, where rows are written one by one.
use Rattle.std.proofs.Common.{◌≡◌, ◌∙◌, ℕ, List, Bool, true, false, Option, Some, None, length, refl, sym, ap}
use Rattle.std.specs.Option.{option_or}
use Rattle.std.specs.Prelude.{if◌then◌else◌, ◌==◌, option_map, Result, Ok, Err, IsOkUnless}
use Rattle.std.proofs.lemmas.List.{length-replicate}
use Rattle.std.proofs.lemmas.Bool.Decides.{Decides-eqb}
use Rattle.column_base.specs.declared.dtype.DType.{DType}
use Rattle.column_base.specs.declared.dtype.DType.TheVariants as column
use Rattle.column_base.specs.declared.error.VortexError.{VortexError}
use Rattle.column_base.specs.declared.error.VortexError.TheVariants.{ColumnLength, OutOfMemory}
use Rattle.column_core.specs.Leaf.{Leaf, leaf_dtype, leaf_rows, single_rows}
use Rattle.column_core.specs.Refusal.{IsRefusedBy}
use Rattle.column_core.specs.ScalarForm.{ScalarForm}
use Rattle.column_core.specs.Value.{FlatValue, IsLists, Single, Value}
use Rattle.column_ops.specs.CompareFault.{compare_column_fault, compare_scalar_fault}
use Rattle.column_ops.specs.Comparing.{compare_rows, compare_with}
use Rattle.column_ops.specs.declared.operator.CompareOperator.{CompareOperator}
use Rattle.column_ops.proofs.RowRanges.{length-single_rows}
use Rattle.column_core.specs.Kinds.{list_fault}
use Rattle.runend_windows.proofs.RunRows.{length-run_rows}
use Rattle.runend_array.specs.Column.{Constant, OfConstant, Runs, column_dtype, column_of_runs, column_rows}
use Rattle.runend_map.proofs.ComparedRows.{constant_rows}
use Rattle.runend_map.proofs.OneKind.{no_column_fault, no_lists, no_lists_beside, only_memory}

-- what has no fault is refused only for memory
pub only_short : {T : Type 0} (fault : Option VortexError) (result : Result T VortexError) → fault ≡ None → IsRefusedBy fault result → IsOkUnless result OutOfMemory
only_short fault (Ok value) none refused = tt
only_short fault (Err error) none refused = only_memory fault error none refused

-- lists are not compared, whatever with
pub lists_not_compared : (left right : DType) (error : VortexError) → list_fault left ≡ Some error → compare_scalar_fault left right ≡ Some error
lists_not_compared (column.List e n) right error has = has
lists_not_compared (column.Bool n) right error has = cc
lists_not_compared (column.Primitive t n) right error has = cc
lists_not_compared (column.Decimal d n) right error has = cc
lists_not_compared (column.Utf8 n) right error has = cc
lists_not_compared (column.Binary n) right error has = cc

-- other types have an order
ordered : (t : DType) → ¬ IsLists t → list_fault t ≡ None
ordered (column.List e n) single = absurd (single tt)
ordered (column.Bool n) single = refl
ordered (column.Primitive t n) single = refl
ordered (column.Decimal d n) single = refl
ordered (column.Utf8 n) single = refl
ordered (column.Binary n) single = refl

-- and so do the types of two columns that can be compared
pub both_ordered : (left right : DType) (left_count right_count : ℕ) → compare_column_fault left right left_count right_count ≡ None → (list_fault left ≡ None) × (list_fault right ≡ None)
both_ordered left right left_count right_count none =
    let kinds = (no_column_fault left right left_count right_count none).0 in
    (ordered left (no_lists left right kinds), ordered right (no_lists_beside left right kinds))

either_fault : (same : Bool) (kind : Option VortexError) (left right : ℕ) → same ≡ true → option_or kind (if same then None else Some (ColumnLength left right)) ≡ kind
either_fault true (Some error) left right as_many = refl
either_fault true None left right as_many = refl
either_fault false kind left right as_many = cc

-- columns of as many rows have only the fault of their types
pub type_fault : (left right : DType) (left_count right_count : ℕ) → left_count ≡ right_count → compare_column_fault left right left_count right_count ≡ compare_scalar_fault left right
type_fault left right left_count right_count as_many =
    either_fault (left_count == right_count) (compare_scalar_fault left right) left_count right_count ((Decides-eqb left_count right_count).1 as_many)

-- columns written row by row have the fault of the columns
pub flat_fault : (left right : Leaf) (left_type right_type : DType) (lefts rights : List (Option Value)) → leaf_dtype left ≡ left_type → leaf_dtype right ≡ right_type
    → single_rows left ≡ lefts → single_rows right ≡ rights → compare_column_fault left_type right_type (length lefts) (length rights) ≡ None
    → compare_column_fault (leaf_dtype left) (leaf_dtype right) (length (leaf_rows left)) (length (leaf_rows right)) ≡ None
flat_fault left right left_type right_type lefts rights same_left same_right left_rows right_rows none =
    let left_count : length (leaf_rows left) ≡ length lefts = sym (length-single_rows left) ∙ ap length left_rows in
    let right_count : length (leaf_rows right) ≡ length rights = sym (length-single_rows right) ∙ ap length right_rows in
    ap (λ (t : DType). compare_column_fault t (leaf_dtype right) (length (leaf_rows left)) (length (leaf_rows right))) same_left
    ∙ ap (λ (t : DType). compare_column_fault left_type t (length (leaf_rows left)) (length (leaf_rows right))) same_right
    ∙ ap (λ (n : ℕ). compare_column_fault left_type right_type n (length (leaf_rows right))) left_count
    ∙ ap (λ (n : ℕ). compare_column_fault left_type right_type (length lefts) n) right_count ∙ none

-- a run column and a constant of as many rows, made of a copy of a scalar
module _ (r : Runs) (constant : Constant) (copy value : ScalarForm) (count : ℕ) (made : constant ≡ record { dtype = copy.dtype; value = copy.value; count = count })
    (same : copy ≡ value) (counted : count ≡ r.count) where
  as_many : length (column_rows (column_of_runs r)) ≡ constant.count
  as_many = length-run_rows r.ends (column_rows r.values) r.offset r.count ∙ sym counted ∙ sym (ap (λ (c : Constant). c.count) made)

  -- has the fault of the scalar
  pub constant_fault : compare_column_fault (column_dtype r.values) constant.dtype (length (column_rows (column_of_runs r))) (length (column_rows (OfConstant constant))) ≡ compare_scalar_fault (column_dtype r.values) value.dtype
  constant_fault =
      let dtypes : constant.dtype ≡ value.dtype = ap (λ (c : Constant). c.dtype) made ∙ ap (λ (s : ScalarForm). s.dtype) same in
      let long : length (column_rows (OfConstant constant)) ≡ constant.count = length-replicate constant.count (option_map (λ (v : FlatValue). Single v) constant.value) in
      ap (λ (t : DType). compare_column_fault (column_dtype r.values) t (length (column_rows (column_of_runs r))) (length (column_rows (OfConstant constant)))) dtypes
      ∙ type_fault (column_dtype r.values) value.dtype (length (column_rows (column_of_runs r))) (length (column_rows (OfConstant constant))) (as_many ∙ sym long)

  -- and compares as with the scalar
  pub constant_compared : (operator : CompareOperator) → compare_rows operator (column_rows (column_of_runs r)) (column_rows (OfConstant constant))
      ≡ compare_with operator (column_rows (column_of_runs r)) (option_map (λ (v : FlatValue). Single v) value.value)
  constant_compared operator =
      let values : constant.value ≡ value.value = ap (λ (c : Constant). c.value) made ∙ ap (λ (s : ScalarForm). s.value) same in
      sym (constant_rows operator (column_rows (column_of_runs r)) constant as_many)
      ∙ ap (λ (v : Option FlatValue). compare_with operator (column_rows (column_of_runs r)) (option_map (λ (w : FlatValue). Single w) v)) values
