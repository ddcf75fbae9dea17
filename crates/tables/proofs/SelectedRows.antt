-- Tables of the rows at indices, and of those at which a comparison holds.
use Rattle.std.proofs.Common.{◌≡◌, ◌∙◌, ◌^◌, ◌<◌, ℕ, List, [], ◌∷◌, Bool, Option, None, Some, ap, inl, inr, length, map, refl, replicate, subst, sym}
use Rattle.std.specs.Prelude.{ℤ, Err, IfErr, IsErrAnd, IsOkUnless, Ok, Result, if◌then◌else◌, option_map}
use Rattle.std.specs.Option.{option_or}
use Rattle.std.proofs.lemmas.Bool.Decides.{Decides-eqb}
use Rattle.std.proofs.lemmas.List.{length-map, length-replicate}
use Rattle.column_base.specs.declared.dtype.DType.{DType}
use Rattle.column_base.specs.declared.error.VortexError.{VortexError}
use Rattle.column_base.specs.declared.error.VortexError.TheVariants.{ColumnLength, OutOfMemory}
use Rattle.column_core.specs.Refusal.{IsRefusedBy}
use Rattle.column_core.specs.ScalarForm.{ScalarForm}
use Rattle.column_core.specs.Value.{Bytes, DecimalNumber, FlatValue, Items, Number, Single, Text, Truth, Value}
use Rattle.column_ops.specs.CompareFault.{compare_column_fault, compare_scalar_fault, length_fault}
use Rattle.column_ops.specs.Comparing.{answer_bit, answer_bits, compare_with, compared}
use Rattle.column_ops.specs.Filter.{filter_fault}
use Rattle.column_ops.specs.Nullable.{take_dtype}
use Rattle.column_ops.specs.Take.{take_rows, taken_row}
use Rattle.column_ops.specs.declared.operator.CompareOperator.{CompareOperator}
use Rattle.runend_array.specs.Column.{Constant, OfConstant, column_dtype, column_rows}
use Rattle.runend_column.proofs.FilterFaults.{no_fault}
use Rattle.runend_pairs.specs.Zipped.{zip_rows}
use Rattle.row_stretches.specs.Masks.{is_true, truths_of}
use Rattle.typed_columns.specs.declared.typed_column.TypedColumn.{TypedColumn}
use Rattle.tables.specs.declared.fault.TableError.{TableError}
use Rattle.tables.specs.declared.fault.TableError.TheVariants.{Refused}
use Rattle.tables.specs.Selected.{IsFilterByError, IsTaken}
use Rattle.tables.specs.Tables.{IsNamed, IsTable, TableForm, table_with}
use Rattle.typed_columns.specs.Typed.{TypedForm, typed_of}
use Rattle.tables.proofs.Worked.{IsWorked, IsWorkedTable, worked_as}

-- the table of the rows at indices
pub taken_table : {A : Type 0} (indices : List (Option ℤ)) (dtype : DType) (names copies : List (List ℕ)) (columns lent kept : List (TypedColumn A)) (n m : ℕ) (own : TableForm) → copies ≡ names → lent ≡ columns
    → table_with names (map typed_of columns) n ≡ own → m < 2 ^ 64 → m ≡ length indices → IsTable (table_with names (map typed_of columns) n) → IsWorked (λ t. take_dtype t dtype) (λ all. take_rows all indices) lent kept
    → IsWorkedTable (λ t. take_dtype t dtype) (λ all. take_rows all indices) own (table_with copies (map typed_of kept) m)
taken_table indices dtype names copies columns lent kept n m own copied is_lent seen small counted table worked =
    worked_as (λ t. take_dtype t dtype) (λ all. take_rows all indices) names copies columns lent kept n m own copied is_lent seen small (λ all long. length-map indices (taken_row all) ∙ sym counted) table worked

pub taken_of : (indices : List (Option ℤ)) (dtype : DType) (own after : TableForm) → after.count ≡ length indices → IsWorkedTable (λ t. take_dtype t dtype) (λ all. take_rows all indices) own after → IsTaken own indices dtype after
taken_of indices dtype own after counted made = record { rows = made.shown; count = counted; dtypes = made.dtypes; names = made.names; formats = made.formats }

-- an answer selects its row exactly where its bit is stored
same_bit : (row : Option Value) → is_true row ≡ answer_bit row
same_bit None = refl
same_bit (Some (Single (Truth truth))) = refl
same_bit (Some (Single (Number n))) = refl
same_bit (Some (Single (DecimalNumber n))) = refl
same_bit (Some (Single (Text bytes))) = refl
same_bit (Some (Single (Bytes bytes))) = refl
same_bit (Some (Items items)) = refl

pub same_bits : (rows : List (Option Value)) → truths_of rows ≡ answer_bits rows
same_bits [] = refl
same_bits (row ∷ rows) = let here = same_bit row in let rest = same_bits rows in (λ i. here i ∷ rest i)

-- a comparison has an answer for each row
pub compared_count : (operator : CompareOperator) (all : List (Option Value)) (value : Option Value) → length (compare_with operator all value) ≡ length all
compared_count operator all value = length-map all (λ (row : Option Value). compared operator row value)

-- so it is a mask of as many rows
pub mask_fits : (truths : List (Option Value)) (operator : CompareOperator) (all : List (Option Value)) (value : Option Value) (count : ℕ) → truths ≡ compare_with operator all value → length all ≡ count
    → filter_fault (length truths) count ≡ None
mask_fits truths operator all value count same even = no_fault (length truths) count (ap length same ∙ compared_count operator all value ∙ even)

-- where the column of the name is compared with such values, only memory is refused
pub refused_for_memory : {T : Type 0} (t : TableForm) (name : List ℕ) (dtype : DType) (column : TypedForm) (error : VortexError) (result : Result T TableError) → IsErrAnd result (λ passed. passed ≡ Refused error)
    → IsNamed t name column → compare_scalar_fault (column_dtype column.column) dtype ≡ None → error ≡ OutOfMemory → IfErr result (IsFilterByError t name dtype)
refused_for_memory t name dtype column error (Ok value) passed named none is = tt
refused_for_memory t name dtype column error (Err other) passed named none is =
    subst (λ (e : TableError). IsFilterByError t name dtype e) (sym passed) (column, named, ap (λ (f : Option VortexError). option_or f (Some OutOfMemory)) none ∙ ap Some (sym is))

-- what a comparison of the column of the name is refused for, the filter is refused for
pub refused_as_compared : {T : Type 0} (t : TableForm) (name : List ℕ) (dtype : DType) (column : TypedForm) (error : VortexError) (result : Result T TableError) → IsErrAnd result (λ passed. passed ≡ Refused error)
    → IsNamed t name column → option_or (compare_scalar_fault (column_dtype column.column) dtype) (Some OutOfMemory) ≡ Some error → IfErr result (IsFilterByError t name dtype)
refused_as_compared t name dtype column error (Ok value) passed named is = tt
refused_as_compared t name dtype column error (Err other) passed named is = subst (λ (e : TableError). IsFilterByError t name dtype e) (sym passed) (column, named, is)

-- a first error without a fault
pub short_of_first : (fault : Option VortexError) (error : VortexError) → fault ≡ None → option_or fault (Some OutOfMemory) ≡ Some error → error ≡ OutOfMemory
short_of_first fault error none first = let is : ◌≡◌ {A = Option VortexError} (Some OutOfMemory) (Some error) = sym (ap (λ (f : Option VortexError). option_or f (Some OutOfMemory)) none) ∙ first in cc

-- ---- a column next to a constant of as many rows, made of a copy of a scalar

zip_with_copies : (f : Option Value → Option Value → Option Value) (all : List (Option Value)) (value : Option Value) → zip_rows f all (replicate (length all) value) ≡ map (λ row. f row value) all
zip_with_copies f [] value = refl
zip_with_copies f (row ∷ all) value = ap (λ (l : List (Option Value)). f row value ∷ l) (zip_with_copies f all value)

pub same_counts : (n : ℕ) → length_fault n n ≡ None
same_counts n = ap (λ (b : Bool). if b then None else Some (ColumnLength n n)) ((Decides-eqb n n).1 refl)

module _ (all : List (Option Value)) (constant : Constant) (copy value : ScalarForm) (count : ℕ) (made : constant ≡ record { dtype = copy.dtype; value = copy.value; count = count }) (same : copy ≡ value) (counted : count ≡ length all) where
  as_many : constant.count ≡ length all
  as_many = ap (λ (c : Constant). c.count) made ∙ counted

  pub constant_dtype : constant.dtype ≡ value.dtype
  constant_dtype = ap (λ (c : Constant). c.dtype) made ∙ ap (λ (s : ScalarForm). s.dtype) same

  -- has no fault where the value is of the column's kind
  pub constant_fault : (dtype : DType) → compare_scalar_fault dtype value.dtype ≡ None → compare_column_fault dtype constant.dtype (length all) (length (column_rows (OfConstant constant))) ≡ None
  constant_fault dtype none =
      let long : length (column_rows (OfConstant constant)) ≡ length all = length-replicate constant.count (option_map (λ (v : FlatValue). Single v) constant.value) ∙ as_many in
      ap (λ (t : DType). compare_column_fault dtype t (length all) (length (column_rows (OfConstant constant)))) constant_dtype
      ∙ ap (λ (n : ℕ). compare_column_fault dtype value.dtype (length all) n) long ∙ ap (λ (f : Option VortexError). option_or f (length_fault (length all) (length all))) none ∙ same_counts (length all)

  -- and compares as with the scalar
  pub constant_compared : (operator : CompareOperator) → zip_rows (compared operator) all (column_rows (OfConstant constant)) ≡ compare_with operator all (option_map (λ (v : FlatValue). Single v) value.value)
  constant_compared operator =
      let values : constant.value ≡ value.value = ap (λ (c : Constant). c.value) made ∙ ap (λ (s : ScalarForm). s.value) same in
      ap (λ (n : ℕ). zip_rows (compared operator) all (replicate n (option_map (λ (v : FlatValue). Single v) constant.value))) as_many
      ∙ zip_with_copies (compared operator) all (option_map (λ (v : FlatValue). Single v) constant.value)
      ∙ ap (λ (v : Option FlatValue). compare_with operator all (option_map (λ (w : FlatValue). Single w) v)) values

-- what is refused by no fault is refused only for memory
pub only_short : {T : Type 0} (fault : Option VortexError) (result : Result T VortexError) → fault ≡ None → IsRefusedBy fault result → IsOkUnless result OutOfMemory
only_short fault (Ok value) none refused = tt
only_short fault (Err error) none refused = elim refused [ inl short ↦ short | inr has ↦ let never : ◌≡◌ {A = Option VortexError} None (Some error) = sym none ∙ has in absurd (cc) ]
