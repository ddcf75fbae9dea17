-- Rows of a run column compared, from its visible values compared.
use Rattle.std.proofs.Common.{◌≡◌, ◌↔◌, ℕ, ◌<◌, zero, suc, List, [], ◌∷◌, Option, Some, None, length, map, replicate, refl, sym, ap, subst, ◌∙◌, arith}
use Rattle.std.specs.Prelude.{Result, Ok, Err, All, IsOkUnless, option_map}
use Rattle.std.proofs.lemmas.List.{length-map, length-replicate}
use Rattle.std.proofs.lemmas.List.Elements.{All-nil, All-cons, All-head, All-tail, All-map, All-replicate}
use Rattle.column_base.specs.declared.dtype.DType.{DType}
use Rattle.column_base.specs.declared.error.VortexError.{VortexError}
use Rattle.column_base.specs.declared.error.VortexError.TheVariants.{OutOfMemory}
use Rattle.column_core.specs.BoolForm.{BoolForm}
use Rattle.column_core.specs.Computed.{IsComputedLeaf}
use Rattle.column_core.specs.Refusal.{IsRefusedBy}
use Rattle.column_core.specs.Leaf.{Leaf, OfTruths, leaf_dtype, leaf_rows, single_rows}
use Rattle.column_core.specs.Value.{FlatValue, Single, Value}
use Rattle.column_ops.specs.CompareFault.{compare_column_fault}
use Rattle.column_ops.proofs.RowRanges.{length-single_rows}
use Rattle.column_ops.specs.Comparing.{IsStoredComparison, compare_rows, compare_with, compared}
use Rattle.column_ops.specs.declared.operator.CompareOperator.{CompareOperator}
use Rattle.column_ops.proofs.WrittenTruths.{compare_rows-copies}
use Rattle.runend_windows.specs.Encoding.{HasNullsAlone}
use Rattle.runend_windows.specs.Visible.{visible}
use Rattle.runend_windows.specs.Window.{run_rows, IsWindow}
use Rattle.runend_windows.proofs.RunRows.{length-run_rows}
use Rattle.runend_windows.proofs.VisibleRuns.{first_le_last_visible, length-visible}
use Rattle.runend_windows.proofs.VisibleLaws.{all_rows}
use Rattle.runend_array.specs.Column.{AreRuns, Column, Constant, OfConstant, OfLeaf, OfLists, OfRuns, Runs, column_dtype, column_of_runs, column_rows}
use Rattle.runend_array.specs.Encoding.{IsDecodedForm}
use Rattle.runend_column.specs.VisibleForm.{visible_ends, visible_values, window_start}
use Rattle.runend_column.proofs.VisibleWindow.{visible_rows}
use Rattle.runend_map.proofs.OneKind.{only_memory}

-- null compared is null
with_null : (operator : CompareOperator) (row : Option Value) → compared operator row None ≡ None
with_null operator None = refl
with_null operator (Some value) = refl

nulls_compared : (operator : CompareOperator) (rows : List (Option Value)) → compare_with operator rows None ≡ replicate (length rows) None
nulls_compared operator [] = refl
nulls_compared operator (row ∷ rows) = ap (λ (x : Option Value). x ∷ compare_with operator rows None) (with_null operator row) ∙ ap (λ (xs : List (Option Value)). None ∷ xs) (nulls_compared operator rows)

-- rows compared with null are null
pub null_rows : (operator : CompareOperator) (r : Runs) (value : Option FlatValue) → value ≡ None
    → replicate r.count None ≡ compare_with operator (column_rows (column_of_runs r)) (option_map (λ (v : FlatValue). Single v) value)
null_rows operator r value null =
    let long = length-run_rows r.ends (column_rows r.values) r.offset r.count in
    ap (λ (n : ℕ). replicate n None) (sym long) ∙ sym (nulls_compared operator (column_rows (column_of_runs r)))
    ∙ ap (λ (v : Option FlatValue). compare_with operator (column_rows (column_of_runs r)) (option_map (λ (v : FlatValue). Single v) v)) (sym null)

-- copies of null
pub nulls_alone-copies : (count : ℕ) (nulls : List (Option Value)) → nulls ≡ replicate count None → 0 < count → HasNullsAlone nulls
nulls_alone-copies count nulls same some =
    subst HasNullsAlone (sym same) (let none : Option Value = None in let long = length-replicate count none in omega arith, All-replicate (λ (v : Option Value). v ≡ None) count None refl)

-- rows compared with a constant are compared with its value
pub constant_rows : (operator : CompareOperator) (rows : List (Option Value)) (constant : Constant) → length rows ≡ constant.count
    → compare_with operator rows (option_map (λ (v : FlatValue). Single v) constant.value) ≡ compare_rows operator rows (replicate constant.count (option_map (λ (v : FlatValue). Single v) constant.value))
constant_rows operator rows constant counted =
    sym (ap (λ (n : ℕ). compare_rows operator rows (replicate n (option_map (λ (v : FlatValue). Single v) constant.value))) (sym counted)
    ∙ compare_rows-copies operator rows (option_map (λ (v : FlatValue). Single v) constant.value))

-- what holds of each item that is made holds of what it is made of
All-made : {X Y : Type 0} (P : Y → Type 0) (f : X → Y) (xs : List X) → All P (map f xs) → All (λ x. P (f x)) xs
All-made P f [] all = All-nil (λ x. P (f x))
All-made P f (x ∷ xs) all = All-cons (λ x. P (f x)) x xs (All-head P (f x) (map f xs) all) (All-made P f xs (All-tail P (f x) (map f xs) all))

-- there is a visible run exactly where there is a row
some_visible : (ends : List ℕ) (values : List (Option Value)) (offset count : ℕ) → IsWindow ends offset count → length values ≡ length ends
    → (0 < length (visible ends offset count values)) ↔ (0 < count)
some_visible ends values offset zero window paired = (λ h. h, λ h. h)
some_visible ends values offset (suc n) window paired =
    let counted = length-visible ends offset (suc n) window (omega arith) values paired in
    let order = first_le_last_visible ends offset (suc n) window (omega arith) in
    (λ h. omega arith, λ h. omega arith)

-- what is made of visible values is all null exactly where what is made of rows is
pub nulls_alone : (f : Option Value → Option Value) (r : Runs) → AreRuns r → HasNullsAlone (map f (visible_values r)) ↔ HasNullsAlone (map f (column_rows (column_of_runs r)))
nulls_alone f r runs =
    let IsNull : Option Value → Type 0 = λ v. v ≡ None in
    let IsMadeNull : Option Value → Type 0 = λ v. f v ≡ None in
    let values = column_rows r.values in
    let rows = column_rows (column_of_runs r) in
    let law = all_rows r.ends values r.offset r.count runs.window runs.paired IsMadeNull in
    let some = some_visible r.ends values r.offset r.count runs.window runs.paired in
    let shown_long = length-map (visible_values r) f in
    let rows_long = length-map rows f in
    let long = length-run_rows r.ends values r.offset r.count in (
      (λ h. let filled = h.0 in let more = some.0 (omega arith) in (omega arith, All-map IsNull f rows (law.1 (All-made IsNull f (visible_values r) h.1)))),
      (λ h. let filled = h.0 in let more = some.1 (omega arith) in (omega arith, All-map IsNull f (visible_values r) (law.0 (All-made IsNull f rows h.1)))),
    )

-- the form of what was decoded
decoded_form : (xs ys : List (Option Value)) (c : Column) → HasNullsAlone xs ↔ HasNullsAlone ys → IsDecodedForm xs c → IsDecodedForm ys c
decoded_form xs ys (OfLeaf leaf) same form = (λ nulls. form.0 (same.1 nulls), form.1)
decoded_form xs ys (OfConstant constant) same form = (same.0 form.0, form.1)
decoded_form xs ys (OfLists lists) same form = form
decoded_form xs ys (OfRuns ends_type ends values offset count) same form = form

pub made_form : (f : Option Value → Option Value) (r : Runs) (made rows : List (Option Value)) (c : Column) → AreRuns r → made ≡ map f (visible_values r)
    → rows ≡ map f (column_rows (column_of_runs r)) → IsDecodedForm made c → IsDecodedForm rows c
made_form f r made rows c runs made_is rows_are form =
    subst (λ (xs : List (Option Value)). IsDecodedForm xs c) (sym rows_are)
    (decoded_form (map f (visible_values r)) (map f (column_rows (column_of_runs r))) c (nulls_alone f r runs) (subst (λ (xs : List (Option Value)). IsDecodedForm xs c) made_is form))

-- there are as many answers as values
pub compared_count : (operator : CompareOperator) (right : Option Value) (truths : List (Option FlatValue)) (values shown : List (Option Value))
    → map (option_map (λ (v : FlatValue). Single v)) truths ≡ compare_with operator values right → values ≡ shown → length truths ≡ length shown
compared_count operator right truths values shown made same =
    sym (length-map truths (option_map (λ (v : FlatValue). Single v))) ∙ ap length made ∙ length-map values (λ (row : Option Value). compared operator row right) ∙ ap length same

-- a column written row by row has the fault of the column
pub beside_fault : (left right : Leaf) (right_dtype : DType) (rights : List (Option Value)) → leaf_dtype right ≡ right_dtype → single_rows right ≡ rights
    → compare_column_fault (leaf_dtype left) right_dtype (length (leaf_rows left)) (length rights) ≡ None
    → compare_column_fault (leaf_dtype left) (leaf_dtype right) (length (leaf_rows left)) (length (leaf_rows right)) ≡ None
beside_fault left right right_dtype rights right_type right_rows none =
    let right_count : length (leaf_rows right) ≡ length rights = sym (length-single_rows right) ∙ ap length right_rows in
    ap (λ (t : DType). compare_column_fault (leaf_dtype left) t (length (leaf_rows left)) (length (leaf_rows right))) right_type
    ∙ ap (λ (n : ℕ). compare_column_fault (leaf_dtype left) right_dtype (length (leaf_rows left)) n) right_count ∙ none

-- nor have the shown rows one with a column with which the runs have none
pub shown_fault : (r : Runs) (left : Leaf) (right_dtype : DType) (count : ℕ) → leaf_dtype left ≡ column_dtype r.values → single_rows left ≡ column_rows (column_of_runs r)
    → compare_column_fault (column_dtype r.values) right_dtype r.count count ≡ None → compare_column_fault (leaf_dtype left) right_dtype (length (leaf_rows left)) count ≡ None
shown_fault r left right_dtype count left_type left_rows none =
    let left_count : length (leaf_rows left) ≡ r.count = sym (length-single_rows left) ∙ ap length left_rows ∙ length-run_rows r.ends (column_rows r.values) r.offset r.count in
    ap (λ (t : DType). compare_column_fault t right_dtype (length (leaf_rows left)) count) left_type ∙ ap (λ (n : ℕ). compare_column_fault (column_dtype r.values) right_dtype n count) left_count ∙ none

-- runs and runs have the fault of the two columns
pub runs_fault : (left : DType) (count : ℕ) (c : Column) (r : Runs) → c ≡ column_of_runs r → compare_column_fault left (column_dtype c) count (length (column_rows c)) ≡ None
    → compare_column_fault left (column_dtype r.values) count r.count ≡ None
runs_fault left count c r is none =
    ap (λ (n : ℕ). compare_column_fault left (column_dtype r.values) count n) (sym (length-run_rows r.ends (column_rows r.values) r.offset r.count))
    ∙ ap (λ (x : Column). compare_column_fault left (column_dtype x) count (length (column_rows x))) (sym is) ∙ none

-- what has no fault is refused only for memory
pub memory_alone : {T : Type 0} (fault : Option VortexError) (result : Result T VortexError) → fault ≡ None → IsRefusedBy fault result → IsOkUnless result OutOfMemory
memory_alone fault (Ok value) none refused = tt
memory_alone fault (Err error) none refused = only_memory fault error none refused

-- the rows that the visible runs show over their own values
pub own_rows : (r : Runs) (values rows : List (Option Value)) → AreRuns r → values ≡ visible_values r
    → rows ≡ run_rows (visible_ends r) values (window_start r.count r.offset) r.count → rows ≡ column_rows (column_of_runs r)
own_rows r values rows runs same rows_are =
    rows_are ∙ ap (λ (xs : List (Option Value)). run_rows (visible_ends r) xs (window_start r.count r.offset) r.count) same ∙ visible_rows r runs

-- what a comparison stores is as a call computes it
pub stored_computed : (truths : BoolForm) → IsStoredComparison truths → IsComputedLeaf (OfTruths truths)
stored_computed truths stored = record { blanked = stored.blank; normal = stored.normal; some = stored.some }
