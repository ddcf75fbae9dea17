-- Whether rows are the same, by the answers of a test of two rows.
use Rattle.std.proofs.Common.{◌≡◌, ℕ, zero, suc, ◌+◌, ◌<◌, List, [], ◌∷◌, true, Option, Some, None, length, refl, sym, ◌∙◌, ap, subst, arith}
use Rattle.std.specs.Prelude.{option_map, slice_get}
use Rattle.std.specs.Ordering.{is_eq}
use Rattle.std.specs.declared.cmp.Ordering.{Ordering}
use Rattle.std.specs.declared.cmp.Ordering.TheVariants.{Less, Equal, Greater}
use Rattle.std.proofs.lemmas.Cmp.{tied_itself}
use Rattle.std.proofs.lemmas.Option.{slice_get-map}
use Rattle.column_core.specs.Leaf.{Leaf, leaf_rows, single_rows}
use Rattle.column_core.specs.Value.{FlatValue, Single, Truth, Value}
use Rattle.column_ops.specs.Order.{row_cmp}
use Rattle.column_ops.proofs.OrderLaws.{row_equal, row_total}
use Rattle.column_ops.proofs.RowRanges.{length-single_rows}
use Rattle.runend_windows.specs.Ends.{ends_of}
use Rattle.runend_windows.specs.Window.{run_at}
use Rattle.runend_windows.proofs.Lists.{equal_by_slice_get}
use Rattle.runend_windows.proofs.RunRows.{length-run_rows, slice_get-run_rows_of_window}
use Rattle.column_core.specs.PrimitiveForm.{PrimitiveForm}
use Rattle.runend_pairs.specs.Operations.{same_test}
use Rattle.runend_pairs.specs.Runs.{rows_in, AreColumnRuns}
use Rattle.runend_pairs.specs.Zipped.{zip_rows, AllHave, IsFirstWithout}
use Rattle.runend_pairs.proofs.Placed.{zip_rows-at}

-- an ordering that is equality
is_Equal : (o : Ordering) → is_eq o ≡ true → o ≡ Equal
is_Equal Less h = cc
is_Equal Equal h = refl
is_Equal Greater h = cc

-- a row is null or a flat value
abbrev pub IsSingleRow : Option Value → Type 0
IsSingleRow row = (v : Option FlatValue) × (option_map (λ (w : FlatValue). Single w) v ≡ row)

shown_single : (o : Option (Option FlatValue)) (row : Option Value) → option_map (option_map (λ (v : FlatValue). Single v)) o ≡ Some row → IsSingleRow row
shown_single None row h = cc
shown_single (Some v) row h = (v, cc)

-- and so is each that runs over a flat column show
pub single_row : (ends : PrimitiveForm) (offset : ℕ) (values : Leaf) (count k : ℕ) (row : Option Value) → AreColumnRuns ends offset values count → k < count → slice_get (rows_in ends offset values count) k ≡ Some row → IsSingleRow row
single_row ends offset values count k row runs within at =
    let run = run_at (ends_of ends) (offset + k) in
    let f : Option FlatValue → Option Value = option_map (λ (v : FlatValue). Single v) in
    let paired = length-single_rows values ∙ runs.paired in
    let read = slice_get-run_rows_of_window (ends_of ends) (single_rows values) offset count k runs.window paired within in
    shown_single (slice_get (leaf_rows values) run) row (sym (slice_get-map f (leaf_rows values) run) ∙ sym read ∙ at)

-- two such rows that the test finds the same are one
pub one_row : (a b : Option Value) → IsSingleRow a → IsSingleRow b → same_test a b ≡ Some (Single (Truth true)) → a ≡ b
one_row a b left right same =
    let f : Option FlatValue → Option Value = option_map (λ (v : FlatValue). Single v) in
    let held : is_eq (row_cmp a b) ≡ true = cc in
    let tied : row_cmp (f left.0) (f right.0) ≡ Equal = rw (left.1, right.1) (is_Equal (row_cmp a b) held) in
    sym left.1 ∙ ap f (row_equal left.0 right.0 tied) ∙ right.1

-- a row and itself are found the same
same_itself : (a : Option Value) → same_test a a ≡ Some (Single (Truth true))
same_itself a = ap (λ (o : Ordering). Some (Single (Truth (is_eq o)))) (tied_itself row_total a)

-- each row of a list is there
row_there : {X : Type 0} (xs : List X) (k : ℕ) → k < length xs → (x : X) × (slice_get xs k ≡ Some x)
row_there [] k within = absurd (omega arith)
row_there (x ∷ xs) zero within = (x, refl)
row_there (x ∷ xs) (suc k) within = row_there xs k (omega arith)

-- the answer for a row and itself
answer_itself : (xs : List (Option Value)) (k : ℕ) (answer : Option Value) → slice_get (zip_rows same_test xs xs) k ≡ Some answer → answer ≡ Some (Single (Truth true))
answer_itself [] k answer at = cc
answer_itself (x ∷ xs) zero answer at = let same = same_itself x in cc
answer_itself (x ∷ xs) (suc k) answer at = answer_itself xs k answer at

-- rows of two columns whose answers are all true are the same
pub all_same : (ends : PrimitiveForm) (offset : ℕ) (values : Leaf) (other_ends : PrimitiveForm) (other_offset : ℕ) (other_values : Leaf) (count : ℕ) → AreColumnRuns ends offset values count → AreColumnRuns other_ends other_offset other_values count
    → AllHave (λ answer. answer ≡ Some (Single (Truth true))) (zip_rows same_test (rows_in ends offset values count) (rows_in other_ends other_offset other_values count))
    → rows_in ends offset values count ≡ rows_in other_ends other_offset other_values count
all_same ends offset values other_ends other_offset other_values count runs other_runs all =
    let lefts = rows_in ends offset values count in
    let rights = rows_in other_ends other_offset other_values count in
    let left_long : length lefts ≡ count = length-run_rows (ends_of ends) (single_rows values) offset count in
    let right_long : length rights ≡ count = length-run_rows (ends_of other_ends) (single_rows other_values) other_offset count in
    equal_by_slice_get lefts rights (left_long ∙ sym right_long)
    (λ k within.
    let left = row_there lefts k within in
    let right = row_there rights k (omega (arith, within, left_long, right_long)) in
    let inside : k < count = omega (arith, within, left_long) in
    let held = all k (same_test left.0 right.0) (zip_rows-at same_test lefts rights k left.0 right.0 left.1 right.1) in
    let same = one_row left.0 right.0 (single_row ends offset values count k left.0 runs inside left.1) (single_row other_ends other_offset other_values count k right.0 other_runs inside right.1) held in
    left.1 ∙ ap Some same ∙ sym right.1)

-- rows with another answer differ
pub some_differ : (lefts rights : List (Option Value)) (row : ℕ) → IsFirstWithout (λ answer. answer ≡ Some (Single (Truth true))) (zip_rows same_test lefts rights) row → lefts ≡ rights → ⊥
some_differ lefts rights row without same =
    let here : slice_get (zip_rows same_test lefts lefts) row ≡ Some without.answer = subst (λ (xs : List (Option Value)). slice_get (zip_rows same_test lefts xs) row ≡ Some without.answer) (sym same) without.here in
    without.lacks (answer_itself lefts row without.answer here)
