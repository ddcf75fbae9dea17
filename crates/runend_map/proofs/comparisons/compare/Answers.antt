use Rattle.std.proofs.Common.{◌≡◌, ◌∙◌, length, refl, sym, ap, inr, subst}
use Rattle.std.specs.Arc.{arc_value}
use Rattle.std.specs.Prelude.{option_map}
use Rattle.std.proofs.lemmas.List.{length-replicate}
use Rattle.column_core.specs.ScalarForm.{ScalarForm}
use Rattle.column_core.specs.Value.{FlatValue, Single}
use Rattle.column_ops.specs.Comparing.{compare_rows, compare_with, compare_dtype}
use Rattle.runend_array.specs.declared.array_ref.ArrayRef.{ArrayRef}
use Rattle.runend_array.specs.declared.array_ref.ArrayRef.TheVariants.{Constant, RunEnd}
use Rattle.runend_windows.proofs.RunRows.{length-run_rows}
use Rattle.runend_array.specs.Array.{dtype_of, rows, column_of}
use Rattle.runend_array.specs.Column.{OfConstant, Runs, column_dtype, column_of_runs, column_rows, Column}
use Rattle.runend_array.specs.Encoding.{IsComputedFlat}
use Rattle.runend_map.proofs.ComparedRows.{constant_rows, runs_fault}
use Rattle.runend_map.proofs.KeptRows.{if_ok}
use Rattle.runend_map.proofs.OneKind.{no_column_fault, no_fault}
use Rattle.runend_map.specs.ComparisonForm.{IsComparisonForm}
use Rattle.runend_map.proofs.comparisons.compare.Goals as goal

-- with a column that is not a constant the answers are flat
beside_form : {A : Type 0} (right : ArrayRef A) (truths : Column) → ((constant : _) → ¬ (right ≡ Constant constant)) → IsComputedFlat truths → IsComparisonForm (column_of right) truths
beside_form (Constant constant) truths other flat = absurd (other constant refl)
beside_form right truths other flat = flat

pub returns-in_default-right-clause-form : goal.returns-in_default-right-clause-form
returns-in_default-right-clause-form g c =
    if_ok c.compare_beside.result (λ truths flat. beside_form c.args.right.now (column_of truths) c.in_default-right.not-Constant flat) c.compare_beside.ensures.form

pub returns-in-Some-clause-refused : goal.returns-in-Some-clause-refused
returns-in-Some-clause-refused g c = rw length-run_rows (inr (sym c.fault_beside.ensures ∙ c.in-Some.is))

pub returns-in-Constant-clause-refused : goal.returns-in-Constant-clause-refused
returns-in-Constant-clause-refused g c =
    rw length-run_rows (no_fault _ c.compare_to_scalar.result (sym c.fault_beside.ensures ∙ c.in_default.is) c.compare_to_scalar.ensures.only)

pub returns-in-Constant-clause-rows : goal.returns-in-Constant-clause-rows
returns-in-Constant-clause-rows g c =
    let r = c.args.array.now in
    let left = column_rows (column_of_runs r) in
    let constant = c.in-Constant.constant in
    let right : rows c.args.right.now ≡ column_rows (OfConstant constant) = ap (λ (array : ArrayRef _). rows array) c.in-Constant.is in
    let as_many = (no_column_fault (column_dtype r.values) (dtype_of c.args.right.now) r.count (length (rows c.args.right.now)) (sym c.fault_beside.ensures ∙ c.in_default.is)).1 in
    let counted : length left ≡ constant.count =
    length-run_rows r.ends (column_rows r.values) r.offset r.count ∙ as_many ∙ ap length right ∙ length-replicate constant.count (option_map (λ (v : FlatValue). Single v) constant.value) in
    if_ok c.compare_to_scalar.result (λ truths same.
    same ∙ ap (λ (s : ScalarForm). compare_with c.args.operator left (option_map (λ (v : FlatValue). Single v) s.value)) c.scalar.ensures
    ∙ constant_rows c.args.operator left constant counted ∙ ap (compare_rows c.args.operator left) (sym right)) c.compare_to_scalar.ensures.rows

pub returns-in_default-right-clause-refused : goal.returns-in_default-right-clause-refused
returns-in_default-right-clause-refused g c =
    rw length-run_rows (no_fault _ c.compare_beside.result (sym c.fault_beside.ensures ∙ c.in_default.is) c.compare_beside.ensures.only)

pub returns-in-Some-clause-rows : goal.returns-in-Some-clause-rows
returns-in-Some-clause-rows g c = tt

pub returns-in-Some-clause-dtype : goal.returns-in-Some-clause-dtype
returns-in-Some-clause-dtype g c = tt

pub returns-in-Some-clause-form : goal.returns-in-Some-clause-form
returns-in-Some-clause-form g c = tt

pub returns-in-Constant-clause-dtype : goal.returns-in-Constant-clause-dtype
returns-in-Constant-clause-dtype g c =
    let left = column_dtype c.args.array.now.values in
    let typed = ap (λ (array : ArrayRef _). dtype_of array) c.in-Constant.is in
    if_ok c.compare_to_scalar.result (λ truths same. same ∙ ap (λ (s : ScalarForm). compare_dtype left s.dtype) c.scalar.ensures ∙ ap (compare_dtype left) (sym typed)) c.compare_to_scalar.ensures.dtype

pub returns-in-Constant-clause-form : goal.returns-in-Constant-clause-form
returns-in-Constant-clause-form g c =
    let constant = ap (λ (array : ArrayRef _). column_of array) c.in-Constant.is in
    if_ok c.compare_to_scalar.result (λ truths form. subst (λ (x : Column). IsComparisonForm x (column_of truths)) (sym constant) form) c.compare_to_scalar.ensures.form

pub returns-in_default-right-clause-rows : goal.returns-in_default-right-clause-rows
returns-in_default-right-clause-rows g c = c.compare_beside.ensures.rows

pub returns-in_default-right-clause-dtype : goal.returns-in_default-right-clause-dtype
returns-in_default-right-clause-dtype g c = c.compare_beside.ensures.dtype

-- with runs
right_runs : {A : Type 0} (right : ArrayRef A) (r : Runs) (runs : _) → right ≡ RunEnd runs → r ≡ arc_value runs → column_of right ≡ column_of_runs r
right_runs right r runs is same = ap (λ (array : ArrayRef _). column_of array) is ∙ ap column_of_runs (sym same)

pub compare_runs-requires : goal.compare_runs-requires
compare_runs-requires g c =
    let r = c.args.array.now in
    let right = right_runs c.args.right.now c.deref.result.now c.in-RunEnd.runs c.in-RunEnd.is c.deref.ensures in
    record { kind = runs_fault (column_dtype r.values) r.count (column_of c.args.right.now) c.deref.result.now right (sym c.fault_beside.ensures ∙ c.in_default.is) }

pub returns-in-RunEnd-clause-refused : goal.returns-in-RunEnd-clause-refused
returns-in-RunEnd-clause-refused g c =
    rw length-run_rows (no_fault _ c.compare_runs.result (sym c.fault_beside.ensures ∙ c.in_default.is) c.compare_runs.ensures.only)

pub returns-in-RunEnd-clause-rows : goal.returns-in-RunEnd-clause-rows
returns-in-RunEnd-clause-rows g c =
    let left = column_rows (column_of_runs c.args.array.now) in
    let right = right_runs c.args.right.now c.deref.result.now c.in-RunEnd.runs c.in-RunEnd.is c.deref.ensures in
    if_ok c.compare_runs.result (λ truths same. same ∙ ap (λ (x : Column). compare_rows c.args.operator left (column_rows x)) (sym right)) c.compare_runs.ensures.rows

pub returns-in-RunEnd-clause-dtype : goal.returns-in-RunEnd-clause-dtype
returns-in-RunEnd-clause-dtype g c =
    let left = column_dtype c.args.array.now.values in
    let right = right_runs c.args.right.now c.deref.result.now c.in-RunEnd.runs c.in-RunEnd.is c.deref.ensures in
    if_ok c.compare_runs.result (λ truths same. same ∙ ap (λ (x : Column). compare_dtype left (column_dtype x)) (sym right)) c.compare_runs.ensures.dtype

pub returns-in-RunEnd-clause-form : goal.returns-in-RunEnd-clause-form
returns-in-RunEnd-clause-form g c =
    let right = right_runs c.args.right.now c.deref.result.now c.in-RunEnd.runs c.in-RunEnd.is c.deref.ensures in
    if_ok c.compare_runs.result (λ truths form. subst (λ (x : Column). IsComparisonForm x (column_of truths)) (sym right) form) c.compare_runs.ensures.form
