-- Rows of the visible runs, and what is made of their values one by one.
use Rattle.std.proofs.Common.{◌≡◌, ℕ, ◌+◌, ◌<◌, List, Option, None, length, map, refl, sym, ap, ◌∙◌, arith}
use Rattle.std.specs.Prelude.{IfOk, Result, Ok, Err}
use Rattle.std.proofs.lemmas.List.{ext_get_or, length-map, get_or-map}
use Rattle.std.proofs.lemmas.List.FromFn.{get_or-map-range_with_len}
use Rattle.column_core.specs.Value.{Value}
use Rattle.runend_windows.specs.Window.{run_at, run_rows, IsWindow}
use Rattle.runend_windows.proofs.RunAt.{run_of_row_within}
use Rattle.runend_windows.proofs.RunRows.{length-run_rows}
use Rattle.runend_array.specs.Column.{AreRuns, Runs, column_of_runs, column_rows}
use Rattle.runend_column.specs.VisibleForm.{visible_ends, visible_values, window_start}
use Rattle.runend_column.proofs.VisibleWindow.{visible_paired, visible_rows, visible_window}

-- what is made of each value shows what is made of each row
pub run_rows-map : {B C : Type 0} (f : Option B → Option C) (ends : List ℕ) (values : List (Option B)) (offset count : ℕ) → IsWindow ends offset count → length values ≡ length ends
    → run_rows ends (map f values) offset count ≡ map f (run_rows ends values offset count)
run_rows-map f ends values offset count window paired =
    ext_get_or None _ _ (length-run_rows ends (map f values) offset count ∙ sym (length-map (run_rows ends values offset count) f ∙ length-run_rows ends values offset count)) (λ i h.
    let lt : i < count = rw length-run_rows at h in
    let inside = run_of_row_within ends offset count i window lt in
    let long = length-run_rows ends values offset count in
    get_or-map-range_with_len _ offset count i (offset + i) None lt refl
    ∙ get_or-map f values (run_at ends (offset + i)) None None (omega arith)
    ∙ ap f (sym (get_or-map-range_with_len _ offset count i (offset + i) None lt refl))
    ∙ sym (get_or-map f (run_rows ends values offset count) i None None (omega arith)))

pub mapped_rows : (f : Option Value → Option Value) (r : Runs) (values : List (Option Value)) → AreRuns r → values ≡ map f (visible_values r)
    → run_rows (visible_ends r) values (window_start r.count r.offset) r.count ≡ map f (column_rows (column_of_runs r))
mapped_rows f r values runs same =
    ap (λ (xs : List (Option Value)). run_rows (visible_ends r) xs (window_start r.count r.offset) r.count) same
    ∙ run_rows-map f (visible_ends r) (visible_values r) (window_start r.count r.offset) r.count (visible_window r runs) (visible_paired r runs)
    ∙ ap (map f) (visible_rows r runs)

-- what follows for a value that is answered
pub if_ok : {T E : Type 0} {P Q : T → Type 0} (result : Result T E) → ((value : T) → P value → Q value) → IfOk result P → IfOk result Q
if_ok (Ok value) f answered = f value answered
if_ok (Err error) f answered = answered

pub if_ok_both : {T E : Type 0} {P Q R : T → Type 0} (result : Result T E) → ((value : T) → P value → Q value → R value) → IfOk result P → IfOk result Q → IfOk result R
if_ok_both (Ok value) f one other = f value one other
if_ok_both (Err error) f one other = one
