-- The window over the visible runs of a run column: the same rows, with a row in each run.
use Rattle.std.proofs.Common.{◌≡◌, ℕ, zero, suc, ◌<◌, List, Option, Some, length, map, refl, sym, subst, ap, ◌∙◌, arith}
use Rattle.std.proofs.lemmas.List.{length-map}
use Rattle.column_core.specs.PrimitiveForm.{PrimitiveForm}
use Rattle.column_core.specs.Value.{Value}
use Rattle.runend_windows.specs.Ends.{ends_of}
use Rattle.runend_windows.specs.Visible.{visible}
use Rattle.runend_windows.specs.Window.{run_rows, IsWindow}
use Rattle.runend_windows.proofs.SlicedRuns.{IsWindow-of_none}
use Rattle.runend_windows.proofs.VisibleRuns.{length-visible, row_of_visible}
use Rattle.runend_windows.proofs.VisibleLaws.{length-visible_ends, rows_of_visible, run-among, window_of_visible}
use Rattle.runend_array.specs.Column.{AreRuns, Runs, column_of_runs, column_rows}
use Rattle.runend_encode.specs.Joined.{AllHaveRows}
use Rattle.runend_column.specs.VisibleForm.{visible_ends, visible_values, window_start}

-- the visible runs are a window over as many rows
window_at : (ends : List ℕ) (offset count : ℕ) → IsWindow ends offset count → IsWindow (visible ends offset count ends) (window_start count offset) count
window_at ends offset zero window = IsWindow-of_none
window_at ends offset (suc n) window = window_of_visible ends offset (suc n) window (omega arith)

pub visible_window : (r : Runs) → AreRuns r → IsWindow (visible_ends r) (window_start r.count r.offset) r.count
visible_window r runs = window_at r.ends r.offset r.count runs.window

-- with a value for each
pub visible_paired : (r : Runs) → AreRuns r → length (visible_values r) ≡ length (visible_ends r)
visible_paired r runs = length-visible_ends r.ends (column_rows r.values) r.offset r.count runs.window runs.paired

-- and they show the same rows
rows_at : {B : Type 0} (ends : List ℕ) (values : List (Option B)) (offset count : ℕ) → IsWindow ends offset count → length values ≡ length ends
    → run_rows (visible ends offset count ends) (visible ends offset count values) (window_start count offset) count ≡ run_rows ends values offset count
rows_at ends values offset zero window paired = refl
rows_at ends values offset (suc n) window paired = rows_of_visible ends values offset (suc n) window paired (omega arith)

pub visible_rows : (r : Runs) → AreRuns r → run_rows (visible_ends r) (visible_values r) (window_start r.count r.offset) r.count ≡ column_rows (column_of_runs r)
visible_rows r runs = rows_at r.ends (column_rows r.values) r.offset r.count runs.window runs.paired

-- each visible run shows a row
shown_at : (ends : List ℕ) (offset count : ℕ) → IsWindow ends offset count → AllHaveRows (visible ends offset count ends) (window_start count offset) count
shown_at ends offset zero window run within = absurd (omega arith)
shown_at ends offset (suc n) window run within =
    let some : 0 < suc n = omega arith in
    let counted = length-visible ends offset (suc n) window some ends refl in
    let first = row_of_visible ends offset (suc n) window some run (omega arith) in
    let place = run-among ends (map (λ (e : ℕ). Some e) ends) offset (suc n) window (length-map ends (λ (e : ℕ). Some e)) some first.0 first.1 in
    record { row = first.0; within = first.1; holds = place ∙ first.2 }

pub visible_shown : (r : Runs) → AreRuns r → AllHaveRows (visible_ends r) (window_start r.count r.offset) r.count
visible_shown r runs = shown_at r.ends r.offset r.count runs.window

-- ends that were read, a start and a number of rows that are that window
module _ (r : Runs) (ends : PrimitiveForm) (start total : ℕ) (ends_are : ends_of ends ≡ visible_ends r) (starts : start ≡ window_start r.count r.offset) (counts : total ≡ r.count) where
  pub read_window : IsWindow (visible_ends r) (window_start r.count r.offset) r.count → IsWindow (ends_of ends) start total
  read_window window =
      subst (λ (es : List ℕ). IsWindow es start total) (sym ends_are)
      (subst (λ (s : ℕ). IsWindow (visible_ends r) s total) (sym starts)
      (subst (λ (n : ℕ). IsWindow (visible_ends r) (window_start r.count r.offset) n) (sym counts) window))

  pub read_shown : AllHaveRows (visible_ends r) (window_start r.count r.offset) r.count → AllHaveRows (ends_of ends) start total
  read_shown shown =
      subst (λ (es : List ℕ). AllHaveRows es start total) (sym ends_are)
      (subst (λ (s : ℕ). AllHaveRows (visible_ends r) s total) (sym starts)
      (subst (λ (n : ℕ). AllHaveRows (visible_ends r) (window_start r.count r.offset) n) (sym counts) shown))

  pub read_rows : (values : List (Option Value)) → run_rows (ends_of ends) values start total ≡ run_rows (visible_ends r) values (window_start r.count r.offset) r.count
  read_rows values =
      ap (λ (es : List ℕ). run_rows es values start total) ends_are
      ∙ ap (λ (s : ℕ). run_rows (visible_ends r) values s total) starts
      ∙ ap (λ (n : ℕ). run_rows (visible_ends r) values (window_start r.count r.offset) n) counts
