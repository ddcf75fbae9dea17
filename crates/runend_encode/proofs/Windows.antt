-- Runs in a window, each of which shows a row.
use Rattle.std.proofs.Common.{◌≡◌, ◌∙◌, ◌+◌, ◌-◌, ◌<◌, ◌≤◌, ℕ, zero, suc, List, [], ◌∷◌, Option, length, map, min, refl, sym, ap, subst, arith, add-one}
use Rattle.std.specs.Prelude.{slice_index}
use Rattle.runend_windows.specs.Cover.{IsTightCover}
use Rattle.runend_windows.specs.Visible.{HasRow}
use Rattle.runend_windows.specs.Window.{IsWindow, last_end, run_at, run_rows}
use Rattle.runend_windows.proofs.RunAt.{ended_before, ends_past, run_of_row_within}
use Rattle.runend_windows.proofs.RunRows.{length-run_rows, slice_get-run_rows_of_window}
use Rattle.runend_encode.specs.Windows.{start_in}
use Rattle.runend_encode.proofs.JoinedRuns.{AreFilled, IsTightCover-of_runs}

start_in-next : (ends : List ℕ) (offset count run : ℕ) → start_in ends offset count (run + 1) ≡ min (slice_index ends run - offset) count
start_in-next ends offset count run = rw add-one refl

start_in-first : (ends : List ℕ) (offset count : ℕ) → start_in ends offset count 0 ≡ 0
start_in-first ends offset count = omega arith

-- a run starts at no row after one of its own
start_in-le : (ends : List ℕ) (offset count row run : ℕ) → run ≤ run_at ends (offset + row) → start_in ends offset count run ≤ row
start_in-le ends offset count row zero before = omega arith
start_in-le ends offset count row (suc run) before =
    let ended = ended_before ends (offset + row) run (omega arith) in
    let is = start_in-next ends offset count run in
    let same : run + 1 ≡ suc run = omega arith in
    subst (λ (k : ℕ). start_in ends offset count k ≤ row) same (omega arith)

-- and the next one after it
start_in-past : (ends : List ℕ) (offset count row : ℕ) → IsWindow ends offset count → row < count → row < start_in ends offset count (run_at ends (offset + row) + 1)
start_in-past ends offset count row window within =
    let past = ends_past ends (offset + row) (run_of_row_within ends offset count row window within) in
    let is = start_in-next ends offset count (run_at ends (offset + row)) in
    omega arith

filled : (ends : List ℕ) (offset count : ℕ) → IsWindow ends offset count → ((run : ℕ) → run < length ends → HasRow ends offset count run) → AreFilled (start_in ends offset count) (length ends)
filled ends offset count window shown run within =
    let has = shown run within in
    let from = start_in-le ends offset count has.row run (omega (arith, has.holds)) in
    let to = start_in-past ends offset count has.row window has.within in
    let next = ap (λ (k : ℕ). start_in ends offset count (k + 1)) has.holds in
    omega arith

-- what reaches to the end of the window is cut there
covered : (count end offset : ℕ) → (0 < count → offset + count ≤ end) → min (end - offset) count ≡ count
covered zero end offset long = omega arith
covered (suc count) end offset long = let reaches = long (omega arith) in omega arith

-- all runs end where the window does
start_in-last : (ends : List ℕ) (offset count : ℕ) → IsWindow ends offset count → start_in ends offset count (length ends) ≡ count
start_in-last [] offset count window = let none = window.none refl in omega (arith, none.1)
start_in-last (end ∷ ends) offset count window =
    let is = start_in-next (end ∷ ends) offset count (length ends) in
    let same : length ends + 1 ≡ length (end ∷ ends) = omega arith in
    let last : slice_index (end ∷ ends) (length ends) ≡ last_end (end ∷ ends) = ap (slice_index (end ∷ ends)) (omega arith) in
    let long = window.last in
    ap (start_in (end ∷ ends) offset count) (sym same) ∙ is ∙ covered count (slice_index (end ∷ ends) (length ends)) offset (λ some. let l = long some in omega (arith, last))

-- a tight cover of the values of runs, each of which shows a row of the window, is one of these rows
pub IsTightCover-of_window : {B : Type 0} (ends : List ℕ) (values : List (Option B)) (offset count : ℕ) (joined : List ℕ) (joined_values : List (Option B))
    → IsWindow ends offset count → length values ≡ length ends → ((run : ℕ) → run < length ends → HasRow ends offset count run)
    → IsTightCover values joined joined_values → IsTightCover (run_rows ends values offset count) (map (start_in ends offset count) joined) joined_values
IsTightCover-of_window ends values offset count joined joined_values window paired shown cover =
    let counted = length-run_rows ends values offset count in
    let small = window.small in
    IsTightCover-of_runs (start_in ends offset count) values (run_rows ends values offset count) joined joined_values (omega arith)
    (subst (AreFilled (start_in ends offset count)) (sym paired) (filled ends offset count window shown))
    (start_in-first ends offset count)
    (ap (start_in ends offset count) paired ∙ start_in-last ends offset count window ∙ sym counted)
    (λ row there.
    let within : row < count = omega arith in
    let run_within = run_of_row_within ends offset count row window within in
    record {
      run = run_at ends (offset + row);
      there = omega arith;
      from = start_in-le ends offset count row (run_at ends (offset + row)) (omega arith);
      to = start_in-past ends offset count row window within;
      shows = slice_get-run_rows_of_window ends values offset count row window paired within;
    })
    cover
