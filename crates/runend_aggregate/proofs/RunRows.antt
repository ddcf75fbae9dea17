-- The visible runs of a column of integers, written out, are the numbers of its rows.
use Rattle.std.proofs.Common.{◌≡◌, ℕ, zero, suc, ◌+◌, ◌-◌, ◌<◌, ◌≤◌, ℤ, List, [], ◌∷◌, ◌++◌, Option, Some, None, length, map, min, replicate, slice_index, refl, sym, subst, ◌∙◌, ap, arith, append_assoc, add-one}
use Rattle.std.specs.Prelude.{All, slice_get, slice_index_or, option_map}
use Rattle.std.proofs.lemmas.List.{length-map}
use Rattle.std.proofs.lemmas.Option.{get_or_from_slice_get, slice_get-get_or}
use Rattle.column_core.specs.Value.{Value}
use Rattle.column_sums.specs.RunSum.{rows_of_runs}
use Rattle.column_sums.specs.SumAnswer.{number_in}
use Rattle.column_sums.specs.Summed.{run_value}
use Rattle.runend_windows.specs.Cover.{Covers}
use Rattle.runend_windows.specs.Window.{run_at, run_rows, IsWindow}
use Rattle.runend_windows.proofs.Decoded.{Decoded, Decoded-next, reached, Covers-map}
use Rattle.runend_windows.proofs.RunAt.{ended_before, ends_after, ends_past, run_at-le-run_at, run_of_row_within}
use Rattle.runend_windows.proofs.RunRows.{Covers-run_rows}
use Rattle.runend_windows.proofs.ShownRuns.{equal_from_Covers}
use Rattle.runend_array.specs.Column.{Runs, AreRuns, column_of_runs, column_rows}
use Rattle.runend_array.specs.RowRuns.{first_visible, stop_visible}
use Rattle.runend_aggregate.specs.ShownRuns.{rows_before, rows_showing, runs_from, visible_runs}

pub append-nil : {X : Type 0} (xs : List X) → xs ≡ xs ++ []
append-nil [] = refl
append-nil (x ∷ xs) = ap (λ ys. x ∷ ys) (append-nil xs)

-- the rows before a run are those that the runs before it reach
before-reached : (ends : List ℕ) (offset count run : ℕ) → rows_before ends offset count run ≡ reached ends offset count run
before-reached ends offset count zero = refl
before-reached ends offset count (suc run) = refl

-- runs that ended before the window reach none of its rows
none_reached : (ends : List ℕ) (offset count run : ℕ) → ((k : ℕ) → k < run → slice_index ends k ≤ offset) → 0 ≡ reached ends offset count run
none_reached ends offset count zero ended = refl
none_reached ends offset count (suc run) ended = let e = ended run (omega arith) in omega arith

-- so before the first visible run there are 0 rows
Decoded-first : (ends : List ℕ) (numbers : List (Option ℤ)) (offset count : ℕ) → Decoded ends numbers offset count (run_at ends offset) []
Decoded-first ends numbers offset count = record {
  counted = none_reached ends offset count (run_at ends offset) (λ k h. ended_before ends offset k h);
  each = λ i h. absurd (omega arith);
}

-- the rows of some runs, and then those of the next runs
Decoded-runs : (ends : List ℕ) (numbers : List (Option ℤ)) (offset count n run : ℕ) (rows : List (Option ℤ)) → IsWindow ends offset count → length numbers ≡ length ends
    → run + n ≤ length ends → Decoded ends numbers offset count run rows
    → Decoded ends numbers offset count (run + n) (rows ++ rows_of_runs (runs_from ends numbers offset count run n))
Decoded-runs ends numbers offset count zero run rows window paired within decoded =
    let at : run ≡ run + zero = omega arith in
    let P : ℕ → List (Option ℤ) → Type 0 = Decoded ends numbers offset count in
    subst (λ (k : ℕ). P k (rows ++ [])) at (subst (P run) (append-nil rows) decoded)
Decoded-runs ends numbers offset count (suc n) run rows window paired within decoded =
    let value = slice_index_or numbers run None in
    let copies = rows_showing ends offset count run in
    let here : slice_get numbers run ≡ Some value = slice_get-get_or numbers run None (omega arith) in
    let copied : copies ≡ min (slice_index ends run - offset) count - length rows =
    ap (λ (k : ℕ). min (slice_index ends run - offset) count - k) (before-reached ends offset count run ∙ sym decoded.counted) in
    let next = Decoded-next ends numbers offset count run rows value copies window (omega arith) here copied decoded in
    let rest = Decoded-runs ends numbers offset count n (run + 1) (rows ++ replicate copies value) window paired (omega arith) next in
    let at : run + 1 + n ≡ run + suc n = omega arith in
    let P : ℕ → List (Option ℤ) → Type 0 = Decoded ends numbers offset count in
    let later = rows_of_runs (runs_from ends numbers offset count (run + 1) n) in
    subst (λ (k : ℕ). P k (rows ++ (replicate copies value ++ later))) at (subst (P (run + 1 + n)) (append_assoc rows (replicate copies value) later) rest)

-- the visible runs show as many rows as the window has
pub length-rows_from : (ends : List ℕ) (numbers : List (Option ℤ)) (offset count : ℕ) → IsWindow ends offset count → length numbers ≡ length ends
    → length (rows_of_runs (runs_from ends numbers offset count (first_visible ends offset count) (stop_visible ends offset count - first_visible ends offset count))) ≡ count
length-rows_from ends numbers offset zero window paired = refl
length-rows_from ends numbers offset (suc n) window paired =
    let first = run_at ends offset in
    let last = run_at ends (offset + n) in
    let order = run_at-le-run_at ends offset (offset + n) (omega arith) in
    let inside = run_of_row_within ends offset (suc n) n window (omega arith) in
    let past = ends_past ends (offset + n) inside in
    let all = Decoded-runs ends numbers offset (suc n) (last + 1 - first) first [] window paired (omega arith) (Decoded-first ends numbers offset (suc n)) in
    let at : first + (last + 1 - first) ≡ suc last = omega arith in
    let whole : reached ends offset (suc n) (suc last) ≡ suc n = omega arith in
    all.counted ∙ ap (reached ends offset (suc n)) at ∙ whole

rows_of_visible : (ends : List ℕ) (values : List (Option Value)) (offset count : ℕ) → IsWindow ends offset count → length values ≡ length ends
    → rows_of_runs (runs_from ends (map number_in values) offset count (first_visible ends offset count) (stop_visible ends offset count - first_visible ends offset count))
    ≡ map number_in (run_rows ends values offset count)
rows_of_visible ends values offset zero window paired = refl
rows_of_visible ends values offset (suc n) window paired =
    let numbers = map number_in values in
    let first = run_at ends offset in
    let last = run_at ends (offset + n) in
    let counted = length-map values number_in ∙ paired in
    let order = run_at-le-run_at ends offset (offset + n) (omega arith) in
    let inside = run_of_row_within ends offset (suc n) n window (omega arith) in
    let all = Decoded-runs ends numbers offset (suc n) (last + 1 - first) first [] window counted (omega arith) (Decoded-first ends numbers offset (suc n)) in
    let rows = rows_of_runs (runs_from ends numbers offset (suc n) first (last + 1 - first)) in
    let full : length rows ≡ suc n = length-rows_from ends numbers offset (suc n) window counted in
    let cover : Covers rows ends numbers offset (suc n) = record { window = window; paired = counted; counted = full; each = λ i h. all.each i (omega (arith, full)) } in
    equal_from_Covers rows (map number_in (run_rows ends values offset (suc n))) ends numbers offset (suc n) cover
    (Covers-map number_in (run_rows ends values offset (suc n)) ends values offset (suc n) (Covers-run_rows ends values offset (suc n) window paired))

-- the visible runs of a column show its rows
pub rows_of_visible_runs : (r : Runs) → AreRuns r → rows_of_runs (visible_runs r) ≡ map number_in (column_rows (column_of_runs r))
rows_of_visible_runs r runs = rows_of_visible r.ends (column_rows r.values) r.offset r.count runs.window runs.paired

pub length-runs_from : (ends : List ℕ) (numbers : List (Option ℤ)) (offset count run n : ℕ) → length (runs_from ends numbers offset count run n) ≡ n
length-runs_from ends numbers offset count run zero = refl
length-runs_from ends numbers offset count run (suc n) = ap suc (length-runs_from ends numbers offset count (run + 1) n)

get-runs_from : (ends : List ℕ) (numbers : List (Option ℤ)) (offset count run n k : ℕ) → k < n
    → slice_get (runs_from ends numbers offset count run n) k ≡ Some (slice_index_or numbers (run + k) None, rows_showing ends offset count (run + k))
get-runs_from ends numbers offset count run zero k h = absurd (omega arith)
get-runs_from ends numbers offset count run (suc n) zero h =
    let at : run ≡ run + zero = omega arith in
    ap (λ (j : ℕ). Some (slice_index_or numbers j None, rows_showing ends offset count j)) at
get-runs_from ends numbers offset count run (suc n) (suc k) h =
    let at : run + 1 + k ≡ run + suc k = omega arith in
    get-runs_from ends numbers offset count (run + 1) n k (omega arith)
    ∙ ap (λ (j : ℕ). Some (slice_index_or numbers j None, rows_showing ends offset count j)) at

showing_after : (ends : List ℕ) (offset count run : ℕ) → IsWindow ends offset count → run < length ends → offset < slice_index ends run
    → ((k : ℕ) → k < run → slice_index ends k < offset + count) → 0 < count → 0 < rows_showing ends offset count run
showing_after ends offset count zero window within past before some = omega arith
showing_after ends offset count (suc run) window within past before some =
    let last = before run (omega arith) in
    let step : slice_index ends run < slice_index ends (suc run) = rw add-one at (window.increasing run (omega arith)) in
    omega arith

-- a visible run is one that some row shows
pub showing_some : (ends : List ℕ) (offset count run : ℕ) → IsWindow ends offset count → first_visible ends offset count ≤ run → run < stop_visible ends offset count
    → 0 < rows_showing ends offset count run
showing_some ends offset zero run window low high = absurd (omega arith)
showing_some ends offset (suc n) run window low high =
    let inside = run_of_row_within ends offset (suc n) n window (omega arith) in
    showing_after ends offset (suc n) run window (omega arith) (ends_after ends offset run window.increasing low (omega arith))
    (λ k h. let e = ended_before ends (offset + n) k (omega arith) in omega arith) (omega arith)

-- all of them are runs
pub stop_visible-le : (ends : List ℕ) (offset count : ℕ) → IsWindow ends offset count → stop_visible ends offset count ≤ length ends
stop_visible-le ends offset zero window = omega arith
stop_visible-le ends offset (suc n) window = let inside = run_of_row_within ends offset (suc n) n window (omega arith) in omega arith

-- the runs that are written out are as many as were asked for
pub within-runs_from : (ends : List ℕ) (numbers : List (Option ℤ)) (offset count run n k : ℕ) → k < length (runs_from ends numbers offset count run n) → k < n
within-runs_from ends numbers offset count run n k within = omega (arith, length-runs_from ends numbers offset count run n)

-- what one of them shows
pub value-runs_from : (ends : List ℕ) (numbers : List (Option ℤ)) (offset count run n k : ℕ) (number : Option ℤ) → k < length (runs_from ends numbers offset count run n)
    → slice_get numbers (run + k) ≡ Some number → option_map (λ (shown : Option ℤ × ℕ). shown.0) (slice_get (runs_from ends numbers offset count run n) k) ≡ Some number
value-runs_from ends numbers offset count run n k number within read =
    ap (option_map (λ (shown : Option ℤ × ℕ). shown.0)) (get-runs_from ends numbers offset count run n k (within-runs_from ends numbers offset count run n k within))
    ∙ ap Some (get_or_from_slice_get numbers (run + k) number None read)

-- and in how many rows
pub count-runs_from : (ends : List ℕ) (numbers : List (Option ℤ)) (offset count run n k rows : ℕ) → k < length (runs_from ends numbers offset count run n)
    → rows ≡ rows_showing ends offset count (run + k) → option_map (λ (shown : Option ℤ × ℕ). shown.1) (slice_get (runs_from ends numbers offset count run n) k) ≡ Some rows
count-runs_from ends numbers offset count run n k rows within counted =
    ap (option_map (λ (shown : Option ℤ × ℕ). shown.1)) (get-runs_from ends numbers offset count run n k (within-runs_from ends numbers offset count run n k within))
    ∙ sym (ap Some counted)

length-visible_runs : (r : Runs) → length (visible_runs r) ≡ stop_visible r.ends r.offset r.count - first_visible r.ends r.offset r.count
length-visible_runs r =
    let first = first_visible r.ends r.offset r.count in
    length-runs_from r.ends (map number_in (column_rows r.values)) r.offset r.count first (stop_visible r.ends r.offset r.count - first)

abbrev count_in : Option (Option ℤ × ℕ) → ℕ
count_in None = 0
count_in (Some shown) = shown.1

-- each visible run is shown by some row
pub shown-visible_runs : (r : Runs) → AreRuns r → All (λ (shown : Option ℤ × ℕ). 0 < shown.1) (visible_runs r)
shown-visible_runs r runs k default within =
    let first = first_visible r.ends r.offset r.count in
    let stop = stop_visible r.ends r.offset r.count in
    let long = length-visible_runs r in
    let got = get-runs_from r.ends (map number_in (column_rows r.values)) r.offset r.count first (stop - first) k (omega arith) in
    let some = showing_some r.ends r.offset r.count (first + k) runs.window (omega arith) (omega arith) in
    subst (λ (shown : Option (Option ℤ × ℕ)). 0 < count_in shown) (sym got ∙ slice_get-get_or (visible_runs r) k default within) some

-- the number that a run shows
pub shown-number : (ends : List ℕ) (numbers : List (Option ℤ)) (offset count first n run : ℕ) → run < n → first + n ≤ length numbers
    → run_value (runs_from ends numbers offset count first n) run ≡ slice_get numbers (first + run)
shown-number ends numbers offset count first zero run h within = absurd (omega arith)
shown-number ends numbers offset count first (suc n) zero h within =
    let at : first + zero ≡ first = omega arith in rw at (sym (slice_get-get_or numbers first None (omega arith)))
shown-number ends numbers offset count first (suc n) (suc run) h within =
    let at : first + suc run ≡ first + 1 + run = omega arith in rw at (shown-number ends numbers offset count (first + 1) n run (omega arith) (omega arith))
