-- The rows of runs that are true, counted run by run.
use Rattle.std.proofs.Common.{◌≡◌, ◌∙◌, ◌+◌, ◌-◌, ◌<◌, ◌≤◌, ◌^◌, refl, sym, ap, ℕ, zero, suc, List, [], ◌∷◌, ◌++◌, Bool, true, false, Option, Some, None, cond, count_by, length, map, min, replicate, slice_index, arith}
use Rattle.std.specs.Prelude.{slice_get, slice_index_or}
use Rattle.std.proofs.lemmas.List.{length-map, get_or-map, map-append}
use Rattle.std.proofs.lemmas.List.Sums.{count_by-le-length, sum_by-append}
use Rattle.std.proofs.lemmas.Option.{slice_get-get_or}
use Rattle.column_base.proofs.BitLists.{count_by-false, count_by-true}
use Rattle.column_core.specs.Value.{Value}
use Rattle.runend_array.specs.Column.{AreRuns, Runs, column_of_runs, column_rows}
use Rattle.runend_array.specs.RowRuns.{first_visible, stop_visible}
use Rattle.runend_windows.specs.Cover.{Covers}
use Rattle.runend_windows.specs.Window.{IsWindow, run_at, run_rows}
use Rattle.runend_windows.proofs.Decoded.{Decoded, Decoded-next, reached}
use Rattle.runend_windows.proofs.RunAt.{ended_before, ends_past, run_of_row_within}
use Rattle.runend_windows.proofs.RunRows.{Covers-run_rows}
use Rattle.runend_windows.proofs.ShownRuns.{equal_from_Covers}
use Rattle.c_columns.specs.RunReads.{start_of, stop_of}
use Rattle.runend_select.specs.MaskRuns.{is_true}
use Rattle.c_columns.specs.TwoColumns.{true_rows, true_rows_in}
use Rattle.c_columns.proofs.TwoColumns.{true_in_each}

-- the rows of the runs before one are counted
pub record CountedSoFar (r : Runs) (run count : ℕ) : Type 0 where
  pub shown : List (Option Value)
  pub decoded : Decoded r.ends (column_rows r.values) r.offset r.count run shown
  pub counted : count ≡ true_rows shown

-- copies of a row
copied_bits : (copies : ℕ) (bit : Bool) → count_by (λ (b : Bool). b) (replicate copies bit) ≡ cond bit copies 0
copied_bits zero true = refl
copied_bits zero false = refl
copied_bits (suc n) true = omega (arith, count_by-true (replicate n true), copied_bits n true)
copied_bits (suc n) false = omega (arith, count_by-false (replicate n false), copied_bits n false)

true_rows-copies : (copies : ℕ) (row : Option Value) → true_rows (replicate copies row) ≡ cond (is_true row) copies 0
true_rows-copies copies row = ap (λ (bits : List Bool). count_by (λ (b : Bool). b) bits) (true_in_each copies row) ∙ copied_bits copies (is_true row)

true_rows-append : (rows more : List (Option Value)) → true_rows (rows ++ more) ≡ true_rows rows + true_rows more
true_rows-append rows more =
    ap (λ (bits : List Bool). count_by (λ (b : Bool). b) bits) (map-append is_true rows more)
    ∙ sum_by-append (λ (b : Bool). cond b 1 0) (map is_true rows) (map is_true more)

true_rows-le : (rows : List (Option Value)) → true_rows rows ≤ length rows
true_rows-le rows = omega (arith, count_by-le-length (λ (b : Bool). b) (map is_true rows), length-map rows is_true)

-- where a run stops, and where it starts, in rows that the runs up to it reach
stop_is : (r : Runs) (run : ℕ) → run < length r.ends → stop_of r run ≡ min (slice_index r.ends run - r.offset) r.count
stop_is r run within = get_or-map (λ (end : ℕ). min (end - r.offset) r.count) r.ends run 0 0 within

start_is : (r : Runs) (run : ℕ) → run < length r.ends → start_of r run ≡ reached r.ends r.offset r.count run
start_is r zero within = refl
start_is r (suc run) within = stop_is r run (omega (arith, within))

-- before the first visible run there are 0 rows
none_reached : (ends : List ℕ) (offset count run : ℕ) → ((k : ℕ) → k < run → slice_index ends k ≤ offset) → 0 ≡ reached ends offset count run
none_reached ends offset count zero ended = refl
none_reached ends offset count (suc run) ended = let e = ended run (omega arith) in omega arith

first_reached : (ends : List ℕ) (offset count : ℕ) → 0 ≡ reached ends offset count (first_visible ends offset count)
first_reached ends offset zero = refl
first_reached ends offset (suc n) = none_reached ends offset (suc n) (run_at ends offset) (λ k h. ended_before ends offset k h)

pub counted_none : (r : Runs) (run : ℕ) → run ≡ first_visible r.ends r.offset r.count → CountedSoFar r run 0
counted_none r run first = record {
  shown = [];
  decoded = record { counted = first_reached r.ends r.offset r.count ∙ ap (reached r.ends r.offset r.count) (sym first); each = λ i h. absurd (omega arith) };
  counted = refl;
}

-- the next run
pub counted_next : (r : Runs) (run count more : ℕ) → AreRuns r → run < length r.ends → more ≡ true_rows_in r run → CountedSoFar r run count → CountedSoFar r (run + 1) (count + more)
counted_next r run count more runs within is so_far =
    let values = column_rows r.values in
    let value = slice_index_or values run None in
    let copies = stop_of r run - start_of r run in
    let rows = so_far.shown in
    let paired = runs.paired in
    let here : slice_get values run ≡ Some value = slice_get-get_or values run None (omega (arith, within, paired)) in
    let stop = stop_is r run within in
    let start = start_is r run within in
    let reach = so_far.decoded.counted in
    let copied : copies ≡ min (slice_index r.ends run - r.offset) r.count - length rows = omega (arith, stop, start, reach) in
    record {
      shown = rows ++ replicate copies value;
      decoded = Decoded-next r.ends values r.offset r.count run rows value copies runs.window within here copied so_far.decoded;
      counted =
          ap (λ (n : ℕ). n + more) so_far.counted
          ∙ ap (λ (n : ℕ). true_rows rows + n) (is ∙ sym (true_rows-copies copies value))
          ∙ sym (true_rows-append rows (replicate copies value));
    }

-- no more rows are counted than there are
reached-small : (ends : List ℕ) (offset count run : ℕ) → reached ends offset count run ≤ count
reached-small ends offset count zero = omega arith
reached-small ends offset count (suc run) = omega arith

pub counted_small : (r : Runs) (run count : ℕ) → AreRuns r → CountedSoFar r run count → count < 2 ^ 64
counted_small r run count runs so_far =
    let small = runs.window.small in
    omega (arith, so_far.counted, true_rows-le so_far.shown, so_far.decoded.counted, reached-small r.ends r.offset r.count run, small)

-- past the last visible run all rows are counted
no_rows : (rows : List (Option Value)) → length rows ≡ 0 → true_rows rows ≡ 0
no_rows [] none = refl
no_rows (row ∷ rows) none = absurd (omega (arith, none))

all_shown : (ends : List ℕ) (values : List (Option Value)) (offset count run : ℕ) (shown : List (Option Value)) → IsWindow ends offset count → length values ≡ length ends → run ≡ stop_visible ends offset count
    → Decoded ends values offset count run shown → true_rows shown ≡ true_rows (run_rows ends values offset count)
all_shown ends values offset zero run shown window paired last decoded = no_rows shown (decoded.counted ∙ ap (reached ends offset 0) last)
all_shown ends values offset (suc n) run shown window paired last decoded =
    let stop = run_at ends (offset + n) in
    let inside = run_of_row_within ends offset (suc n) n window (omega arith) in
    let past = ends_past ends (offset + n) inside in
    let at : run ≡ suc stop = omega (arith, last) in
    let whole : reached ends offset (suc n) (suc stop) ≡ suc n = omega (arith, past) in
    let full : length shown ≡ suc n = decoded.counted ∙ ap (reached ends offset (suc n)) at ∙ whole in
    let cover : Covers shown ends values offset (suc n) = record { window = window; paired = paired; counted = full; each = λ i h. decoded.each i (omega (arith, full, h)) } in
    ap true_rows (equal_from_Covers shown (run_rows ends values offset (suc n)) ends values offset (suc n) cover (Covers-run_rows ends values offset (suc n) window paired))

pub counted_all : (r : Runs) (run count : ℕ) → AreRuns r → run ≡ stop_visible r.ends r.offset r.count → CountedSoFar r run count → count ≡ true_rows (column_rows (column_of_runs r))
counted_all r run count runs last so_far = so_far.counted ∙ all_shown r.ends (column_rows r.values) r.offset r.count run so_far.shown runs.window runs.paired last so_far.decoded
