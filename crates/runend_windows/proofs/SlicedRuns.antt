-- Some of the rows that runs show: the runs from the first row's run to the last row's are enough.
use Rattle.std.proofs.Common.{◌≡◌, ℕ, ◌+◌, ◌-◌, ◌<◌, ◌≤◌, List, [], Option, Some, None, length, replicate, slice_index, get_or, refl, sym, subst, ◌∙◌, ap, arith, Bool, suc, add_assoc, add-zero}
use Rattle.std.specs.Prelude.{slice_range, slice_get, count_by, nat_le, nat_lt, min}
use Rattle.std.proofs.Math.Dec.{leb-suc-suc}
use Rattle.std.proofs.Math.Path.{fun_ext}
use Rattle.std.proofs.lemmas.List.{ext_get_or, get_or-replicate, length-replicate}
use Rattle.std.proofs.lemmas.List.FromFn.{get_or-map-range_with_len}
use Rattle.std.proofs.lemmas.Option.{slice_get-get_or, same_Some}
use Rattle.column_base.proofs.Ranges.{length-slice_range, get_or-slice_range}
use Rattle.runend_windows.specs.Window.{run_rows}
use Rattle.runend_windows.specs.Window.{run_at, IsWindow}
use Rattle.runend_windows.proofs.RunAt.{ended_before, ends_past, run_at_is, run_at-count_by, run_at-le-run_at, run_of_row_within}
use Rattle.runend_windows.proofs.RunRows.{length-run_rows}

-- a range of no items
pub slice_range-none : {X : Type 0} (xs : List X) (start stop : ℕ) → start ≡ stop → slice_range xs start stop ≡ []
slice_range-none xs start stop same = let none : stop - start ≡ 0 = omega arith in rw none refl

-- the run of a position among some of the runs
pub run_at-slice_range : (ends : List ℕ) (position first stop : ℕ) → first ≤ run_at ends position → run_at ends position < stop → stop ≤ length ends
    → run_at (slice_range ends first stop) position ≡ run_at ends position - first
run_at-slice_range ends position first stop low high within =
    let size = length-slice_range ends first stop (omega arith) within in
    let place : first + (run_at ends position - first) ≡ run_at ends position = omega arith in
    run_at_is (slice_range ends first stop) position (run_at ends position - first) (omega arith)
    (λ k h. rw (get_or-slice_range ends first stop k 0 (omega arith)) (ended_before ends position (first + k) (omega arith)))
    (λ h. rw (get_or-slice_range ends first stop (run_at ends position - first) 0 (omega arith), place) (ends_past ends position (omega arith)))

-- the ends below the next row are those at or below this row
count_by-below_next : (ends : List ℕ) (row : ℕ) → count_by (λ e. nat_lt e (suc row)) ends ≡ count_by (λ e. nat_le e row) ends
count_by-below_next ends row = ap (λ (f : ℕ → Bool). count_by f ends) (fun_ext (λ e. leb-suc-suc e row))

-- no runs show no rows
pub IsWindow-of_none : IsWindow [] 0 0
IsWindow-of_none = record {
  increasing = λ k h. absurd (omega arith);
  none = λ _. (refl, refl);
  first = λ h. absurd (omega arith);
  last = λ h. absurd (omega arith);
  small = omega arith;
}

module _ (ends : List ℕ) (offset count start stop : ℕ) (window : IsWindow ends offset count) (some : start < stop) (within : stop ≤ count) where
  abbrev first : ℕ
  first = run_at ends (offset + start)

  abbrev last : ℕ
  last = run_at ends (offset + stop - 1)

  -- each row between is in a run between
  pub first_le_last : first ≤ last
  first_le_last = run_at-le-run_at ends (offset + start) (offset + stop - 1) (omega arith)

  pub last_within : last < length ends
  last_within =
      let place : offset + (stop - 1) ≡ offset + stop - 1 = omega arith in
      subst (λ (p : ℕ). run_at ends p < length ends) place (run_of_row_within ends offset count (stop - 1) window (omega arith))

  low : (i : ℕ) → i < stop - start → first ≤ run_at ends (offset + (start + i))
  low i h = run_at-le-run_at ends (offset + start) (offset + (start + i)) (omega arith)

  high : (i : ℕ) → i < stop - start → run_at ends (offset + (start + i)) ≤ last
  high i h = run_at-le-run_at ends (offset + (start + i)) (offset + stop - 1) (omega arith)

  -- one past the last row's run is where the search for the end of a slice stops
  pub slice_end : min (count_by (λ e. nat_lt e (offset + stop)) ends + 1) (length ends) ≡ last + 1
  slice_end =
      let next : offset + stop ≡ suc (offset + stop - 1) = omega arith in
      let below : count_by (λ e. nat_lt e (offset + stop)) ends ≡ count_by (λ e. nat_le e (offset + stop - 1)) ends = ap (λ (n : ℕ). count_by (λ e. nat_lt e n) ends) next ∙ count_by-below_next ends (offset + stop - 1) in
      let counted = run_at-count_by ends (offset + stop - 1) window.increasing in
      let inside = last_within in
      omega arith

  size : length (slice_range ends first (last + 1)) ≡ last + 1 - first
  size = length-slice_range ends first (last + 1) (omega (arith, first_le_last)) (omega (arith, last_within))

  end_at : (k : ℕ) → k < last + 1 - first → slice_index (slice_range ends first (last + 1)) k ≡ slice_index ends (first + k)
  end_at k h = get_or-slice_range ends first (last + 1) k 0 h

  -- those runs are a window over those rows
  pub IsWindow-narrowed : IsWindow (slice_range ends first (last + 1)) (offset + start) (stop - start)
  IsWindow-narrowed =
      let order = first_le_last in
      let inside = last_within in
      let sized = size in
      let first_below : offset + start < slice_index ends first = ends_past ends (offset + start) (omega arith) in
      let last_below : offset + stop - 1 < slice_index ends last = ends_past ends (offset + stop - 1) inside in
      let first_end = end_at 0 (omega arith) in
      let final_end = end_at (last - first) (omega arith) in
      let last_place : first + (last - first) ≡ last = omega arith in
      let last_index : length (slice_range ends first (last + 1)) - 1 ≡ last - first = omega arith in
      let small = window.small in
      record {
        increasing = λ k h. rw (end_at k (omega arith), end_at (k + 1) (omega arith), ← add_assoc first k 1) (window.increasing (first + k) (omega arith));
        none = λ h. absurd (omega arith);
        first = λ h. rw first_end (rw (add-zero first) (omega arith));
        last = λ h. rw (last_index, final_end, last_place) (omega arith);
        small = omega arith;
      }

  module _ {B : Type 0} (values : List (Option B)) (paired : length values ≡ length ends) where
    abbrev part : List (Option B)
    part = slice_range (run_rows ends values offset count) start stop

    counted : length part ≡ stop - start
    counted =
        let all = length-run_rows ends values offset count in
        length-slice_range (run_rows ends values offset count) start stop (omega arith) (omega arith)

    -- a row between, as the whole column has it
    row : (i : ℕ) → i < stop - start → get_or part i None ≡ get_or values (run_at ends (offset + (start + i))) None
    row i h =
        get_or-slice_range (run_rows ends values offset count) start stop i None h
        ∙ get_or-map-range_with_len _ offset count (start + i) (offset + (start + i)) None (omega arith) refl

    -- and they show just those rows
    pub run_rows-narrowed : run_rows (slice_range ends first (last + 1)) (slice_range values first (last + 1)) (offset + start) (stop - start) ≡ part
    run_rows-narrowed = ext_get_or None _ _ (length-run_rows (slice_range ends first (last + 1)) (slice_range values first (last + 1)) (offset + start) (stop - start) ∙ sym counted) (λ i h. shown i (rw length-run_rows at h))
      where
        shown : (i : ℕ) → i < stop - start → get_or (run_rows (slice_range ends first (last + 1)) (slice_range values first (last + 1)) (offset + start) (stop - start)) i None ≡ get_or part i None
        shown i h =
            let from = low i h in
            let to = high i h in
            let inside = last_within in
            let run = run_at ends (offset + (start + i)) in
            let place : (offset + start) + i ≡ offset + (start + i) = omega arith in
            let there = run_at-slice_range ends (offset + (start + i)) first (last + 1) from (omega arith) (omega arith) in
            let back : first + (run_at ends (offset + (start + i)) - first) ≡ run_at ends (offset + (start + i)) = omega arith in
            get_or-map-range_with_len _ (offset + start) (stop - start) i (offset + (start + i)) None h place
            ∙ ap (λ (k : ℕ). get_or (slice_range values first (last + 1)) k None) there
            ∙ get_or-slice_range values first (last + 1) (run_at ends (offset + (start + i)) - first) None (omega arith)
            ∙ ap (λ (k : ℕ). get_or values k None) back
            ∙ sym (row i h)

    -- rows of one run are copies of its value
    pub copies-of_run : (value : Option B) → first ≡ last → slice_get values first ≡ Some value → replicate (stop - start) value ≡ part
    copies-of_run value one is =
        ext_get_or None _ _ (length-replicate (stop - start) value ∙ sym counted) (λ i h. shown i (rw length-replicate at h))
      where
        shown : (i : ℕ) → i < stop - start → get_or (replicate (stop - start) value) i None ≡ get_or part i None
        shown i h =
            let from = low i h in
            let to = high i h in
            let inside = last_within in
            let here : run_at ends (offset + (start + i)) ≡ first = omega arith in
            let read : slice_get values first ≡ Some (get_or values first None) = slice_get-get_or values first None (omega arith) in
            get_or-replicate (stop - start) i value None h
            ∙ same_Some _ _ (sym is ∙ read)
            ∙ sym (row i h ∙ ap (λ (k : ℕ). get_or values k None) here)
