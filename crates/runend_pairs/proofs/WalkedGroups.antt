-- Runs of rows walked along from the first row on: the run of the next row, and the rows so far.
use Rattle.std.proofs.Common.{◌≡◌, ℕ, ℤ, zero, suc, ◌+◌, ◌-◌, ◌<◌, ◌≤◌, List, [], ◌∷◌, ◌++◌, Option, Some, length, map, replicate, slice_index, take, drop, refl, sym, ◌∙◌, ap, arith, inl, inr, add-zero, zero-add, append-nil, append_assoc}
use Rattle.std.specs.Prelude.{slice_get, slice_range}
use Rattle.std.proofs.lemmas.Bool.{cases_lt}
use Rattle.std.proofs.lemmas.List.Kept.{AllPairs-from_increasing}
use Rattle.std.specs.List.Sorted.{IsStrictlyIncreasing}
use Rattle.std.proofs.lemmas.List.{length-map}
use Rattle.column_base.specs.ValidityForm.{ValidityForm, HasLength, flags}
use Rattle.column_base.proofs.ValidityRows.{length-flags}
use Rattle.column_core.specs.Optionals.{optionals}
use Rattle.column_core.proofs.OptionalRows.{length-optionals}
use Rattle.column_ops.proofs.RowRanges.{slice_range-next}
use Rattle.runend_windows.specs.Window.{IsWindow, last_end, run_at, run_rows}
use Rattle.runend_windows.proofs.RunAt.{ended_before, ends_past, run_at-here, run_at-le, run_at-le-run_at, run_at_is, run_of_row_within}
use Rattle.runend_windows.proofs.RunRows.{slice_get-run_rows_of_window}

-- no end is past the last one
pub le-last_end : (ends : List ℕ) (k : ℕ) → IsStrictlyIncreasing ends → k < length ends → slice_index ends k ≤ last_end ends
le-last_end ends k increasing within = elim (cases_lt k (length ends - 1)) [
  | inl before ↦ let order = AllPairs-from_increasing ends increasing k (length ends - 1) 0 before (omega arith) in omega arith
  | inr last ↦ let same : k ≡ length ends - 1 = omega arith in rw same (omega arith)
]

-- where the first end is past the first row, that row is in the first run
pub begins : (ends : List ℕ) → (0 < length ends → 0 < slice_index ends 0) → run_at ends 0 ≡ 0
begins [] filled = refl
begins (end ∷ ends) filled = run_at-here end ends 0 (filled (omega arith))

-- rows up to the end of a run stay in it
run_stays : (ends : List ℕ) (row later : ℕ) → row ≤ later → run_at ends row < length ends → later < slice_index ends (run_at ends row) → run_at ends later ≡ run_at ends row
run_stays ends row later after within before =
    let least = run_at-le-run_at ends row later after in
    let most = run_at-le ends later (run_at ends row) within before in
    omega arith

-- and its end is in the next
run_ends : (ends : List ℕ) (row end : ℕ) → IsStrictlyIncreasing ends → row < end → run_at ends row < length ends → slice_index ends (run_at ends row) ≡ end → run_at ends end ≡ run_at ends row + 1
run_ends ends row end increasing after within is =
    run_at_is ends end (run_at ends row + 1) (omega arith)
    (λ k h. elim (cases_lt k (run_at ends row)) [
      | inl before ↦ let ended = ended_before ends row k before in omega arith
      | inr last ↦ let same : k ≡ run_at ends row = omega arith in rw same (omega arith)
    ])
    (λ h. let order = increasing (run_at ends row) h in omega arith)

module _ (ends : List ℕ) (row run : ℕ) (window : IsWindow ends 0 (last_end ends)) (more : row < last_end ends) (here : run ≡ run_at ends row) where
  in_run : run_at ends row < length ends
  in_run = rw (zero-add row) at (run_of_row_within ends 0 (last_end ends) row window more)

  -- the run of a row is one of the runs
  pub run_there : run < length ends
  run_there = rw here in_run

  -- and ends past the row
  pub run_past : row < slice_index ends run
  run_past = let inside = in_run in rw here (ends_past ends row inside)

  -- the run of the row at which a stretch of it ends
  pub run_next : (next end : ℕ) → row < end → end ≤ slice_index ends run → (slice_index ends run ≡ end → next ≡ run + 1) → ((slice_index ends run ≡ end → ⊥) → next ≡ run)
      → next ≡ run_at ends end
  run_next next end later within ended going =
      let inside = in_run in
      elim (cases_lt end (slice_index ends run)) [
        | inl short ↦
            let stays = run_stays ends row end (omega arith) inside (rw (← here) short) in
            going (λ e. omega arith) ∙ here ∙ sym stays
        | inr full ↦
            let same : slice_index ends run ≡ end = omega arith in
            let after = run_ends ends row end window.increasing later inside (rw (← here) same) in
            ended same ∙ ap (λ (k : ℕ). k + 1) here ∙ sym after
      ]

  -- the rows of the stretch show the value of the run
  pub one_value : {B : Type 0} (values : List (Option B)) (value : Option B) (end : ℕ) → length values ≡ length ends → end ≤ slice_index ends run → slice_get values run ≡ Some value
      → (k : ℕ) → row ≤ k → k < end → slice_get (run_rows ends values 0 (last_end ends)) k ≡ Some value
  one_value values value end paired within is k from before =
      let inside = in_run in
      let there = run_there in
      let most = le-last_end ends run window.increasing there in
      let stays = run_stays ends row k from inside (rw (← here) (omega arith)) in
      slice_get-run_rows_of_window ends values 0 (last_end ends) k window paired (omega arith)
      ∙ ap (slice_get values) (ap (run_at ends) (zero-add k) ∙ stays ∙ sym here) ∙ is

-- copies of an item at the end of a range
slice_range-copies : {X : Type 0} (rows : List X) (start row : ℕ) (x : X) (n : ℕ) → start ≤ row → ((k : ℕ) → row ≤ k → k < row + n → slice_get rows k ≡ Some x)
    → slice_range rows start (row + n) ≡ slice_range rows start row ++ replicate n x
slice_range-copies rows start row x zero ordered here = rw (add-zero row, append-nil (slice_range rows start row)) refl
slice_range-copies rows start row x (suc n) ordered here =
    let place : row + 1 + n ≡ row + suc n = omega arith in
    let one = slice_range-next rows start row x ordered (here row (omega arith) (omega arith)) in
    let rest = slice_range-copies rows start (row + 1) x n (omega arith) (λ k from before. here k (omega arith) (omega arith)) in
    rw (place, one, append_assoc (slice_range rows start row) (x ∷ []) (replicate n x)) at rest

-- a range of rows that goes on to the end of a stretch of one run
pub range_grown : {B : Type 0} (ends : List ℕ) (values : List (Option B)) (start row run end : ℕ) (value : Option B) → IsWindow ends 0 (last_end ends) → length values ≡ length ends
    → start ≤ row → row < end → end ≤ last_end ends → run ≡ run_at ends row → end ≤ slice_index ends run → slice_get values run ≡ Some value
    → slice_range (run_rows ends values 0 (last_end ends)) start end ≡ slice_range (run_rows ends values 0 (last_end ends)) start row ++ replicate (end - row) value
range_grown ends values start row run end value window paired ordered later short here within is =
    let whole : row + (end - row) ≡ end = omega arith in
    rw whole at
    (slice_range-copies (run_rows ends values 0 (last_end ends)) start row value (end - row) ordered
    (λ k from before. one_value ends row run window (omega arith) here values value end paired within is k from (omega arith)))

-- a value for each run
pub paired_values : {S : Type 0} (number : S → ℤ) (items : List S) (validity : ValidityForm) (ends : List ℕ) → length items ≡ length ends → HasLength validity (length items)
    → length (optionals (map number items) (flags validity (length items))) ≡ length ends
paired_values number items validity ends paired flagged =
    let mapped = length-map items number in
    length-optionals (map number items) (flags validity (length items)) (length-flags validity (length items) flagged ∙ sym mapped) ∙ mapped ∙ paired

drop-zero : {X : Type 0} (rows : List X) → drop 0 rows ≡ rows
drop-zero [] = refl
drop-zero (x ∷ rows) = refl

-- a range from the first row on
from_first : {X : Type 0} (rows : List X) (n : ℕ) → slice_range rows 0 n ≡ take n rows
from_first rows n = let same : n - 0 ≡ n = omega arith in ap (take (n - 0)) (drop-zero rows) ∙ ap (λ (k : ℕ). take k rows) same

-- the next row in a run of these is before the last end
pub row_more : (ends : List ℕ) (row run : ℕ) → IsStrictlyIncreasing ends → run ≡ run_at ends row → run < length ends → row < last_end ends
row_more ends row run increasing here within =
    let inside : run_at ends row < length ends = rw here at within in
    let past = ends_past ends row inside in
    let most = le-last_end ends (run_at ends row) increasing inside in
    omega arith

-- one more whole run: where the rows go on to its end
module _ {B : Type 0} (ends : List ℕ) (values : List (Option B)) (row run : ℕ) (window : IsWindow ends 0 (last_end ends)) (here : run ≡ run_at ends row) (within : run < length ends) where
  more_rows : row < last_end ends
  more_rows = row_more ends row run window.increasing here within

  pub whole_run_past : row < slice_index ends run
  whole_run_past = run_past ends row run window more_rows here

  pub whole_run_next : run + 1 ≡ run_at ends (slice_index ends run)
  whole_run_next = run_next ends row run window more_rows here (run + 1) (slice_index ends run) whole_run_past (omega arith) (λ e. refl) (λ n. absurd (n refl))

  pub rows_grown : (value : Option B) → length values ≡ length ends → slice_get values run ≡ Some value
      → take (slice_index ends run) (run_rows ends values 0 (last_end ends)) ≡ take row (run_rows ends values 0 (last_end ends)) ++ replicate (slice_index ends run - row) value
  rows_grown value paired is =
      let most = le-last_end ends run window.increasing within in
      let grown = range_grown ends values 0 row run (slice_index ends run) value window paired (omega arith) whole_run_past most here (omega arith) is in
      sym (from_first (run_rows ends values 0 (last_end ends)) (slice_index ends run)) ∙ grown
      ∙ ap (λ (xs : List (Option B)). xs ++ replicate (slice_index ends run - row) value) (from_first (run_rows ends values 0 (last_end ends)) row)
