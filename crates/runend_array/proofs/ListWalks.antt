-- Rows that are written along the runs, each run once.
use Rattle.std.proofs.Common.{◌≡◌, ℕ, ◌+◌, ◌-◌, ◌<◌, ◌≤◌, IsTrue, List, [], ◌++◌, Some, false, length, map, min, replicate, slice_index, refl, sym, subst, ◌∙◌, ap, arith, inl, inr, length-append}
use Rattle.std.proofs.lemmas.Bool.{cases_lt}
use Rattle.std.proofs.lemmas.List.{length-replicate}
use Rattle.std.proofs.lemmas.List.FromFn.{length-map-range_with_len}
use Rattle.std.proofs.lemmas.Option.{slice_get-get_or}
use Rattle.std.specs.List.{slice_get, range_with_len}
use Rattle.std.specs.List.Sorted.{IsStrictlyIncreasing}
use Rattle.std.specs.Prelude.{get_or, slice_index_or, slice_range}
use Rattle.column_base.proofs.Ranges.{length-slice_range, get_or-slice_range}
use Rattle.runend_windows.specs.Window.{IsWindow, run_at}
use Rattle.runend_windows.proofs.Lists.{equal_by_slice_get, slice_get-append, slice_get-append_copies, slice_get-replicate}
use Rattle.runend_windows.proofs.Places.{run_at-beyond}
use Rattle.runend_windows.proofs.RunAt.{ends_past, run_at-le, run_at-le-length, run_at-le-run_at, run_of_row_within}
use Rattle.runend_array.specs.Column.{Column, OfLeaf, OfConstant, OfLists, OfRuns, IsPlainIndex, end_numbers, index_of, leaf_ends}
use Rattle.column_base.specs.ValidityForm.{NeverNull, NoneNull, AllNull, ByBits}
use Rattle.runend_array.specs.Lists.{ByRows, ByRuns, Index, IsFlagRunUpTo, IsRunUpTo, IsWithinElements, Lists, PlainIndex, RowValidityForm, RunIndex, flag_stop, index_at, index_count, index_stop, row_flag_at, run_stop}
use Rattle.runend_array.proofs.ListSlice.{slice_get-made_from}

-- the rows from `start` on that the runs before `run` show, of `count` at most, where `shown` is what a run shows: the
-- row after them is in no run before
pub record Walked {X : Type 0} (shown : ℕ → X) (ends : List ℕ) (offset start count run : ℕ) (rows : List X) : Type 0 where
  pub short : length rows ≤ count
  pub next : length rows < count → run ≤ run_at ends (offset + (start + length rows))
  pub each : (i : ℕ) → i < length rows → slice_get rows i ≡ Some (shown (run_at ends (offset + (start + i))))

-- before the run of the first row there is none
pub Walked-none : {X : Type 0} (shown : ℕ → X) (ends : List ℕ) (offset start count run : ℕ) (rows : List X) → rows ≡ [] → run ≡ run_at ends (offset + start)
    → Walked shown ends offset start count run rows
Walked-none shown ends offset start count run rows none first = rw none (record {
  short = omega arith;
  next = λ h. rw first (run_at-le-run_at ends (offset + start) (offset + (start + 0)) (omega arith));
  each = λ i h. absurd (omega arith);
})

-- the next run shows its value up to where it ends
pub Walked-next : {X : Type 0} (shown : ℕ → X) (ends : List ℕ) (offset start count run : ℕ) (rows more : List X) (value : X) (copies : ℕ) → IsStrictlyIncreasing ends
    → run < length ends → value ≡ shown run → copies ≡ min (slice_index ends run - (offset + start)) count - length rows → more ≡ rows ++ replicate copies value
    → Walked shown ends offset start count run rows → Walked shown ends offset start count (run + 1) more
Walked-next shown ends offset start count run rows more value copies increasing within is copied made walked =
    let long : length more ≡ length rows + copies = ap length made ∙ length-append rows (replicate copies value) ∙ ap (λ (n : ℕ). length rows + n) (length-replicate copies value) in
    let short = walked.short in
    record {
      short = omega arith;
      next = λ h. run_at-beyond ends (offset + (start + length more)) run increasing within (omega arith);
      each = λ i h. elim (cases_lt i (length rows)) [
        | inl before ↦ ap (λ xs. slice_get xs i) made ∙ slice_get-append rows (replicate copies value) i before ∙ walked.each i before
        | inr from ↦
            let low = walked.next (omega arith) in
            let later = run_at-le-run_at ends (offset + (start + length rows)) (offset + (start + i)) (omega arith) in
            let high = run_at-le ends (offset + (start + i)) run within (omega arith) in
            let here : run ≡ run_at ends (offset + (start + i)) = omega arith in
            ap (λ xs. slice_get xs i) made ∙ slice_get-append_copies rows copies i value from (omega arith) ∙ ap Some (is ∙ ap shown here)
      ];
    }

-- past the run of the last row they are all there
pub Walked-all : {X : Type 0} (shown : ℕ → X) (ends : List ℕ) (offset start stop run : ℕ) (rows : List X) → start ≤ stop
    → (start < stop → run_at ends (offset + stop - 1) < run) → Walked shown ends offset start (stop - start) run rows
    → rows ≡ map (λ (row : ℕ). shown (run_at ends (offset + row))) (range_with_len start (stop - start))
Walked-all shown ends offset start stop run rows ordered past walked =
    let short = walked.short in
    let long : length rows ≡ stop - start = elim (cases_lt (length rows) (stop - start)) [
      | inl less ↦
          let low = walked.next less in
          let later = run_at-le-run_at ends (offset + (start + length rows)) (offset + stop - 1) (omega arith) in
          let last = past (omega arith) in
          absurd (omega arith)
      | inr same ↦ omega arith
    ] in
    equal_by_slice_get rows (map (λ (row : ℕ). shown (run_at ends (offset + row))) (range_with_len start (stop - start)))
    (long ∙ sym (length-map-range_with_len (λ (row : ℕ). shown (run_at ends (offset + row))) start (stop - start)))
    (λ i h. walked.each i h ∙ sym (slice_get-made_from (λ (row : ℕ). shown (run_at ends (offset + row))) start (stop - start) i (omega arith)))

-- a range of items, each read at its place
pub slice_range-read : {X : Type 0} (items : List X) (default : X) (start stop : ℕ) → start ≤ stop → stop ≤ length items
    → slice_range items start stop ≡ map (λ (row : ℕ). get_or items row default) (range_with_len start (stop - start))
slice_range-read items default start stop ordered within =
    let long = length-slice_range items start stop ordered within in
    equal_by_slice_get (slice_range items start stop) (map (λ (row : ℕ). get_or items row default) (range_with_len start (stop - start)))
    (long ∙ sym (length-map-range_with_len (λ (row : ℕ). get_or items row default) start (stop - start)))
    (λ i h.
    let there : i < stop - start = omega arith in
    slice_get-get_or (slice_range items start stop) i default h ∙ ap Some (get_or-slice_range items start stop i default there)
    ∙ sym (slice_get-made_from (λ (row : ℕ). get_or items row default) start (stop - start) i there))

-- copies of what each row shows
pub replicate-read : {X : Type 0} (f : ℕ → X) (value : X) (start count : ℕ) → ((row : ℕ) → f row ≡ value) → replicate count value ≡ map f (range_with_len start count)
replicate-read f value start count same =
    let long = length-replicate count value in
    equal_by_slice_get (replicate count value) (map f (range_with_len start count)) (long ∙ sym (length-map-range_with_len f start count)) (λ i h.
    let there : i < count = omega arith in
    slice_get-replicate count i value there ∙ ap Some (sym (same (start + i))) ∙ sym (slice_get-made_from f start count i there))

-- from the first row on
pub made-all : {X : Type 0} (f : ℕ → X) (n : ℕ) → map f (range_with_len 0 (n - 0)) ≡ map f (range_with_len 0 n)
made-all f n =
    let same : n - 0 ≡ n = omega arith in
    ap (λ (k : ℕ). map f (range_with_len 0 k)) same

-- a range of the numbers of a flat column
pub plain_numbers : (c : Column) (start stop : ℕ) → IsPlainIndex c → start ≤ stop → stop ≤ index_count (index_of c)
    → slice_range (end_numbers c) start stop ≡ map (index_at (index_of c)) (range_with_len start (stop - start))
plain_numbers (OfLeaf leaf) start stop plain ordered within = slice_range-read (leaf_ends leaf) 0 start stop ordered within
plain_numbers (OfConstant constant) start stop plain ordered within = absurd plain
plain_numbers (OfLists lists) start stop plain ordered within = absurd plain
plain_numbers (OfRuns ends_type ends values offset count) start stop plain ordered within = absurd plain

-- at the first run the search for any row may start, and where it may for a row, it may for a later one
pub first_run-up_to : (index : Index) (i : ℕ) → IsRunUpTo index 0 i
first_run-up_to (PlainIndex numbers) i = tt
first_run-up_to (RunIndex ends_type ends numbers offset count) i = omega arith

pub run-up_to_later : (index : Index) (run i j : ℕ) → i ≤ j → IsRunUpTo index run i → IsRunUpTo index run j
run-up_to_later (PlainIndex numbers) run i j order before = tt
run-up_to_later (RunIndex ends_type ends numbers offset count) run i j order before =
    let later = run_at-le-run_at ends (offset + i) (offset + j) (omega arith) in
    omega arith

pub first_run-up_to_flag : (form : RowValidityForm) (i : ℕ) → IsFlagRunUpTo form 0 i
first_run-up_to_flag (ByRows form) i = tt
first_run-up_to_flag (ByRuns ends_type ends bits offset count) i = omega arith

pub run-up_to_later_flag : (form : RowValidityForm) (run i j : ℕ) → i ≤ j → IsFlagRunUpTo form run i → IsFlagRunUpTo form run j
run-up_to_later_flag (ByRows form) run i j order before = tt
run-up_to_later_flag (ByRuns ends_type ends bits offset count) run i j order before =
    let later = run_at-le-run_at ends (offset + i) (offset + j) (omega arith) in
    omega arith

-- how many rows of a window the runs up to that of a row reach is where the rows of this run end
pub run_stop-reached : (ends : List ℕ) (offset count i run reach : ℕ) → run ≡ run_at ends (offset + i) → reach ≡ min (slice_index ends run - (offset + 0)) (count - 0)
    → reach ≡ run_stop ends offset count i
run_stop-reached ends offset count i run reach found reached =
    let end = ap (slice_index ends) found in
    omega (arith, reached, end)

-- and that is past the row
pub run_stop-past : (ends : List ℕ) (offset count i : ℕ) → IsWindow ends offset count → i < count → i < run_stop ends offset count i
run_stop-past ends offset count i window within =
    let past = ends_past ends (offset + i) (run_of_row_within ends offset count i window within) in
    omega (arith, past)

-- up to where the run of a row ends, the rows from it on are in this run
run_at-stays : (ends : List ℕ) (offset count i k : ℕ) → i ≤ k → k < run_stop ends offset count i → run_at ends (offset + k) ≡ run_at ends (offset + i)
run_at-stays ends offset count i k from below =
    let later = run_at-le-run_at ends (offset + i) (offset + k) (omega arith) in
    elim (cases_lt (run_at ends (offset + i)) (length ends)) [
      | inl within ↦
          let past = run_at-le ends (offset + k) (run_at ends (offset + i)) within (omega arith) in
          omega arith
      | inr none ↦
          let most = run_at-le-length ends (offset + k) in
          omega arith
    ]

-- up to where the stretch of a row ends, the rows from it on have its number
index_at-stays : (index : Index) (i k : ℕ) → i ≤ k → k < index_stop index i → index_at index k ≡ index_at index i
index_at-stays (PlainIndex numbers) i k from below =
    let same : k ≡ i = omega arith in
    ap (slice_index numbers) same
index_at-stays (RunIndex ends_type ends numbers offset count) i k from below = ap (slice_index numbers) (run_at-stays ends offset count i k from below)

-- and its flag
row_flag_at-stays : (form : RowValidityForm) (rows i k : ℕ) → i ≤ k → k < flag_stop form rows i → row_flag_at form k ≡ row_flag_at form i
row_flag_at-stays (ByRows NeverNull) rows i k from below = refl
row_flag_at-stays (ByRows NoneNull) rows i k from below = refl
row_flag_at-stays (ByRows AllNull) rows i k from below = refl
row_flag_at-stays (ByRows (ByBits bits)) rows i k from below =
    let same : k ≡ i = omega arith in
    ap (λ (n : ℕ). slice_index_or bits n false) same
row_flag_at-stays (ByRuns ends_type ends bits offset count) rows i k from below =
    ap (λ (n : ℕ). slice_index_or bits n false) (run_at-stays ends offset count i k from below)

-- where the valid rows before one lie within the elements, and so does that one if it is valid, so do those before the
-- nearest end of its three stretches
pub within-stretch : (lists : Lists) (rows i : ℕ) → ((k : ℕ) → k < i → IsTrue (row_flag_at lists.validity k) → IsWithinElements lists k)
    → (IsTrue (row_flag_at lists.validity i) → IsWithinElements lists i) → (k : ℕ) → k < min (min (flag_stop lists.validity rows i) (index_stop lists.offsets i)) (index_stop lists.sizes i)
    → IsTrue (row_flag_at lists.validity k) → IsWithinElements lists k
within-stretch lists rows i before here k below valid = elim (cases_lt k i) [
  | inl less ↦ before k less valid
  | inr from ↦
      let flag = row_flag_at-stays lists.validity rows i k from (omega arith) in
      let offset = index_at-stays lists.offsets i k from (omega arith) in
      let size = index_at-stays lists.sizes i k from (omega arith) in
      let first = here (subst IsTrue flag valid) in
      omega (arith, offset, size, first)
]
