-- A window of runs walked along: the run of the next row, and the rows that it shows.
use Rattle.std.proofs.Common.{◌≡◌, ℕ, ◌+◌, ◌-◌, ◌<◌, ◌≤◌, List, [], ◌∷◌, Option, Some, length, slice_index, refl, sym, ◌∙◌, ap, arith, inl, inr}
use Rattle.std.specs.Prelude.{slice_get}
use Rattle.std.proofs.lemmas.Bool.{cases_lt}
use Rattle.std.specs.List.Sorted.{IsStrictlyIncreasing}
use Rattle.runend_encode.specs.Joined.{AllHaveRows}
use Rattle.runend_windows.specs.Window.{IsWindow, run_at, run_rows}
use Rattle.runend_windows.proofs.RunAt.{ended_before, ends_past, run_at-le, run_at-le-run_at, run_at_is, run_of_row_within}
use Rattle.runend_windows.proofs.RunRows.{slice_get-run_rows_of_window}

-- where each run shows a row, the first row is in the first run
pub first_run : (ends : List ℕ) (offset count : ℕ) → AllHaveRows ends offset count → run_at ends offset ≡ 0
first_run [] offset count shown = refl
first_run (end ∷ ends) offset count shown =
    let first = shown 0 (omega arith) in
    let holds = first.holds in
    let least = run_at-le-run_at (end ∷ ends) offset (offset + first.row) (omega arith) in
    omega arith

-- the run of a later row that is before the end of a run is that run
same_run : (ends : List ℕ) (position later : ℕ) → position ≤ later → run_at ends position < length ends → later < slice_index ends (run_at ends position) → run_at ends later ≡ run_at ends position
same_run ends position later after within before =
    let least = run_at-le-run_at ends position later after in
    let most = run_at-le ends later (run_at ends position) within before in
    omega arith

-- where a run ends, the next one begins
next_run : (ends : List ℕ) (position end : ℕ) → IsStrictlyIncreasing ends → position < end → run_at ends position < length ends → slice_index ends (run_at ends position) ≡ end
    → run_at ends end ≡ run_at ends position + 1
next_run ends position end increasing after within is =
    run_at_is ends end (run_at ends position + 1) (omega arith)
    (λ k h. elim (cases_lt k (run_at ends position)) [
      | inl before ↦ let ended = ended_before ends position k before in omega arith
      | inr last ↦ let same : k ≡ run_at ends position = omega arith in rw same (omega arith)
    ])
    (λ h. let order = increasing (run_at ends position) h in omega arith)

-- the run of the row after a stretch: the next one where the run stops there
abbrev pub IsRunAfter : ℕ → ℕ → ℕ → ℕ → Type 0
IsRunAfter run stop end next = (stop ≡ end → next ≡ run + 1) × ((stop ≡ end → ⊥) → next ≡ run)

module _ (ends : List ℕ) (offset count row run : ℕ) (window : IsWindow ends offset count) (more : row < count) (here : run ≡ run_at ends (offset + row)) where
  -- the run of a row is one of the runs
  pub run_there : run < length ends
  run_there = rw here (run_of_row_within ends offset count row window more)

  -- and stops past the row
  pub run_past : row < slice_index ends run - offset
  run_past =
      let inside = run_of_row_within ends offset count row window more in
      let past : offset + row < slice_index ends run = rw here (ends_past ends (offset + row) inside) in
      omega arith

  module _ (end : ℕ) (within : end ≤ slice_index ends run - offset) where
    -- the rows of a stretch are in one run
    one_run : (k : ℕ) → row ≤ k → k < end → run_at ends (offset + k) ≡ run
    one_run k from before =
        let inside = run_there in
        same_run ends (offset + row) (offset + k) (omega arith) (rw (← here) inside) (rw (← here) (omega arith)) ∙ sym here

    -- and show its value
    pub one_value : {B : Type 0} (values : List (Option B)) (value : Option B) → length values ≡ length ends → end ≤ count → slice_get values run ≡ Some value → (k : ℕ) → row ≤ k → k < end
        → slice_get (run_rows ends values offset count) k ≡ Some value
    one_value values value paired short is k from before =
        slice_get-run_rows_of_window ends values offset count k window paired (omega arith) ∙ ap (slice_get values) (one_run k from before) ∙ is

    -- the run of the row after it
    pub run_next : (next : ℕ) → row < end → IsRunAfter run (slice_index ends run - offset) end next → next ≡ run_at ends (offset + end)
    run_next next later after =
        let inside = run_there in
        let past = run_past in
        elim (cases_lt end (slice_index ends run - offset)) [
          | inl short ↦
              let stays = same_run ends (offset + row) (offset + end) (omega arith) (rw (← here) inside) (rw (← here) (omega arith)) in
              after.1 (λ e. omega arith) ∙ here ∙ sym stays
          | inr full ↦
              let same = after.0 (omega arith) in
              let ended = next_run ends (offset + row) (offset + end) window.increasing (omega arith) (rw (← here) inside) (rw (← here) (omega arith)) in
              same ∙ ap (λ (k : ℕ). k + 1) here ∙ sym ended
        ]
