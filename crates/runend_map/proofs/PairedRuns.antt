-- Two windows of runs walked along together: how far the answers are written, and the runs that the next row is in.
use Rattle.std.proofs.Common.{◌≡◌, ◌≢◌, ℕ, zero, suc, ◌+◌, ◌-◌, ◌<◌, ◌≤◌, List, [], ◌∷◌, ◌++◌, Bool, false, Option, Some, None, length, min, map, take, replicate, slice_index, get_or, refl, sym, subst, ◌∙◌, ap, arith, inl, inr, add-zero, append-nil, append_assoc}
use Rattle.std.specs.Prelude.{IsSome, is_some, unwrap_or, option_map, slice_get}
use Rattle.std.proofs.lemmas.Bool.{cases_lt}
use Rattle.std.proofs.lemmas.List.FromFn.{get_or-map-range_with_len}
use Rattle.std.proofs.lemmas.Option.{slice_get-get_or, slice_get_within}
use Rattle.std.specs.List.Sorted.{IsStrictlyIncreasing}
use Rattle.column_base.specs.declared.dtype.Nullability.{Nullability}
use Rattle.column_base.specs.declared.dtype.Nullability.TheVariants.{NonNullable}
use Rattle.column_core.specs.Value.{Value}
use Rattle.column_ops.specs.Comparing.{compare_rows, compared}
use Rattle.column_ops.specs.declared.operator.CompareOperator.{CompareOperator}
use Rattle.column_ops.proofs.RowRanges.{get_or-read}
use Rattle.column_ops.proofs.WrittenTruths.{AreWritten, AreWritten-more, AreWritten-none, compare_rows-at, truth_value}
use Rattle.runend_encode.specs.Joined.{AllHaveRows}
use Rattle.runend_windows.specs.Window.{IsWindow, run_at, run_rows}
use Rattle.runend_windows.proofs.RunAt.{ended_before, ends_past, run_at-le, run_at-le-length, run_at-le-run_at, run_at_is, run_of_row_within}
use Rattle.runend_windows.proofs.RunRows.{length-run_rows}

-- where each run shows a row, the first row is in the first run
pub first_run : (ends : List ℕ) (offset count : ℕ) → AllHaveRows ends offset count → run_at ends offset ≡ 0
first_run [] offset count shown = refl
first_run (end ∷ ends) offset count shown =
    let first = shown 0 (omega arith) in
    let holds = first.holds in
    let least = run_at-le-run_at (end ∷ ends) offset (offset + first.row) (omega arith) in
    omega arith

-- rows up to the end of a run stay in it
run_stays : (ends : List ℕ) (offset row later : ℕ) → row ≤ later → run_at ends (offset + row) < length ends → offset + later < slice_index ends (run_at ends (offset + row))
    → run_at ends (offset + later) ≡ run_at ends (offset + row)
run_stays ends offset row later after within before =
    let least = run_at-le-run_at ends (offset + row) (offset + later) (omega arith) in
    let most = run_at-le ends (offset + later) (run_at ends (offset + row)) within before in
    omega arith

-- and its end is in the next
run_ends : (ends : List ℕ) (position end : ℕ) → IsStrictlyIncreasing ends → position < end → run_at ends position < length ends → slice_index ends (run_at ends position) ≡ end
    → run_at ends end ≡ run_at ends position + 1
run_ends ends position end increasing after within is =
    run_at_is ends end (run_at ends position + 1) (omega arith)
    (λ k h. elim (cases_lt k (run_at ends position)) [
      | inl before ↦ let ended = ended_before ends position k before in omega arith
      | inr last ↦ let same : k ≡ run_at ends position = omega arith in rw same (omega arith)
    ])
    (λ h. let order = increasing (run_at ends position) h in omega arith)

-- the run of the row after a stretch: the next one where the run stops there
abbrev pub IsRunAfter : ℕ → ℕ → ℕ → ℕ → Type 0
IsRunAfter run stop end next = (stop ≡ end → next ≡ run + 1) × ((stop ≡ end → ⊥) → next ≡ run)

module _ (ends : List ℕ) (offset count row run end : ℕ) (window : IsWindow ends offset count) (more : row < count) (here : run ≡ run_at ends (offset + row)) where
  -- the run of a row is one of the runs
  pub run_there : run < length ends
  run_there = rw here (run_of_row_within ends offset count row window more)

  -- and stops past the row
  pub run_past : row < slice_index ends run - offset
  run_past =
      let inside = run_of_row_within ends offset count row window more in
      let past : offset + row < slice_index ends run = rw here (ends_past ends (offset + row) inside) in
      omega arith

  module _ (within : end ≤ slice_index ends run - offset) where
    -- rows of a stretch are in one run
    pub one_run : (k : ℕ) → row ≤ k → k < end → run_at ends (offset + k) ≡ run
    one_run k from before =
        let inside = run_there in
        let stays = run_stays ends offset row k from (rw (← here) inside) (rw (← here) (omega arith)) in
        stays ∙ sym here

    -- and so show one value
    pub one_value : (values : List (Option Value)) (value : Option Value) → end ≤ count → slice_get values run ≡ Some value → (k : ℕ) → row ≤ k → k < end
        → slice_get (run_rows ends values offset count) k ≡ Some value
    one_value values value short is k from before =
        let long = length-run_rows ends values offset count in
        slice_get-get_or (run_rows ends values offset count) k None (omega arith)
        ∙ ap Some (get_or-map-range_with_len _ offset count k (offset + k) None (omega arith) refl
        ∙ ap (λ r. get_or values r None) (one_run k from before) ∙ get_or-read values run value None is)

    -- the run of the row after it
    pub run_behind : (next : ℕ) → row < end → IsRunAfter run (slice_index ends run - offset) end next → next ≡ run_at ends (offset + end)
    run_behind next later after =
        let inside = run_there in
        let past = run_past in
        elim (cases_lt end (slice_index ends run - offset)) [
          | inl short ↦
              let stays = run_stays ends offset row end (omega arith) (rw (← here) inside) (rw (← here) (omega arith)) in
              after.1 (λ e. omega arith) ∙ here ∙ sym stays
          | inr full ↦
              let same = after.0 (omega arith) in
              let ended = run_ends ends (offset + row) (offset + end) window.increasing (omega arith) (rw (← here) inside) (rw (← here) (omega arith)) in
              same ∙ ap (λ (k : ℕ). k + 1) here ∙ sym ended
        ]

-- copies of an answer are written after the others
AreWritten-copies : (nullability : Nullability) (all : List (Option Value)) (row : ℕ) (bits flags : List Bool) (truth : Option Bool) (answer : Option Value) (n : ℕ)
    → ((k : ℕ) → row ≤ k → k < row + n → slice_get all k ≡ Some answer) → option_map truth_value truth ≡ answer → (nullability ≡ NonNullable → IsSome answer)
    → AreWritten nullability (take row all) bits flags
    → AreWritten nullability (take (row + n) all) (bits ++ replicate n (unwrap_or truth false)) (flags ++ replicate n (is_some truth))
AreWritten-copies nullability all row bits flags truth answer zero here says some written =
    rw (add-zero row, append-nil bits, append-nil flags) written
AreWritten-copies nullability all row bits flags truth answer (suc n) here says some written =
    let bit = unwrap_or truth false in
    let flag = is_some truth in
    let place : row + 1 + n ≡ row + suc n = omega arith in
    let one = AreWritten-more nullability all row bits flags truth answer (here row (omega arith) (omega arith)) says some written in
    let rest = AreWritten-copies nullability all (row + 1) (bits ++ bit ∷ []) (flags ++ flag ∷ []) truth answer n (λ k from before. here k (omega arith) (omega arith)) says some one in
    rw (place, append_assoc bits (bit ∷ []) (replicate n bit), append_assoc flags (flag ∷ []) (replicate n flag)) at rest

-- the answers before a row are written, and the row is in these runs
pub record IsPaired (nullability : Nullability) (all : List (Option Value)) (left : List ℕ) (left_offset : ℕ) (right : List ℕ) (right_offset count row left_run right_run : ℕ) (bits flags : List Bool) : Type 0 where
  pub within : row ≤ count
  pub at_left : left_run ≡ run_at left (left_offset + row)
  pub at_right : right_run ≡ run_at right (right_offset + row)
  pub written : AreWritten nullability (take row all) bits flags

-- before the first row nothing is written, and the first row is in the first runs
pub IsPaired-none : (nullability : Nullability) (all : List (Option Value)) (left : List ℕ) (left_offset : ℕ) (right : List ℕ) (right_offset count : ℕ) → run_at left left_offset ≡ 0 → run_at right right_offset ≡ 0
    → IsPaired nullability all left left_offset right right_offset count 0 0 0 [] []
IsPaired-none nullability all left left_offset right right_offset count left_first right_first = record {
  within = omega arith;
  at_left = rw (add-zero left_offset) (sym left_first);
  at_right = rw (add-zero right_offset) (sym right_first);
  written = AreWritten-none nullability all;
}

-- a stretch of rows in one run of either column is answered at once
pub IsPaired-next : (nullability : Nullability) (operator : CompareOperator) (left : List ℕ) (left_values : List (Option Value)) (left_offset : ℕ) (right : List ℕ) (right_values : List (Option Value))
    (right_offset count row left_run right_run end left_next right_next : ℕ) (bits flags : List Bool) (truth : Option Bool) (one other : Option Value)
    → IsWindow left left_offset count → IsWindow right right_offset count → row < count
    → end ≡ min (min (slice_index left left_run - left_offset) (slice_index right right_run - right_offset)) count
    → slice_get left_values left_run ≡ Some one → slice_get right_values right_run ≡ Some other
    → option_map truth_value truth ≡ compared operator one other → (nullability ≡ NonNullable → IsSome (compared operator one other))
    → IsRunAfter left_run (slice_index left left_run - left_offset) end left_next → IsRunAfter right_run (slice_index right right_run - right_offset) end right_next
    → IsPaired nullability (compare_rows operator (run_rows left left_values left_offset count) (run_rows right right_values right_offset count)) left left_offset right right_offset count row left_run right_run bits flags
    → IsPaired nullability (compare_rows operator (run_rows left left_values left_offset count) (run_rows right right_values right_offset count)) left left_offset right right_offset count end left_next right_next
    (bits ++ replicate (end - row) (unwrap_or truth false)) (flags ++ replicate (end - row) (is_some truth))
IsPaired-next nullability operator left left_values left_offset right right_values right_offset count row left_run right_run end left_next right_next bits flags truth one other
    left_window right_window more is left_is right_is says some left_after right_after paired =
    let lefts = run_rows left left_values left_offset count in
    let rights = run_rows right right_values right_offset count in
    let left_past = run_past left left_offset count row left_run end left_window more paired.at_left in
    let right_past = run_past right right_offset count row right_run end right_window more paired.at_right in
    let later : row < end = omega arith in
    let left_inside : end ≤ slice_index left left_run - left_offset = omega arith in
    let right_inside : end ≤ slice_index right right_run - right_offset = omega arith in
    let short : end ≤ count = omega arith in
    let all : row + (end - row) ≡ end = omega arith in
    record {
      within = short;
      at_left = run_behind left left_offset count row left_run end left_window more paired.at_left left_inside left_next later left_after;
      at_right = run_behind right right_offset count row right_run end right_window more paired.at_right right_inside right_next later right_after;
      written = rw all at (AreWritten-copies nullability (compare_rows operator lefts rights) row bits flags truth (compared operator one other) (end - row)
          (λ k from before. compare_rows-at operator lefts rights k one other
          (one_value left left_offset count row left_run end left_window more paired.at_left left_inside left_values one short left_is k from (omega arith))
          (one_value right right_offset count row right_run end right_window more paired.at_right right_inside right_values other short right_is k from (omega arith)))
          says some paired.written);
    }
