-- The theorem on sums of runs: a loop that adds each valid run at once, up to the first that leaves the range,
-- answers the sum of the rows, added one at a time.
use Rattle.std.proofs.Common.{◌≡◌, ◌∙◌, ℕ, zero, suc, ◌+◌, ◌<◌, ◌≤◌, ℤ, pos, ◌+ℤ◌, ◌*ℤ◌, ◌&&◌, Bool, true, false, Option, Some, None, List, [], ◌∷◌, ◌++◌, length, drop, refl, sym, ap, arith, append_assoc, length-append}
use Rattle.std.specs.Prelude.{replicate, slice_get, if◌then◌else◌, option_map}
use Rattle.std.specs.List.{list_all}
use Rattle.std.proofs.lemmas.Int.{ints}
use Rattle.std.proofs.Math.IntN.{*ℤ-zero, +ℤ_idr}
use Rattle.column_sums.specs.SumRange.{SumRange, is_within}
use Rattle.column_sums.specs.RowSum.{partial_sums, last_after, sum_from, sum_of_rows, are_null}
use Rattle.column_sums.specs.RunSum.{rows_of_runs, valid_runs, through_first_leaving, calls_of}
use Rattle.column_sums.specs.SumState.{IsCounted, SumState}
use Rattle.column_sums.specs.Summed.{IsSummed, IsSumOfRuns}
use Rattle.column_sums.specs.SumAnswer.{value_in, answer_of}
use Rattle.column_sums.specs.declared.answer.SumAnswer.{SumAnswer}
use Rattle.column_sums.proofs.Within.{times-suc, is_within-first, is_within-zero}

-- one row more, whose sum is in the range
sum_from-within : (range : SumRange) (sum n : ℤ) (rows : List (Option ℤ)) → is_within range (sum +ℤ n) ≡ true
    → sum_from range sum (Some n ∷ rows) ≡ sum_from range (sum +ℤ n) rows
sum_from-within range sum n rows h =
    ap (λ (b : Bool). if b && list_all (is_within range) (partial_sums (sum +ℤ n) rows) then Some (last_after (sum +ℤ n) (partial_sums (sum +ℤ n) rows)) else None) h

-- one row more, whose sum is not
sum_from-leaving : (range : SumRange) (sum n : ℤ) (rows : List (Option ℤ)) → is_within range (sum +ℤ n) ≡ false → sum_from range sum (Some n ∷ rows) ≡ None
sum_from-leaving range sum n rows h =
    ap (λ (b : Bool). if b && list_all (is_within range) (partial_sums (sum +ℤ n) rows) then Some (last_after (sum +ℤ n) (partial_sums (sum +ℤ n) rows)) else None) h

no_times : (sum n : ℤ) → sum +ℤ n *ℤ pos zero ≡ sum
no_times sum n = rw (*ℤ-zero n) (+ℤ_idr sum)

one_more : (sum n : ℤ) (count : ℕ) → (sum +ℤ n) +ℤ n *ℤ pos count ≡ sum +ℤ n *ℤ pos (suc count)
one_more sum n count = omega (arith, ints, times-suc n count)

-- the rows of a valid run, where the sum at its end is in the range
pub sum_from-run : (range : SumRange) (sum n : ℤ) (count : ℕ) (rows : List (Option ℤ)) → is_within range sum ≡ true → is_within range (sum +ℤ n *ℤ pos count) ≡ true
    → sum_from range sum (replicate count (Some n) ++ rows) ≡ sum_from range (sum +ℤ n *ℤ pos count) rows
sum_from-run range sum n zero rows f g = ap (λ (s : ℤ). sum_from range s rows) (sym (no_times sum n))
sum_from-run range sum n (suc count) rows f g =
    let first = is_within-first range sum n count f g in
    let last : is_within range ((sum +ℤ n) +ℤ n *ℤ pos count) ≡ true = ap (is_within range) (one_more sum n count) ∙ g in
    sum_from-within range sum n (replicate count (Some n) ++ rows) first ∙ sum_from-run range (sum +ℤ n) n count rows first last
    ∙ ap (λ (s : ℤ). sum_from range s rows) (one_more sum n count)

-- the rows of a valid run, where the sum at its end is not
pub sum_from-run_leaving : (range : SumRange) (sum n : ℤ) (count : ℕ) (rows : List (Option ℤ)) → is_within range sum ≡ true → is_within range (sum +ℤ n *ℤ pos count) ≡ false
    → sum_from range sum (replicate count (Some n) ++ rows) ≡ None
sum_from-run_leaving range sum n zero rows f g =
    let inside : true ≡ false = sym f ∙ ap (is_within range) (sym (no_times sum n)) ∙ g in cc
sum_from-run_leaving range sum n (suc count) rows f g =
    elim (is_within range (sum +ℤ n)) as (λ b. is_within range (sum +ℤ n) ≡ b → sum_from range sum (replicate (suc count) (Some n) ++ rows) ≡ None) [
      | true ↦ λ first.
          sum_from-within range sum n (replicate count (Some n) ++ rows) first
          ∙ sum_from-run_leaving range (sum +ℤ n) n count rows first (ap (is_within range) (one_more sum n count) ∙ g)
      | false ↦ λ first. sum_from-leaving range sum n (replicate count (Some n) ++ rows) first
    ] refl

-- the rows of a null run
pub sum_from-null_run : (range : SumRange) (sum : ℤ) (count : ℕ) (rows : List (Option ℤ)) → sum_from range sum (replicate count None ++ rows) ≡ sum_from range sum rows
sum_from-null_run range sum zero rows = refl
sum_from-null_run range sum (suc count) rows = sum_from-null_run range sum count rows

-- rows of a null run are null
are_null-null_run : (count : ℕ) (rows : List (Option ℤ)) → are_null (replicate count None ++ rows) ≡ are_null rows
are_null-null_run zero rows = refl
are_null-null_run (suc count) rows = are_null-null_run count rows

-- rows of a valid run are not
are_null-valid_run : (n : ℤ) (count : ℕ) (rows : List (Option ℤ)) → 0 < count → are_null (replicate count (Some n) ++ rows) ≡ false
are_null-valid_run n zero rows h = absurd (omega arith)
are_null-valid_run n (suc count) rows h = refl

-- the runs from one on
pub drop-at : {X : Type 0} (xs : List X) (k : ℕ) (x : X) → slice_get xs k ≡ Some x → drop k xs ≡ x ∷ drop (k + 1) xs
drop-at [] k x h = cc
drop-at (y ∷ xs) zero x h = let e : y ≡ x = cc in ap (λ z. z ∷ xs) e
drop-at (y ∷ xs) (suc k) x h =
    let rest : drop k xs ≡ x ∷ drop (k + 1) xs = drop-at xs k x h in
    let next : suc k + 1 ≡ suc (k + 1) = omega arith in rw next rest

drop-past : {X : Type 0} (xs : List X) (k : ℕ) → length xs ≤ k → drop k xs ≡ []
drop-past [] zero h = refl
drop-past [] (suc k) h = refl
drop-past (y ∷ xs) zero h = absurd (omega arith)
drop-past (y ∷ xs) (suc k) h = drop-past xs k (omega arith)

pub all_or : (b : Bool) → (b && true) ≡ b
all_or true = refl
all_or false = refl

pub none_after : (b : Bool) → (b && false) ≡ false
none_after true = refl
none_after false = refl

-- no run was summed yet
pub begun : (range : SumRange) (runs : List (Option ℤ × ℕ)) (sum : SumState) → sum.value ≡ pos 0 → IsSummed range sum.calls runs 0 sum true
begun range runs sum zeroth = record {
  within = ap (is_within range) zeroth ∙ is_within-zero range;
  value = ap (λ (s : ℤ). sum_from range s (rows_of_runs runs)) zeroth;
  calls = ap (λ (s : ℤ). sum.calls ++ through_first_leaving range s (valid_runs runs)) zeroth;
  empty = refl;
}

-- a null run adds nothing, and asks for no call
pub null_run : (range : SumRange) (before : List (ℤ × ℕ)) (runs : List (Option ℤ × ℕ)) (run count : ℕ) (sum : SumState) (is_empty : Bool)
    → slice_get runs run ≡ Some (None, count) → IsSummed range before runs run sum is_empty → IsSummed range before runs (run + 1) sum is_empty
null_run range before runs run count sum is_empty at summed =
    let rest = drop (run + 1) runs in
    let here : drop run runs ≡ (None, count) ∷ rest = drop-at runs run (None, count) at in
    record {
      within = summed.within;
      value = sym (ap (λ (rs : List (Option ℤ × ℕ)). sum_from range sum.value (rows_of_runs rs)) here ∙ sum_from-null_run range sum.value count (rows_of_runs rest)) ∙ summed.value;
      calls = sym (ap (λ (rs : List (Option ℤ × ℕ)). sum.calls ++ through_first_leaving range sum.value (valid_runs rs)) here) ∙ summed.calls;
      empty = sym (ap (λ (rs : List (Option ℤ × ℕ)). is_empty && are_null (rows_of_runs rs)) here ∙ ap (λ (b : Bool). is_empty && b) (are_null-null_run count (rows_of_runs rest))) ∙ summed.empty;
    }

-- the calls from a valid run on
calls-at : (range : SumRange) (sum n : ℤ) (count : ℕ) (runs : List (Option ℤ × ℕ)) (run : ℕ) → slice_get runs run ≡ Some (Some n, count)
    → through_first_leaving range sum (valid_runs (drop run runs))
    ≡ (n, count) ∷ (if is_within range (sum +ℤ n *ℤ pos count) then through_first_leaving range (sum +ℤ n *ℤ pos count) (valid_runs (drop (run + 1) runs)) else [])
calls-at range sum n count runs run at =
    ap (λ (rs : List (Option ℤ × ℕ)). through_first_leaving range sum (valid_runs rs)) (drop-at runs run (Some n, count) at)

-- after a valid run some row is not null
empty-at : (n : ℤ) (count : ℕ) (runs : List (Option ℤ × ℕ)) (run : ℕ) (is_empty : Bool) → slice_get runs run ≡ Some (Some n, count) → 0 < count
    → (is_empty && are_null (rows_of_runs (drop run runs))) ≡ are_null (rows_of_runs runs) → false ≡ are_null (rows_of_runs runs)
empty-at n count runs run is_empty at shown empty =
    sym (ap (λ (rs : List (Option ℤ × ℕ)). is_empty && are_null (rows_of_runs rs)) (drop-at runs run (Some n, count) at)
    ∙ ap (λ (b : Bool). is_empty && b) (are_null-valid_run n count (rows_of_runs (drop (run + 1) runs)) shown) ∙ none_after is_empty) ∙ empty

-- a valid run whose sum is in the range is one call
pub valid_run : (range : SumRange) (before : List (ℤ × ℕ)) (runs : List (Option ℤ × ℕ)) (run : ℕ) (n : ℤ) (count : ℕ) (sum next : SumState) (is_empty : Bool)
    → slice_get runs run ≡ Some (Some n, count) → 0 < count → true ≡ is_within range (sum.value +ℤ n *ℤ pos count)
    → next.value ≡ sum.value +ℤ n *ℤ pos count → next.calls ≡ sum.calls ++ (n, count) ∷ []
    → IsSummed range before runs run sum is_empty → IsSummed range before runs (run + 1) next false
valid_run range before runs run n count sum next is_empty at shown inside added called summed =
    let fits : is_within range (sum.value +ℤ n *ℤ pos count) ≡ true = sym inside in
    let rest = drop (run + 1) runs in
    let end = sum.value +ℤ n *ℤ pos count in
    let here : drop run runs ≡ (Some n, count) ∷ rest = drop-at runs run (Some n, count) at in
    let calls : through_first_leaving range sum.value (valid_runs (drop run runs)) ≡ (n, count) ∷ through_first_leaving range end (valid_runs rest) =
    calls-at range sum.value n count runs run at ∙ ap (λ (b : Bool). (n, count) ∷ (if b then through_first_leaving range end (valid_runs rest) else [])) fits in
    record {
      within = ap (is_within range) added ∙ fits;
      value = ap (λ (s : ℤ). sum_from range s (rows_of_runs rest)) added
          ∙ sym (ap (λ (rs : List (Option ℤ × ℕ)). sum_from range sum.value (rows_of_runs rs)) here ∙ sum_from-run range sum.value n count (rows_of_runs rest) summed.within fits)
          ∙ summed.value;
      calls = ap (λ (s : ℤ). next.calls ++ through_first_leaving range s (valid_runs rest)) added
          ∙ ap (λ (cs : List (ℤ × ℕ)). cs ++ through_first_leaving range end (valid_runs rest)) called
          ∙ append_assoc sum.calls ((n, count) ∷ []) (through_first_leaving range end (valid_runs rest))
          ∙ ap (λ (cs : List (ℤ × ℕ)). sum.calls ++ cs) (sym calls) ∙ summed.calls;
      empty = empty-at n count runs run is_empty at shown summed.empty;
    }

-- at a valid run whose sum leaves the range the sum is null, and its call is the last
pub left : (range : SumRange) (before : List (ℤ × ℕ)) (runs : List (Option ℤ × ℕ)) (run : ℕ) (n : ℤ) (count : ℕ) (sum : SumState) (calls : List (ℤ × ℕ)) (is_empty : Bool)
    → slice_get runs run ≡ Some (Some n, count) → 0 < count → false ≡ is_within range (sum.value +ℤ n *ℤ pos count)
    → calls ≡ sum.calls ++ (n, count) ∷ [] → IsSummed range before runs run sum is_empty → IsSumOfRuns range before runs None calls false
left range before runs run n count sum calls is_empty at shown outside called summed =
    let leaves : is_within range (sum.value +ℤ n *ℤ pos count) ≡ false = sym outside in
    let rest = drop (run + 1) runs in
    let end = sum.value +ℤ n *ℤ pos count in
    let here : drop run runs ≡ (Some n, count) ∷ rest = drop-at runs run (Some n, count) at in
    let one : through_first_leaving range sum.value (valid_runs (drop run runs)) ≡ (n, count) ∷ [] =
    calls-at range sum.value n count runs run at ∙ ap (λ (b : Bool). (n, count) ∷ (if b then through_first_leaving range end (valid_runs rest) else [])) leaves in
    record {
      value = sym (ap (λ (rs : List (Option ℤ × ℕ)). sum_from range sum.value (rows_of_runs rs)) here
          ∙ sum_from-run_leaving range sum.value n count (rows_of_runs rest) summed.within leaves) ∙ summed.value;
      made = called ∙ ap (λ (cs : List (ℤ × ℕ)). sum.calls ++ cs) (sym one) ∙ summed.calls;
      empty = empty-at n count runs run is_empty at shown summed.empty;
    }

append-nil : {X : Type 0} (xs : List X) → xs ++ [] ≡ xs
append-nil [] = refl
append-nil (x ∷ xs) = ap (λ ys. x ∷ ys) (append-nil xs)

-- past the last run the sum is that of all rows
pub finished : (range : SumRange) (before : List (ℤ × ℕ)) (runs : List (Option ℤ × ℕ)) (run : ℕ) (sum : SumState) (is_empty : Bool)
    → length runs ≤ run → IsSummed range before runs run sum is_empty → IsSumOfRuns range before runs (Some sum.value) sum.calls is_empty
finished range before runs run sum is_empty past summed =
    let none : drop run runs ≡ [] = drop-past runs run past in
    record {
      value = sym (ap (λ (rs : List (Option ℤ × ℕ)). sum_from range sum.value (rows_of_runs rs)) none) ∙ summed.value;
      made = sym (append-nil sum.calls) ∙ sym (ap (λ (rs : List (Option ℤ × ℕ)). sum.calls ++ through_first_leaving range sum.value (valid_runs rs)) none) ∙ summed.calls;
      empty = sym (all_or is_empty) ∙ sym (ap (λ (rs : List (Option ℤ × ℕ)). is_empty && are_null (rows_of_runs rs)) none) ∙ summed.empty;
    }

-- the run of which value and number of rows were read
pub run-at : (runs : List (Option ℤ × ℕ)) (run : ℕ) (value : Option ℤ) (count : ℕ) → option_map (λ (r : Option ℤ × ℕ). r.0) (slice_get runs run) ≡ Some value
    → option_map (λ (r : Option ℤ × ℕ). r.1) (slice_get runs run) ≡ Some count → slice_get runs run ≡ Some (value, count)
run-at [] run value count v n = cc
run-at (r ∷ runs) zero value count v n = let a : r.0 ≡ value = cc in let b : r.1 ≡ count = cc in ap (λ x. Some (x, r.1)) a ∙ ap (λ k. Some (value, k)) b
run-at (r ∷ runs) (suc run) value count v n = run-at runs run value count v n

-- a run of which null was read
pub null_run-read : (range : SumRange) (before : List (ℤ × ℕ)) (runs : List (Option ℤ × ℕ)) (run : ℕ) (sum : SumState) (is_empty : Bool)
    → option_map (λ (r : Option ℤ × ℕ). r.0) (slice_get runs run) ≡ Some None → IsSummed range before runs run sum is_empty → IsSummed range before runs (run + 1) sum is_empty
null_run-read range before runs run sum is_empty read summed =
    elim (slice_get runs run) as (λ o. slice_get runs run ≡ o → option_map (λ (r : Option ℤ × ℕ). r.0) o ≡ Some None → IsSummed range before runs (run + 1) sum is_empty) [
      | None ↦ λ at null. absurd (cc)
      | Some r ↦ λ at null. let value : r.0 ≡ None = cc in null_run range before runs run r.1 sum is_empty (at ∙ ap (λ x. Some (x, r.1)) value) summed
    ] refl read

-- the answer of runs that were summed
pub answered : (range : SumRange) (before calls : List (ℤ × ℕ)) (runs : List (Option ℤ × ℕ)) (sum : Option ℤ) (is_empty : Bool) → IsSumOfRuns range before runs sum calls is_empty
    → (let answer : SumAnswer = record { sum = option_map (value_in range) sum; is_empty = is_empty } in answer ≡ answer_of range (rows_of_runs runs))
answered range before calls runs sum is_empty whole =
    let with_sum : Option ℤ → SumAnswer = λ s. record { sum = option_map (value_in range) s; is_empty = is_empty } in
    let with_flag : Bool → SumAnswer = λ b. record { sum = option_map (value_in range) (sum_of_rows range (rows_of_runs runs)); is_empty = b } in
    ap with_sum whole.value ∙ ap with_flag whole.empty

-- no more calls are made than there are valid runs
length-through_first_leaving : (range : SumRange) (sum : ℤ) (runs : List (ℤ × ℕ)) → length (through_first_leaving range sum runs) ≤ length runs
length-through_first_leaving range sum [] = omega arith
length-through_first_leaving range sum ((n, count) ∷ runs) =
    let next = sum +ℤ n *ℤ pos count in
    let rest : length (through_first_leaving range next runs) ≤ length runs = length-through_first_leaving range next runs in
    elim (is_within range next) as (λ b. suc (length (if b then through_first_leaving range next runs else [])) ≤ suc (length runs)) [
      | true ↦ omega arith
      | false ↦ omega arith
    ]

pub few_calls : (range : SumRange) (before calls : List (ℤ × ℕ)) (runs : List (Option ℤ × ℕ)) → calls ≡ before ++ calls_of range runs
    → length calls ≤ length before + length (valid_runs runs)
few_calls range before calls runs made =
    let counted : length calls ≡ length before + length (calls_of range runs) = ap length made ∙ length-append before (calls_of range runs) in
    omega (arith, length-through_first_leaving range (pos 0) (valid_runs runs))

-- an addition for a run that is listed is counted
pub counted_run : (old sum next : SumState) (n : ℤ) (count : ℕ) → next.calls ≡ sum.calls ++ (n, count) ∷ [] → next.additions ≡ sum.additions + 1 → IsCounted old sum → IsCounted old next
counted_run old sum next n count called added counted =
    let longer : length next.calls ≡ length sum.calls + 1 = ap length called ∙ length-append sum.calls ((n, count) ∷ []) in omega (arith, longer, added, counted)

-- no more is added than there are valid runs
pub few_additions : (runs : List (Option ℤ × ℕ)) (old new : SumState) → length new.calls ≤ length old.calls + length (valid_runs runs) → IsCounted old new
    → new.additions ≤ old.additions + length (valid_runs runs)
few_additions runs old new few counted = omega (arith, few, counted)
