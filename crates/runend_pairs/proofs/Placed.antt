-- Two windows walked along together: the answers of a stretch of rows in which both stay in one run.
use Rattle.std.proofs.Common.{◌≡◌, ℕ, zero, suc, ◌+◌, ◌-◌, ◌<◌, ◌≤◌, List, [], ◌∷◌, Bool, true, Option, Some, None, length, min, replicate, slice_index, refl, sym, subst, ◌∙◌, ap, arith, inl, inr, add-zero}
use Rattle.std.specs.Prelude.{IsSome, is_some, slice_get}
use Rattle.std.proofs.lemmas.Bool.{cases_eq, cases_lt, false≢true}
use Rattle.column_base.specs.Types.{nullability_of}
use Rattle.column_base.specs.declared.dtype.DType.{DType}
use Rattle.column_core.specs.ScalarView.{sees, IsViewOf}
use Rattle.column_core.specs.Value.{FlatValue, Value}
use Rattle.column_core.specs.declared.view.ScalarView.{ScalarView}
use Rattle.column_ops.proofs.WrittenTruths.{some_view}
use Rattle.runend_windows.specs.Window.{IsWindow, run_at, run_rows}
use Rattle.runend_windows.proofs.RunRows.{length-run_rows}
use Rattle.runend_pairs.specs.Answers.{row_of, IsFound}
use Rattle.runend_pairs.specs.Operations.{IsNeverNull}
use Rattle.runend_pairs.specs.Zipped.{zip_rows, IsFirstWithout}
use Rattle.runend_pairs.proofs.Grown.{IsGrown, IsStretch}
use Rattle.runend_pairs.proofs.Walked.{IsRunAfter, one_value, run_next, run_past, run_there}

-- the answer at a row
pub zip_rows-at : {X : Type 0} (f : X → X → X) (lefts rights : List X) (k : ℕ) (left right : X) → slice_get lefts k ≡ Some left → slice_get rights k ≡ Some right
    → slice_get (zip_rows f lefts rights) k ≡ Some (f left right)
zip_rows-at f [] rights k left right h g = cc
zip_rows-at f (l ∷ lefts) [] k left right h g = cc
zip_rows-at f (l ∷ lefts) (r ∷ rights) zero left right h g = let one : l ≡ left = cc in let other : r ≡ right = cc in ap Some (rw (one, other) refl)
zip_rows-at f (l ∷ lefts) (r ∷ rights) (suc k) left right h g = zip_rows-at f lefts rights k left right h g

-- there are as many answers as rows
pub length-zip_rows : {X : Type 0} (f : X → X → X) (lefts rights : List X) → length lefts ≡ length rights → length (zip_rows f lefts rights) ≡ length lefts
length-zip_rows f [] rights same = refl
length-zip_rows f (l ∷ lefts) [] same = cc
length-zip_rows f (l ∷ lefts) (r ∷ rights) same = let rest = length-zip_rows f lefts rights (omega arith) in omega arith

-- those of runs
pub length-zip_runs : (f : Option Value → Option Value → Option Value) (left : List ℕ) (left_values : List (Option Value)) (left_offset : ℕ) (right : List ℕ) (right_values : List (Option Value)) (right_offset count : ℕ)
    → length (zip_rows f (run_rows left left_values left_offset count) (run_rows right right_values right_offset count)) ≡ count
length-zip_runs f left left_values left_offset right right_values right_offset count =
    let lefts = length-run_rows left left_values left_offset count in
    let rights = length-run_rows right right_values right_offset count in
    length-zip_rows f (run_rows left left_values left_offset count) (run_rows right right_values right_offset count) (lefts ∙ sym rights) ∙ lefts

-- answers of rows that are all alike
pub zip_rows-copies : {X : Type 0} (f : X → X → X) (n : ℕ) (left right : X) → zip_rows f (replicate n left) (replicate n right) ≡ replicate n (f left right)
zip_rows-copies f zero left right = refl
zip_rows-copies f (suc n) left right = ap (λ rest. f left right ∷ rest) (zip_rows-copies f n left right)

-- how far two windows are walked along: the next row, and the run of either column that it is in
pub record IsPlaced (left : List ℕ) (left_offset : ℕ) (right : List ℕ) (right_offset count row left_run right_run : ℕ) : Type 0 where
  pub within : row ≤ count
  pub at_left : left_run ≡ run_at left (left_offset + row)
  pub at_right : right_run ≡ run_at right (right_offset + row)

pub IsPlaced-none : (left : List ℕ) (left_offset : ℕ) (right : List ℕ) (right_offset count : ℕ) → run_at left left_offset ≡ 0 → run_at right right_offset ≡ 0
    → IsPlaced left left_offset right right_offset count 0 0 0
IsPlaced-none left left_offset right right_offset count left_first right_first = record {
  within = omega arith;
  at_left = rw (add-zero left_offset) (sym left_first);
  at_right = rw (add-zero right_offset) (sym right_first);
}

-- where the shorter of two runs stops, at the last row at the latest
abbrev pub stop_of_both : List ℕ → ℕ → List ℕ → ℕ → ℕ → ℕ → ℕ → ℕ
stop_of_both left left_offset right right_offset count left_run right_run = min (min (slice_index left left_run - left_offset) (slice_index right right_run - right_offset)) count

module _ (left : List ℕ) (left_offset : ℕ) (right : List ℕ) (right_offset count row left_run right_run stop : ℕ) (left_window : IsWindow left left_offset count) (right_window : IsWindow right right_offset count)
    (more : row < count) (placed : IsPlaced left left_offset right right_offset count row left_run right_run) (is : stop ≡ stop_of_both left left_offset right right_offset count left_run right_run) where
  -- that is past the row
  pub stop_later : row < stop
  stop_later =
      let one = run_past left left_offset count row left_run left_window more placed.at_left in
      let other = run_past right right_offset count row right_run right_window more placed.at_right in
      omega arith

  -- and there the next row is placed
  pub IsPlaced-next : (left_next right_next : ℕ) → IsRunAfter left_run (slice_index left left_run - left_offset) stop left_next → IsRunAfter right_run (slice_index right right_run - right_offset) stop right_next
      → IsPlaced left left_offset right right_offset count stop left_next right_next
  IsPlaced-next left_next right_next left_after right_after =
      let later = stop_later in
      record {
        within = omega arith;
        at_left = run_next left left_offset count row left_run left_window more placed.at_left stop (omega arith) left_next later left_after;
        at_right = run_next right right_offset count row right_run right_window more placed.at_right stop (omega arith) right_next later right_after;
      }

  -- all rows up to it have the answer of the two values
  pub one_answer : (f : Option Value → Option Value → Option Value) (left_values right_values : List (Option Value)) (one other : Option Value) → length left_values ≡ length left → length right_values ≡ length right
      → slice_get left_values left_run ≡ Some one → slice_get right_values right_run ≡ Some other → (k : ℕ) → row ≤ k → k < stop
      → slice_get (zip_rows f (run_rows left left_values left_offset count) (run_rows right right_values right_offset count)) k ≡ Some (f one other)
  one_answer f left_values right_values one other left_paired right_paired left_is right_is k from before =
      zip_rows-at f (run_rows left left_values left_offset count) (run_rows right right_values right_offset count) k one other
      (one_value left left_offset count row left_run left_window more placed.at_left stop (omega arith) left_values one left_paired (omega arith) left_is k from before)
      (one_value right right_offset count row right_run right_window more placed.at_right stop (omega arith) right_values other right_paired (omega arith) right_is k from before)

-- how many steps the walk took: no more than rows, and than runs that ended; at the end fewer than there are runs
pub record IsCounted (left_runs right_runs count row left_run right_run steps : ℕ) : Type 0 where
  pub walked : steps ≤ row
  pub during : row < count → steps ≤ left_run + right_run
  pub done : 0 < count → row ≡ count → steps < left_runs + right_runs

pub IsCounted-none : (left_runs right_runs count : ℕ) → IsCounted left_runs right_runs count 0 0 0 0
IsCounted-none left_runs right_runs count = record {
  walked = omega arith;
  during = λ h. omega arith;
  done = λ some at. absurd (omega arith);
}

-- after the last row these are few
pub few_asked : (left_runs right_runs count row left_run right_run steps : ℕ) → IsCounted left_runs right_runs count row left_run right_run steps → row ≡ count → steps ≤ left_runs + right_runs - 1
few_asked left_runs right_runs count row left_run right_run steps counted at = elim (cases_lt 0 count) [
  | inl some ↦ let fewer = counted.done some at in omega arith
  | inr none ↦ let walked = counted.walked in omega arith
]

-- and before it there are few with one more
pub step_few : (left right : List ℕ) (count row left_run right_run steps left_offset right_offset : ℕ) → IsWindow left left_offset count → IsWindow right right_offset count → row < count
    → IsPlaced left left_offset right right_offset count row left_run right_run → IsCounted (length left) (length right) count row left_run right_run steps → steps + 1 ≤ length left + length right - 1
step_few left right count row left_run right_run steps left_offset right_offset left_window right_window more placed counted =
    let one = run_there left left_offset count row left_run left_window more placed.at_left in
    let other = run_there right right_offset count row right_run right_window more placed.at_right in
    let during = counted.during more in
    omega arith

-- the walk goes to no earlier run
run_on : (run stop end next : ℕ) → IsRunAfter run stop end next → run ≤ next
run_on run stop end next after = elim (cases_eq stop end) [
  | inl same ↦ let is = after.0 same in omega arith
  | inr other ↦ let is = after.1 other in omega arith
]

-- a step that ends before the last row ends a run
run_ended : (left_run right_run left_stop right_stop count stop left_next right_next : ℕ) → stop ≡ min (min left_stop right_stop) count → stop < count → IsRunAfter left_run left_stop stop left_next
    → IsRunAfter right_run right_stop stop right_next → left_run + right_run < left_next + right_next
run_ended left_run right_run left_stop right_stop count stop left_next right_next is before left_after right_after =
    let left_on = run_on left_run left_stop stop left_next left_after in
    let right_on = run_on right_run right_stop stop right_next right_after in
    elim (cases_eq left_stop stop) [
      | inl same ↦ let ended = left_after.0 same in omega arith
      | inr other ↦
          let same : right_stop ≡ stop = omega arith in
          let ended = right_after.0 same in omega arith
    ]

-- an item whose row is not null is there
some_of_row : {Z : Type 0} (shown : Z → FlatValue) (found : Option Z) → IsSome (row_of shown found) → is_some found ≡ true
some_of_row shown None some = absurd (false≢true some)
some_of_row shown (Some z) some = refl

-- what is found of a stretch whose rows all have one answer
pub found_stretch : {Z : Type 0} (shown : Z → FlatValue) (never : Type 0) (has : Option Value → Type 0) (rows : List (Option Value)) (row stop : ℕ) (answer : Option Value) (result : Option (Option Z)) (found : Option Z)
    → result ≡ Some found → IsFound shown has answer result → row < stop → ((k : ℕ) → row ≤ k → k < stop → slice_get rows k ≡ Some answer) → (never → IsSome answer) → IsStretch shown never has rows row stop found
found_stretch shown never has rows row stop answer result found is finding later all filled =
    let known = subst (IsFound shown has answer) is finding in
    let same : row_of shown found ≡ answer = known.1 in
    record {
      later = later;
      all = λ k from before. all k from before ∙ ap Some (sym same);
      had = subst has (sym same) known.0;
      filled = λ n. some_of_row shown found (subst IsSome (sym same) (filled n));
    }

-- where nothing is found, the row is the first whose answer the type does not have
pub first_without : {Z : Type 0} (shown : Z → FlatValue) (blank : FlatValue) (never : Type 0) (has : Option Value → Type 0) (rows : List (Option Value)) (row stop : ℕ) (ends : List ℕ) (items : List Z) (bits : List Bool)
    (last : Option Z) (answer : Option Value) (result : Option (Option Z)) → result ≡ None → IsFound shown has answer result → row < stop → ((k : ℕ) → row ≤ k → k < stop → slice_get rows k ≡ Some answer)
    → IsGrown shown blank never has rows row ends items bits last → IsFirstWithout has rows row
first_without shown blank never has rows row stop ends items bits last answer result is finding later all grown = record {
  answer = answer;
  here = all row (omega arith) later;
  lacks = subst (IsFound shown has answer) is finding;
  before = λ k earlier h at. grown.fit k earlier h at;
}

-- of two rows of types an operation makes no null where it makes none of such rows
pub never_null : {A B : Type 0} (t u : DType) (f : Option Value → Option Value → Option Value) (left : ScalarView A) (right : ScalarView B) → IsViewOf t left → IsViewOf u right
    → IsNeverNull (nullability_of t) (nullability_of u) f → IsSome (f (sees left) (sees right))
never_null t u f left right is_left is_right never = never (sees left) (sees right) (some_view t left is_left) (some_view u right is_right)

-- one step of the walk: the stretch of rows from the next row on in which both columns stay in one run, and its answer
module _ {Z : Type 0} (shown : Z → FlatValue) (never : Type 0) (has : Option Value → Type 0) (f : Option Value → Option Value → Option Value) (left : List ℕ) (left_values : List (Option Value)) (left_offset : ℕ)
    (right : List ℕ) (right_values : List (Option Value)) (right_offset count row left_run right_run left_stop right_stop stop : ℕ) (one other : Option Value) (result : Option (Option Z))
    (left_window : IsWindow left left_offset count) (right_window : IsWindow right right_offset count) (left_paired : length left_values ≡ length left) (right_paired : length right_values ≡ length right)
    (more : row < count) (placed : IsPlaced left left_offset right right_offset count row left_run right_run) (left_stops : left_stop ≡ slice_index left left_run - left_offset)
    (right_stops : right_stop ≡ slice_index right right_run - right_offset) (is : stop ≡ min (min left_stop right_stop) count) (left_is : slice_get left_values left_run ≡ Some one)
    (right_is : slice_get right_values right_run ≡ Some other) (finding : IsFound shown has (f one other) result) where
  at_stop : stop ≡ stop_of_both left left_offset right right_offset count left_run right_run
  at_stop = omega (arith, is, left_stops, right_stops)

  pub step_later : row < stop
  step_later = stop_later left left_offset right right_offset count row left_run right_run stop left_window right_window more placed at_stop

  step_all : (k : ℕ) → row ≤ k → k < stop → slice_get (zip_rows f (run_rows left left_values left_offset count) (run_rows right right_values right_offset count)) k ≡ Some (f one other)
  step_all = one_answer left left_offset right right_offset count row left_run right_run stop left_window right_window more placed at_stop f left_values right_values one other left_paired right_paired left_is right_is

  pub step_placed : (left_next right_next : ℕ) → IsRunAfter left_run left_stop stop left_next → IsRunAfter right_run right_stop stop right_next → IsPlaced left left_offset right right_offset count stop left_next right_next
  step_placed left_next right_next left_after right_after =
      IsPlaced-next left left_offset right right_offset count row left_run right_run stop left_window right_window more placed at_stop left_next right_next
      (subst (λ (s : ℕ). IsRunAfter left_run s stop left_next) left_stops left_after) (subst (λ (s : ℕ). IsRunAfter right_run s stop right_next) right_stops right_after)

  pub step_counted : (steps left_next right_next : ℕ) → IsRunAfter left_run left_stop stop left_next → IsRunAfter right_run right_stop stop right_next → IsCounted (length left) (length right) count row left_run right_run steps
      → IsCounted (length left) (length right) count stop left_next right_next (steps + 1)
  step_counted steps left_next right_next left_after right_after counted =
      let later = step_later in
      let one = run_there left left_offset count row left_run left_window more placed.at_left in
      let other = run_there right right_offset count row right_run right_window more placed.at_right in
      let walked = counted.walked in
      let during = counted.during more in
      record {
        walked = omega arith;
        during = λ before. let ended = run_ended left_run right_run left_stop right_stop count stop left_next right_next is before left_after right_after in omega arith;
        done = λ some at. omega arith;
      }

  -- an answer is found for all of its rows
  pub step_found : (found : Option Z) → result ≡ Some found → (never → IsSome (f one other))
      → IsStretch shown never has (zip_rows f (run_rows left left_values left_offset count) (run_rows right right_values right_offset count)) row stop found
  step_found found found_is filled = found_stretch shown never has (zip_rows f (run_rows left left_values left_offset count) (run_rows right right_values right_offset count)) row stop (f one other) result found found_is
      finding step_later step_all filled

  -- or the first of its rows is the first without one
  pub step_without : (blank : FlatValue) (ends : List ℕ) (items : List Z) (bits : List Bool) (last : Option Z) → result ≡ None
      → IsGrown shown blank never has (zip_rows f (run_rows left left_values left_offset count) (run_rows right right_values right_offset count)) row ends items bits last
      → IsFirstWithout has (zip_rows f (run_rows left left_values left_offset count) (run_rows right right_values right_offset count)) row
  step_without blank ends items bits last none grown = first_without shown blank never has (zip_rows f (run_rows left left_values left_offset count) (run_rows right right_values right_offset count)) row stop ends items bits last
      (f one other) result none finding step_later step_all grown
