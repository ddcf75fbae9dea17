-- Which run a position is in: `run_at` step by step along the ends, against the fact given by index, and against a
-- count.
use Rattle.std.proofs.Common.{◌≡◌, ◌↔◌, ℕ, suc, ◌+◌, ◌-◌, ◌<◌, ◌≤◌, List, [], ◌∷◌, length, slice_index, count_by, cond, nat_lt, nat_le, refl, sym, subst, ◌∙◌, arith, add-one, inl, inr}
use Rattle.std.proofs.lemmas.Bool.{cases_lt, lt-ltb, le-ltb, ltb-true, ltb-false, le-leb, lt-leb}
use Rattle.std.proofs.lemmas.Bool.Decides.{nat_tests}
use Rattle.std.proofs.lemmas.List.Kept.{AllPairs-from_increasing}
use Rattle.std.proofs.lemmas.List.Sums.{fails_before_first, passes_at_first, position_or_len_is, prefix_len-le-length, sum_by-cons}
use Rattle.std.specs.List.Sorted.{IsStrictlyIncreasing}
use Rattle.runend_windows.specs.Window.{run_at, last_end, IsRunAt, IsWindow}

-- a position before the first end is in the first run
pub run_at-here : (end : ℕ) (ends : List ℕ) (position : ℕ) → position < end → run_at (end ∷ ends) position ≡ 0
run_at-here end ends position h = grind (arith, nat_tests)

-- from the first end on, there is one run more before it
pub run_at-past : (end : ℕ) (ends : List ℕ) (position : ℕ) → end ≤ position → run_at (end ∷ ends) position ≡ run_at ends position + 1
run_at-past end ends position h = grind (arith, nat_tests)

pub run_at-le-length : (ends : List ℕ) (position : ℕ) → run_at ends position ≤ length ends
run_at-le-length ends position = prefix_len-le-length _ ends

-- each run before it has ended
pub ended_before : (ends : List ℕ) (position k : ℕ) → k < run_at ends position → slice_index ends k ≤ position
ended_before ends position k h = ltb-false position (slice_index ends k) (fails_before_first (λ e. nat_lt position e) ends k 0 h)

-- it ends past the position
pub ends_past : (ends : List ℕ) (position : ℕ) → run_at ends position < length ends → position < slice_index ends (run_at ends position)
ends_past ends position h = ltb-true position (slice_index ends (run_at ends position)) (passes_at_first (λ e. nat_lt position e) ends 0 h)

-- those two facts fix it, the number of runs included
pub run_at_is : (ends : List ℕ) (position run : ℕ) → run ≤ length ends → ((k : ℕ) → k < run → slice_index ends k ≤ position)
    → (run < length ends → position < slice_index ends run) → run_at ends position ≡ run
run_at_is ends position run short before past = position_or_len_is (λ e. nat_lt position e) ends run 0 short
    (λ k h. le-ltb position (slice_index ends k) (before k h)) (λ h. lt-ltb position (slice_index ends run) (past h))

-- where there is such a run, it is the one given by index
pub IsRunAt-run_at : (ends : List ℕ) (position : ℕ) → run_at ends position < length ends → IsRunAt ends position (run_at ends position)
IsRunAt-run_at ends position h = record { within = h; past = ends_past ends position h; least = λ j lt. ended_before ends position j lt }

pub run_at-from_IsRunAt : (ends : List ℕ) (position run : ℕ) → IsRunAt ends position run → run_at ends position ≡ run
run_at-from_IsRunAt ends position run r = let h = r.within in run_at_is ends position run (omega arith) r.least (λ _. r.past)

-- both ways at once
pub IsRunAt_iff_run_at : (ends : List ℕ) (position run : ℕ) → IsRunAt ends position run ↔ ((run < length ends) × (run_at ends position ≡ run))
IsRunAt_iff_run_at ends position run = (
  (λ r. (r.within, run_at-from_IsRunAt ends position run r)),
  (λ h. subst (λ (k : ℕ). IsRunAt ends position k) h.1 (IsRunAt-run_at ends position (omega (arith, h.0, h.1)))),
)

-- a position is in one run
pub IsRunAt-unique : (ends : List ℕ) (position run run' : ℕ) → IsRunAt ends position run → IsRunAt ends position run' → run ≡ run'
IsRunAt-unique ends position run run' r r' = sym (run_at-from_IsRunAt ends position run r) ∙ run_at-from_IsRunAt ends position run' r'

-- the ends past the first increase as well
pub IsStrictlyIncreasing-tail : (end : ℕ) (ends : List ℕ) → IsStrictlyIncreasing (end ∷ ends) → IsStrictlyIncreasing ends
IsStrictlyIncreasing-tail end ends increasing k h = rw add-one (rw add-one at (increasing (suc k) (omega arith)))

-- no end is at or below a position that is before an end below them all
count_by-none : (end : ℕ) (ends : List ℕ) (position : ℕ) → IsStrictlyIncreasing (end ∷ ends) → position < end → count_by (λ e. nat_le e position) ends ≡ 0
count_by-none end [] position increasing h = refl
count_by-none end (next ∷ ends) position increasing h =
    let above : end < next = increasing 0 (omega arith) in
    let here : ◌≡◌ {A = ℕ} (cond (nat_le next position) 1 0) 0 = rw (lt-leb next position (omega arith)) in
    sum_by-cons (λ e. cond (nat_le e position) 1 0) next ends
    ∙ omega (arith, here, count_by-none next ends position (IsStrictlyIncreasing-tail end (next ∷ ends) increasing) (omega arith))

-- where the ends increase, it is the number of ends at or below the position
pub run_at-count_by : (ends : List ℕ) (position : ℕ) → IsStrictlyIncreasing ends → run_at ends position ≡ count_by (λ e. nat_le e position) ends
run_at-count_by [] position increasing = refl
run_at-count_by (end ∷ ends) position increasing =
    let count = sum_by-cons (λ e. cond (nat_le e position) 1 0) end ends in
    elim (cases_lt position end) [
      | inl before ↦
          let here : ◌≡◌ {A = ℕ} (cond (nat_le end position) 1 0) 0 = rw (lt-leb end position before) in
          run_at-here end ends position before ∙ sym (count ∙ omega (arith, here, count_by-none end ends position increasing before))
      | inr past ↦
          let here : ◌≡◌ {A = ℕ} (cond (nat_le end position) 1 0) 1 = rw (le-leb end position past) in
          let rest = run_at-count_by ends position (IsStrictlyIncreasing-tail end ends increasing) in
          run_at-past end ends position past ∙ sym (count ∙ omega (arith, here, rest))
    ]

-- where the ends increase, each run from it on ends past the position
pub ends_after : (ends : List ℕ) (position k : ℕ) → IsStrictlyIncreasing ends → run_at ends position ≤ k → k < length ends → position < slice_index ends k
ends_after ends position k increasing from within = elim (cases_lt (run_at ends position) k) [
  | inl later ↦
      let past = ends_past ends position (omega arith) in
      let order = AllPairs-from_increasing ends increasing (run_at ends position) k 0 later within in
      omega arith
  | inr same ↦
      let at : run_at ends position ≡ k = omega arith in
      subst (λ (run : ℕ). position < slice_index ends run) at (ends_past ends position (omega arith))
]

-- a position below some end is in a run that is no later
pub run_at-le : (ends : List ℕ) (position k : ℕ) → k < length ends → position < slice_index ends k → run_at ends position ≤ k
run_at-le ends position k within past = elim (cases_lt k (run_at ends position)) [
  | inl earlier ↦ let ended = ended_before ends position k earlier in absurd (omega arith)
  | inr from ↦ from
]

-- a position below the last end is in a run
pub run_at_within : (ends : List ℕ) (position : ℕ) → 0 < length ends → position < last_end ends → run_at ends position < length ends
run_at_within ends position some below = let le = run_at-le ends position (length ends - 1) (omega arith) below in omega arith

-- a later position is in no earlier run
pub run_at-le-run_at : (ends : List ℕ) (position position' : ℕ) → position ≤ position' → run_at ends position ≤ run_at ends position'
run_at-le-run_at ends position position' h = elim (cases_lt (run_at ends position') (run_at ends position)) [
  | inl earlier ↦
      let short = run_at-le-length ends position in
      let ended = ended_before ends position (run_at ends position') earlier in
      let past = ends_past ends position' (omega arith) in
      absurd (omega arith)
  | inr from ↦ from
]

-- a window with rows has runs
pub runs_of_rows : (ends : List ℕ) (offset count : ℕ) → IsWindow ends offset count → 0 < count → 0 < length ends
runs_of_rows [] offset count window h = let none = (window.none refl).1 in absurd (omega arith)
runs_of_rows (end ∷ ends) offset count window h = omega arith

-- the run of a row of a valid window is one of the runs
pub run_of_row_within : (ends : List ℕ) (offset count row : ℕ) → IsWindow ends offset count → row < count → run_at ends (offset + row) < length ends
run_of_row_within ends offset count row window h =
    let last = window.last (omega arith) in
    run_at_within ends (offset + row) (runs_of_rows ends offset count window (omega arith)) (omega arith)

-- and so it is given by index
pub IsRunAt-of_row : (ends : List ℕ) (offset count row : ℕ) → IsWindow ends offset count → row < count → IsRunAt ends (offset + row) (run_at ends (offset + row))
IsRunAt-of_row ends offset count row window h = IsRunAt-run_at ends (offset + row) (run_of_row_within ends offset count row window h)
