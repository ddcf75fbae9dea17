-- How far the first runs reach in a window, and which rows are in the next one.
use Rattle.std.proofs.Common.{◌≡◌, ℕ, ◌+◌, ◌-◌, ◌<◌, ◌≤◌, zero, suc, List, [], ◌∷◌, length, slice_index, min, arith, add-one, inl, inr, ap}
use Rattle.std.proofs.lemmas.Bool.{cases_lt}
use Rattle.std.specs.List.Sorted.{IsStrictlyIncreasing}
use Rattle.runend_windows.specs.Window.{run_at, last_end}
use Rattle.runend_windows.proofs.RunAt.{ended_before, ends_after, ends_past}

-- the rows that the first k runs reach
abbrev pub reached : List ℕ → ℕ → ℕ → ℕ → ℕ
reached ends offset count zero = 0
reached ends offset count (suc k) = min (slice_index ends k - offset) count

pub reached-le : (ends : List ℕ) (offset count k : ℕ) → IsStrictlyIncreasing ends → k < length ends → reached ends offset count k ≤ min (slice_index ends k - offset) count
reached-le ends offset count zero increasing h = omega arith
reached-le ends offset count (suc k) increasing h = let next = rw add-one at (increasing k (omega arith)) in omega arith

-- a row past those of the first k runs is in none of them
run-low : (ends : List ℕ) (offset count k i : ℕ) → IsStrictlyIncreasing ends → k < length ends → reached ends offset count k ≤ i → i < count → k ≤ run_at ends (offset + i)
run-low ends offset count zero i increasing h low high = omega arith
run-low ends offset count (suc k) i increasing h low high = elim (cases_lt (run_at ends (offset + i)) (suc k)) [
  | inl less ↦ let after = ends_after ends (offset + i) k increasing (omega arith) (omega arith) in absurd (omega arith)
  | inr more ↦ more
]

run-high : (ends : List ℕ) (offset count k i : ℕ) → IsStrictlyIncreasing ends → k < length ends → i < min (slice_index ends k - offset) count → run_at ends (offset + i) ≤ k
run-high ends offset count k i increasing h high = elim (cases_lt k (run_at ends (offset + i))) [
  | inl less ↦ let before = ended_before ends (offset + i) k less in absurd (omega arith)
  | inr more ↦ more
]

-- the rows from there on, as far as the next run reaches, are in it
pub run_at-reached : (ends : List ℕ) (offset count k i : ℕ) → IsStrictlyIncreasing ends → k < length ends → reached ends offset count k ≤ i → i < min (slice_index ends k - offset) count
    → run_at ends (offset + i) ≡ k
run_at-reached ends offset count k i increasing h low high =
    let from = run-low ends offset count k i increasing h low (omega arith) in
    let to = run-high ends offset count k i increasing h high in
    omega arith

-- and no others
pub reached-from_run : (ends : List ℕ) (offset count k i : ℕ) → i < count → run_at ends (offset + i) ≡ k → reached ends offset count k ≤ i
reached-from_run ends offset count zero i h is = omega arith
reached-from_run ends offset count (suc k) i h is = let before = ended_before ends (offset + i) k (omega arith) in omega arith

pub reached-past_run : (ends : List ℕ) (offset count k i : ℕ) → k < length ends → i < count → run_at ends (offset + i) ≡ k → i < min (slice_index ends k - offset) count
reached-past_run ends offset count k i within h is =
    let past = ends_past ends (offset + i) (omega arith) in
    let same = ap (slice_index ends) is in
    omega arith

-- all runs reach all rows
pub reached-all : (ends : List ℕ) (offset count : ℕ) → (0 < count → offset + count ≤ last_end ends) → reached ends offset count (length ends) ≡ count
reached-all [] offset count last = elim (cases_lt 0 count) [
  | inl some ↦ let h : offset + count ≤ 0 = last some in absurd (omega arith)
  | inr none ↦ omega arith
]
reached-all (end ∷ ends) offset count last = elim (cases_lt 0 count) [
  | inl some ↦
      let h = last some in
      let same : slice_index (end ∷ ends) (length (end ∷ ends) - 1) ≡ slice_index (end ∷ ends) (length ends) = ap (slice_index (end ∷ ends)) (omega arith) in
      omega arith
  | inr none ↦ omega arith
]
