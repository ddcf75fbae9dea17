-- One step of a search whose place moves by half of what is left, or stays.
use Rattle.std.proofs.Common.{◌≡◌, ℕ, ◌+◌, ◌-◌, ◌/◌, ◌<◌, ◌≤◌, List, length, slice_index, arith, inl, inr}
use Rattle.std.proofs.lemmas.Bool.{cases_lt}
use Rattle.std.specs.List.Sorted.{IsStrictlyIncreasing}
use Rattle.runend_windows.specs.Window.{run_at}
use Rattle.runend_windows.proofs.RunAt.{run_at-le, run_at-le-length}
use Rattle.runend_windows.proofs.Places.{run_at-beyond}

-- the run of a row is at most `left` runs after this one
pub record IsNear (ends : List ℕ) (row run left : ℕ) : Type 0 where
  pub from : run ≤ run_at ends row
  pub to : run_at ends row ≤ run + left
  pub within : run + left ≤ length ends

-- before the first step it is among all
pub IsNear-all : (ends : List ℕ) (row : ℕ) → IsNear ends row 0 (length ends)
IsNear-all ends row = let most = run_at-le-length ends row in record { from = omega arith; to = omega arith; within = omega arith }

-- after the last there is one run that it can be
pub IsNear-found : (ends : List ℕ) (row run left : ℕ) → left ≡ 0 → IsNear ends row run left → run ≡ run_at ends row
IsNear-found ends row run left none near = let from = near.from in let to = near.to in omega arith

pub IsNear-step : (ends : List ℕ) (row run left step : ℕ) → IsStrictlyIncreasing ends → 0 < left → IsNear ends row run left
    → (slice_index ends (run + (left - left / 2) - 1) ≤ row → step ≡ left - left / 2)
    → (row < slice_index ends (run + (left - left / 2) - 1) → step ≡ 0)
    → IsNear ends row (run + step) (left - (left - left / 2))
IsNear-step ends row run left step increasing some near ended past =
    let middle : ℕ = run + (left - left / 2) - 1 in
    let known = near.within in
    let from = near.from in
    let to = near.to in
    let within : middle < length ends = omega arith in
    elim (cases_lt row (slice_index ends middle)) [
      -- the end is past the row, so the run is no later
      | inl before ↦
          let stays = past before in
          let least = run_at-le ends row middle within before in
          record { from = omega arith; to = omega arith; within = omega arith }
      -- the end is at or below the row, so the run is past it
      | inr over ↦
          let moved = ended over in
          let beyond = run_at-beyond ends row middle increasing within over in
          record { from = omega arith; to = omega arith; within = omega arith }
    ]
