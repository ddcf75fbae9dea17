-- A visible run that is neither the first nor the last is cut by no window.
use Rattle.std.proofs.Common.{◌≡◌, ℕ, zero, suc, ◌+◌, ◌-◌, ◌<◌, ◌≤◌, List, slice_index, arith}
use Rattle.runend_windows.specs.Window.{IsWindow}
use Rattle.runend_windows.proofs.RunAt.{ended_before, ends_after, run_at-le-length}
use Rattle.runend_array.specs.RowRuns.{first_visible, stop_visible}
use Rattle.runend_aggregate.specs.ShownRuns.{rows_showing}

-- both its end and the one before it are positions of the window
record IsInner (ends : List ℕ) (offset count run : ℕ) : Type 0 where
  pub from : offset < slice_index ends (run - 1)
  pub rises : slice_index ends (run - 1) ≤ slice_index ends run
  pub to : slice_index ends run < offset + count

inner : (ends : List ℕ) (offset count run : ℕ) → IsWindow ends offset count → first_visible ends offset count < run → run + 1 < stop_visible ends offset count → IsInner ends offset count run
inner ends offset zero run window first last = absurd (omega arith)
inner ends offset (suc n) run window first last =
    let most = run_at-le-length ends (offset + n) in
    let past = ends_after ends offset (run - 1) window.increasing (omega arith) (omega arith) in
    let reached = ended_before ends (offset + n) run (omega arith) in
    let next : run - 1 + 1 ≡ run = omega arith in
    let rises : slice_index ends (run - 1) < slice_index ends run = rw next at (window.increasing (run - 1) (omega arith)) in
    record { from = past; rises = omega arith; to = omega arith }

pub inner_rises : (ends : List ℕ) (offset count run : ℕ) → IsWindow ends offset count → first_visible ends offset count < run → run + 1 < stop_visible ends offset count
    → slice_index ends (run - 1) ≤ slice_index ends run
inner_rises ends offset count run window first last = (inner ends offset count run window first last).rises

-- so as many rows show it as lie between the two
pub inner_showing : (ends : List ℕ) (offset count run : ℕ) → IsWindow ends offset count → first_visible ends offset count < run → run + 1 < stop_visible ends offset count
    → slice_index ends run - slice_index ends (run - 1) ≡ rows_showing ends offset count run
inner_showing ends offset count zero window first last = absurd (omega arith)
inner_showing ends offset count (suc k) window first last =
    let own = inner ends offset count (suc k) window first last in
    let before : suc k - 1 ≡ k = omega arith in
    let from : offset < slice_index ends k = rw before at own.from in
    let rises : slice_index ends k ≤ slice_index ends (suc k) = rw before at own.rises in
    let to = own.to in
    rw before (omega arith)
