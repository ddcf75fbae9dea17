-- What one test of an end says of the run of a row. The search keeps that run between its two bounds.
use Rattle.std.proofs.Common.{ℕ, ◌+◌, ◌<◌, ◌≤◌, List, length, slice_index, arith, inl, inr}
use Rattle.std.proofs.lemmas.Bool.{cases_lt}
use Rattle.std.specs.List.Sorted.{IsStrictlyIncreasing}
use Rattle.runend_windows.specs.Window.{run_at}
use Rattle.runend_windows.proofs.RunAt.{ends_after}

-- where the ends increase, the run of a row is past each run that ends at or below it
pub run_at-beyond : (ends : List ℕ) (row run : ℕ) → IsStrictlyIncreasing ends → run < length ends → slice_index ends run ≤ row → run + 1 ≤ run_at ends row
run_at-beyond ends row run increasing within ended = elim (cases_lt run (run_at ends row)) [
  | inl beyond ↦ omega arith
  | inr from ↦ let past = ends_after ends row run increasing from within in absurd (omega arith)
]
