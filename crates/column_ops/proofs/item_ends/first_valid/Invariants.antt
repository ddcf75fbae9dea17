use Rattle.std.proofs.Common.{◌≡◌, ◌<◌, ◌≤◌, ℕ, false, Some}
use Rattle.std.specs.Prelude.{slice_get}
use Rattle.column_ops.proofs.item_ends.first_valid.Given as goal

abbrev pub invariant-loop-row : goal.invariant-loop-row
invariant-loop-row g l = (k : ℕ) → l.start ≤ k → k < l.row → slice_get l.flags k ≡ Some false
