-- The rows so far, from the last one on, are null.
use Rattle.std.proofs.Common.{◌≡◌, ◌+◌, ◌<◌, ℕ, None, Some, length}
use Rattle.std.specs.Prelude.{slice_get}
use Rattle.runend_array.specs.Array.{rows}
use Rattle.typed_groups.proofs.row_scalars.last_value.Given as goal

abbrev pub invariant-loop-back : goal.invariant-loop-back
invariant-loop-back g l = (k : ℕ) → l.count < k + l.back + 1 → k < length (rows l.fn.array) → slice_get (rows l.fn.array) k ≡ Some None
