-- The rows so far are null.
use Rattle.runend_array.specs.Array.{rows}
use Rattle.typed_groups.specs.Questions.{AreNullBefore}
use Rattle.typed_groups.proofs.row_scalars.first_value.Given as goal

abbrev pub invariant-loop-row : goal.invariant-loop-row
invariant-loop-row g l = AreNullBefore (rows l.fn.array) l.row
