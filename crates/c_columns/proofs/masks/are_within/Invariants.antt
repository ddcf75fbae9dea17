-- The words so far.
use Rattle.std.proofs.Common.{◌*◌, ◌<◌, ◌≤◌, ℕ}
use Rattle.column_base.specs.Words.{digit_at}
use Rattle.c_columns.proofs.masks.are_within.Given as goal

abbrev pub invariant-loop-index : goal.invariant-loop-index
invariant-loop-index l = (i : ℕ) → i < l.index * 64 → digit_at l.words i ≤ digit_at l.limits i
