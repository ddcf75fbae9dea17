use Rattle.std.proofs.Common.{◌≡◌, take}
use Rattle.column_ops.proofs.truths.items_of.Given as goal

abbrev pub invariant-loop-row : goal.invariant-loop-row
invariant-loop-row g l = l.items.items ≡ take l.row l.bits
