use Rattle.std.proofs.Common.{◌≡◌, take}
use Rattle.column_ops.proofs.truths.bits_of.Given as goal

abbrev pub invariant-loop-item : goal.invariant-loop-item
invariant-loop-item g l = l.bits ≡ take l.item-index l.items
