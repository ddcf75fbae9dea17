use Rattle.std.proofs.Common.{◌≡◌, map}
use Rattle.runend_encode.proofs.Moved.{moved_before}
use Rattle.runend_encode.proofs.shifted.move_ends.Given as goal

abbrev pub invariant-loop-end : goal.invariant-loop-end
invariant-loop-end g l = map g.E.UnsignedPType.natural l.ends ≡ moved_before (map g.E.UnsignedPType.natural l.initial.ends) l.rows l.end-index
