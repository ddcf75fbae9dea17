use Rattle.std.proofs.Common.{◌≡◌, take}
use Rattle.column_ops.proofs.views.share.Given as goal

abbrev pub invariant-loop-buffer : goal.invariant-loop-buffer
invariant-loop-buffer g l = l.owners.items ≡ take l.buffer-index l.buffers
