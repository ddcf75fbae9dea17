use Rattle.std.proofs.Common.{◌+◌, ◌*◌}
use Rattle.runend_windows.specs.Starts.{AreChangeBits}
use Rattle.runend_encode.proofs.view_changes.many_views.Given as goal

abbrev pub invariant-loop-eight : goal.invariant-loop-eight
invariant-loop-eight l = record {
  bits : AreChangeBits l.views l.start (l.start + l.eight * 8) l.word;
}
