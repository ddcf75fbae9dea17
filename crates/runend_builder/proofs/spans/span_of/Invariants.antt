use Rattle.std.proofs.Common.{◌≤◌, length, take}
use Rattle.std.specs.Prelude.{All}
use Rattle.runend_builder.specs.Spans.{IsInSpan}
use Rattle.runend_builder.proofs.spans.span_of.Given as goal

abbrev pub invariant-loop-view : goal.invariant-loop-view
invariant-loop-view l = record {
  texts : All (IsInSpan l.start l.end) (take l.view-index l.views);
  end : l.end ≤ length l.buffer;
}
