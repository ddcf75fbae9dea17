use Rattle.std.proofs.Common.{◌≡◌, ◌+◌, ◌++◌, map, take, vec_capacity, vec_len}
use Rattle.runend_builder.specs.Spans.{moved_view}
use Rattle.runend_builder.proofs.spans.push_moved.Given as goal

abbrev pub invariant-loop-view : goal.invariant-loop-view
invariant-loop-view g l = record {
  pushed : l.views.items ≡ l.fn.views.items ++ map (moved_view l.span.start l.base) (take l.view-index l.part);
  len : vec_len l.views ≡ vec_len l.fn.views + l.view-index;
  room : vec_capacity l.views ≡ vec_capacity l.fn.views;
}
