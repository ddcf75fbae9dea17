use Rattle.std.proofs.Common.{◌∙◌, ◌++◌, map, ap, arith}
use Rattle.std.proofs.lemmas.List.{take_all}
use Rattle.runend_builder.specs.Spans.{moved_view}
use Rattle.runend_builder.proofs.Moved.{moved_next}
use Rattle.runend_builder.proofs.spans.push_moved.Goals as goal

pub loop-view-preserved : goal.loop-view-preserved
loop-view-preserved g c = record {
  pushed = moved_next (moved_view c.args.span.now.start c.args.base) c.args.views.now.items c.loop-view.views.items c.push_reserved.new.self.items c.loop-view.view-index c.args.part.now
      c.moved.result _ c.loop-view-test.true c.moved.ensures c.loop-view.invariant.pushed c.push_reserved.ensures.items;
  len = omega (arith, c.push_reserved.ensures.len, c.loop-view.invariant.len);
  room = c.push_reserved.ensures.capacity ∙ c.loop-view.invariant.room;
}

pub returns : goal.returns
returns g c =
    c.loop-view.invariant.pushed ∙ ap (λ views. c.args.views.now.items ++ map (moved_view c.args.span.now.start c.args.base) views) (take_all c.loop-view.view-index c.args.part.now (omega arith))
