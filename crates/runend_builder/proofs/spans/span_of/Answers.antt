use Rattle.std.proofs.Common.{length}
use Rattle.runend_builder.proofs.Moved.{end_within, spans_next}
use Rattle.runend_builder.proofs.spans.span_of.Goals as goal

pub loop-view-preserved : goal.loop-view-preserved
loop-view-preserved c =
    let views = c.args.views.now in
    let k = c.loop-view.view-index in
    record {
      texts = spans_next views k c.loop-view.start c.loop-view.end c.start_with-start.result c.end_with-end.result _ c.loop-view-test.true c.start_with-start.ensures.others
          c.end_with-end.ensures.others c.start_with-start.ensures.text c.end_with-end.ensures.text c.loop-view.invariant.texts;
      end = c.end_with-end.ensures.no_more (length c.args.buffer.now) c.loop-view.invariant.end (end_within c.args.buffer.now views k _ c.loop-view-test.true c.requires);
    }
