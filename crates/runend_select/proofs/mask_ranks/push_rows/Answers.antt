use Rattle.std.proofs.Common.{arith}
use Rattle.runend_select.proofs.MaskPlaces.{rows_pushed}
use Rattle.runend_select.proofs.mask_ranks.push_rows.Goals as goal

pub loop-row-preserved : goal.loop-row-preserved
loop-row-preserved g c = record {
  from = omega (arith, c.loop-row.invariant.from);
  pushed = rows_pushed c.args.places.now.items c.loop-row.places.items c.push.new.self.items c.args.start c.loop-row.row c.loop-row.invariant.from c.loop-row.invariant.pushed c.in_ok-push.ensures.items;
}
