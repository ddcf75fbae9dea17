use Rattle.std.proofs.Common.{◌+◌}
use Rattle.std.specs.Prelude.{slice_range}
use Rattle.std.specs.declared.cmp.Ordering.TheVariants.{Less, Greater}
use Rattle.column_ops.specs.Items.{item_row, item_rows}
use Rattle.column_ops.proofs.PairedEnds.{IsFurthestOfTwo}
use Rattle.column_ops.proofs.item_ends.ends_of_valid.Given as goal

abbrev pub invariant-loop-step : goal.invariant-loop-step
invariant-loop-step g l =
    let value = g.T.FlatItem.value in
    let rows = item_rows value l.items in
    let all = slice_range rows l.start l.stop in
    record {
      least : IsFurthestOfTwo Less rows all l.start (l.start + l.step) l.second (l.second + l.step) (item_row value l.least);
      greatest : IsFurthestOfTwo Greater rows all l.start (l.start + l.step) l.second (l.second + l.step) (item_row value l.greatest);
    }
