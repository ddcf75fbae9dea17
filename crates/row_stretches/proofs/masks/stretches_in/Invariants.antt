-- The stretches of the runs before this one are there.
use Rattle.std.proofs.Common.{map}
use Rattle.column_core.specs.FlatColumn.{leaf_of}
use Rattle.column_core.specs.Leaf.{single_rows}
use Rattle.runend_builder.specs.Builder.{shown_rows}
use Rattle.row_stretches.proofs.TrueRows.{TrueSoFar}
use Rattle.row_stretches.proofs.masks.stretches_in.Given as goal

abbrev pub invariant-loop-run : goal.invariant-loop-run
invariant-loop-run g l =
    let ends = map g.E.UnsignedPType.natural l.fn.ends in
    let values = single_rows (leaf_of l.fn.values) in
    TrueSoFar (shown_rows ends values) ends values l.run l.start l.order.items
