use Rattle.std.proofs.Common.{◌≡◌, slice_range}
use Rattle.column_core.specs.FlatView.{leaf_in}
use Rattle.column_core.specs.Leaf.{single_rows}
use Rattle.runend_array.specs.Column.{OfLeaf, plain_of}
use Rattle.runend_commands.proofs.Extremes.{extreme_answered}
use Rattle.runend_commands.proofs.WholeRanges.{all_rows}
use Rattle.runend_commands.proofs.compute.extremes.extreme_of_flat.Goals as goal

pub returns-clause-extreme : goal.returns-clause-extreme
returns-clause-extreme g c =
    let leaf = leaf_in c.args.flat in
    let found = c.extreme-found in
    let whole : slice_range (single_rows leaf) 0 c.len.result ≡ single_rows leaf = rw c.len.ensures (all_rows leaf) in
    extreme_answered c.args.side (plain_of (OfLeaf leaf)) found.result c.scalar_if_any.result (rw whole at found.ensures.none) (rw whole at found.ensures.some)
    (rw c.dtype.ensures at c.scalar_if_any.ensures.copy)
