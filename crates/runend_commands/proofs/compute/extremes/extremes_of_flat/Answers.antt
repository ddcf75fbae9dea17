use Rattle.std.proofs.Common.{◌≡◌, slice_range}
use Rattle.column_core.specs.FlatView.{leaf_in}
use Rattle.column_core.specs.Leaf.{single_rows}
use Rattle.runend_array.specs.Column.{OfLeaf, plain_of}
use Rattle.runend_commands.proofs.Extremes.{extremes_answered}
use Rattle.runend_commands.proofs.WholeRanges.{all_rows}
use Rattle.runend_commands.proofs.compute.extremes.extremes_of_flat.Goals as goal

pub returns-clause-extremes : goal.returns-clause-extremes
returns-clause-extremes g c =
    let leaf = leaf_in c.args.flat in
    let found = c.min_max-found in
    let whole : slice_range (single_rows leaf) 0 c.len.result ≡ single_rows leaf = rw c.len.ensures (all_rows leaf) in
    extremes_answered (plain_of (OfLeaf leaf)) found.result c.scalar_pair.result (rw whole at found.ensures.none) (rw whole at found.ensures.least) (rw whole at found.ensures.greatest)
    (rw c.dtype.ensures at c.scalar_pair.ensures.copies)
