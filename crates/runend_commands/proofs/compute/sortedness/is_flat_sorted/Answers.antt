use Rattle.column_core.specs.FlatView.{leaf_in}
use Rattle.runend_commands.proofs.WholeRanges.{all_rows}
use Rattle.runend_commands.proofs.compute.sortedness.is_flat_sorted.Goals as goal

pub returns : goal.returns
returns g c = rw (c.len.ensures, all_rows (leaf_in c.args.flat)) at c.is_sorted.ensures
