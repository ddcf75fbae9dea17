use Rattle.column_core.specs.FlatView.{leaf_in}
use Rattle.runend_commands.proofs.WholeRanges.{all_rows}
use Rattle.runend_commands.proofs.compute.constancy.is_flat_constant.Goals as goal

pub returns : goal.returns
returns g c = rw (c.len.ensures, all_rows (leaf_in c.args.flat)) at c.is_constant.ensures
