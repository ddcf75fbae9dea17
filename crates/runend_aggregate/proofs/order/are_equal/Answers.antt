use Rattle.column_core.specs.FlatView.{leaf_in}
use Rattle.runend_array.specs.Array.{column_of}
use Rattle.runend_aggregate.proofs.LentValues.{within_leaf}
use Rattle.runend_aggregate.proofs.order.are_equal.Goals as goal

pub is_constant-requires-clause-in_bounds : goal.is_constant-requires-clause-in_bounds
is_constant-requires-clause-in_bounds g c = within_leaf (column_of c.args.values.now) (leaf_in c.in-Some.flat) c.args.range.end c.in-Some.ensures.flat c.requires.in_bounds

pub returns-in-Some : goal.returns-in-Some
returns-in-Some g c = rw c.in-Some.ensures.flat c.is_constant.ensures
