use Rattle.column_core.specs.FlatView.{leaf_in}
use Rattle.runend_array.specs.Array.{column_of}
use Rattle.runend_aggregate.proofs.LentValues.{within_leaf}
use Rattle.runend_aggregate.proofs.extremes.end_of.Goals as goal

pub extreme-requires-clause-in_bounds : goal.extreme-requires-clause-in_bounds
extreme-requires-clause-in_bounds g c = within_leaf (column_of c.args.values.now) (leaf_in c.in-Some.flat) c.args.range.end c.in-Some.ensures.flat c.requires.in_bounds

pub returns-in-Some : goal.returns-in-Some
returns-in-Some g c = record {
  none = rw c.in-Some.ensures.flat c.extreme.ensures.none;
  some = rw c.in-Some.ensures.flat c.extreme.ensures.some;
  of_type = rw c.in-Some.ensures.flat c.extreme.ensures.of_type;
}
