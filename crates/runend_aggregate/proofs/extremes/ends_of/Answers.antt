use Rattle.column_core.specs.FlatView.{leaf_in}
use Rattle.runend_array.specs.Array.{column_of}
use Rattle.runend_aggregate.proofs.LentValues.{within_leaf}
use Rattle.runend_aggregate.proofs.extremes.ends_of.Goals as goal

pub min_max-requires-clause-in_bounds : goal.min_max-requires-clause-in_bounds
min_max-requires-clause-in_bounds g c = within_leaf (column_of c.args.values.now) (leaf_in c.in-Some.flat) c.args.range.end c.in-Some.ensures.flat c.requires.in_bounds

pub returns-in-Some : goal.returns-in-Some
returns-in-Some g c = record {
  none = rw c.in-Some.ensures.flat c.min_max.ensures.none;
  least = rw c.in-Some.ensures.flat c.min_max.ensures.least;
  greatest = rw c.in-Some.ensures.flat c.min_max.ensures.greatest;
  least_of_type = rw c.in-Some.ensures.flat c.min_max.ensures.least_of_type;
  greatest_of_type = rw c.in-Some.ensures.flat c.min_max.ensures.greatest_of_type;
}
