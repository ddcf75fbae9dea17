use Rattle.runend_array.specs.Array.{column_of}
use Rattle.runend_array.specs.Column.{end_numbers}
use Rattle.runend_array.proofs.OuterRuns.{none_before}
use Rattle.runend_array.proofs.ops.run_from_first.Goals as goal

pub returns-then-index-end_of_run : goal.returns-then-index-end_of_run
returns-then-index-end_of_run g c = none_before (end_numbers (column_of c.args.ends.now)) c.args.index c.requires.increasing c.requires.some (rw c.end_of_run.ensures at c.if-index-end_of_run.true)
