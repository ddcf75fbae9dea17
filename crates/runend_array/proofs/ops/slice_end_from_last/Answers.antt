use Rattle.std.proofs.Common.{◌∙◌}
use Rattle.runend_array.specs.Array.{column_of}
use Rattle.runend_array.specs.Column.{end_numbers}
use Rattle.runend_array.proofs.OuterRuns.{all_before}
use Rattle.runend_array.proofs.ops.slice_end_from_last.Goals as goal

pub returns-then-end_of_run-index : goal.returns-then-end_of_run-index
returns-then-end_of_run-index g c =
    c.run_count-runs.ensures
    ∙ all_before (end_numbers (column_of c.args.ends.now)) c.args.index c.requires.increasing c.requires.some (rw (c.end_of_run.ensures, c.run_count-runs.ensures) at c.if-end_of_run-index.true)
