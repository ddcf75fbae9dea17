use Rattle.column_core.proofs.Refusals.{refused_by_range}
use Rattle.runend_windows.proofs.RunRows.{length-run_rows}
use Rattle.runend_column.proofs.slices.slice.Goals as goal

pub returns-clause-refused : goal.returns-clause-refused
returns-clause-refused g c = rw length-run_rows c.slice_of_count.ensures.refused

pub returns-clause-fault : goal.returns-clause-fault
returns-clause-fault g c =
    rw length-run_rows
    (refused_by_range c.args.range.start c.args.range.end c.args.array.now.count c.slice_of_count.result c.slice_of_count.ensures.refused c.slice_of_count.ensures.only)
