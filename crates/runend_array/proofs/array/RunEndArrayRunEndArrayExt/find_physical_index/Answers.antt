use Rattle.std.proofs.Common.{◌+◌, arith}
use Rattle.runend_array.specs.Array.{column_of}
use Rattle.runend_array.specs.Column.{runs_of}
use Rattle.runend_windows.proofs.RunAt.{run_of_row_within, run_at-count_by}
use Rattle.runend_array.proofs.array.RunEndArrayRunEndArrayExt.find_physical_index.Goals as goal

pub returns-clause-run : goal.returns-clause-run
returns-clause-run g c = rw (← c.self.view_is) (λ h.
    let runs = runs_of (column_of c.self.inside.ends) (column_of c.self.inside.values) c.self.inside.offset c.self.inside.length in
    let within = run_of_row_within runs.ends runs.offset runs.count c.args.index c.self.invariant.runs.window h in
    let counted = run_at-count_by runs.ends (runs.offset + c.args.index) c.self.invariant.runs.window.increasing in
    let place = c.find_physical_index.ensures in
    omega arith)
