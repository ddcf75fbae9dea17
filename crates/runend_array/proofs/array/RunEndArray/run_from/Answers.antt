use Rattle.std.proofs.Common.{◌<◌}
use Rattle.runend_array.specs.Array.{column_of}
use Rattle.runend_array.specs.Column.{end_numbers}
use Rattle.runend_windows.proofs.RunAt.{run_of_row_within}
use Rattle.runend_array.proofs.array.RunEndArray.run_from.Goals as goal

pub run_from-requires-clause-within : goal.run_from-requires-clause-within
run_from-requires-clause-within g c =
    let within : c.args.index < c.self.inside.length = rw (← c.self.view_is) at c.requires.within in
    run_of_row_within (end_numbers (column_of c.self.inside.ends)) c.self.inside.offset c.self.inside.length c.args.index c.self.invariant.runs.window within
