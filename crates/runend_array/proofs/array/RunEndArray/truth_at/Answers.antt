use Rattle.std.proofs.Common.{◌<◌, arith}
use Rattle.runend_array.specs.Array.{column_of}
use Rattle.runend_array.specs.Column.{IsPlainTruths, end_numbers}
use Rattle.runend_windows.proofs.RunAt.{run_of_row_within}
use Rattle.runend_array.proofs.ListItems.{rows_within_truths}
use Rattle.runend_array.proofs.array.RunEndArray.truth_at.Goals as goal

pub plain_truth_at-requires-clause-within : goal.plain_truth_at-requires-clause-within
plain_truth_at-requires-clause-within g c =
    let within : c.args.index < c.self.inside.length = rw (← c.self.view_is) at c.requires.within in
    let plain : IsPlainTruths (column_of c.self.inside.values) = rw (← c.self.view_is) at c.requires.plain in
    let run = run_of_row_within (end_numbers (column_of c.self.inside.ends)) c.self.inside.offset c.self.inside.length c.args.index c.self.invariant.runs.window within in
    omega (arith, run, c.run_of-run.ensures.place, c.self.invariant.runs.paired, rows_within_truths (column_of c.self.inside.values) plain)
