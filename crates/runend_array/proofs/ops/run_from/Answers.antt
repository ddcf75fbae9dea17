use Rattle.std.proofs.Common.{◌≤◌, ◌<◌, arith, length}
use Rattle.std.specs.Prelude.{slice_index}
use Rattle.runend_windows.proofs.Places.{run_at-beyond}
use Rattle.runend_windows.proofs.RunAt.{run_at-le}
use Rattle.runend_array.specs.Array.{column_of}
use Rattle.runend_array.specs.Column.{end_numbers}
use Rattle.runend_array.proofs.ops.run_from.Goals as goal

pub loop-found-preserved : goal.loop-found-preserved
loop-found-preserved g c =
    let ends = end_numbers (column_of c.args.ends.now) in
    let within : c.loop-found.found < length ends = omega (arith, c.loop-found.invariant, c.requires.within) in
    let ended : slice_index ends c.loop-found.found ≤ c.args.row = omega (arith, c.end_of_run.ensures, c.if-row-end_of_run.false) in
    run_at-beyond ends c.args.row c.loop-found.found c.requires.increasing within ended

pub returns-then-row-end_of_run : goal.returns-then-row-end_of_run
returns-then-row-end_of_run g c =
    let ends = end_numbers (column_of c.args.ends.now) in
    let within : c.loop-found.found < length ends = omega (arith, c.loop-found.invariant, c.requires.within) in
    let past : c.args.row < slice_index ends c.loop-found.found = omega (arith, c.end_of_run.ensures, c.if-row-end_of_run.true) in
    omega (arith, c.loop-found.invariant, run_at-le ends c.args.row c.loop-found.found within past)
