use Rattle.std.proofs.Common.{◌≡◌, arith}
use Rattle.runend_array.specs.Array.{column_of}
use Rattle.runend_array.specs.RowRuns.{first_run, last_run}
use Rattle.runend_column.proofs.Sliced.{rows-of_one, rows-of_runs}
use Rattle.runend_column.proofs.slices.rows_between.Goals as goal

pub returns-then-runs-eq1-clause-rows : goal.returns-then-runs-eq1-clause-rows
returns-then-runs-eq1-clause-rows g c =
    let runs = c.runs_of_rows-runs.ensures in
    let repeats = rw runs.first at c.in_ok-constant.ensures.form in
    let one : first_run c.args.array.now c.args.start ≡ last_run c.args.array.now c.args.stop = omega (arith, runs.first, runs.last) in
    rows-of_one c.args.array.now c.args.start c.args.stop c.values.ensures.valid c.requires.some c.requires.within c.in_ok-constant.constant one repeats

pub returns-clause-rows : goal.returns-clause-rows
returns-clause-rows g c =
    let runs = c.runs_of_rows-runs.ensures in
    let kept = rw (runs.first, runs.last, c.offset.ensures) at c.in_ok-part.ensures.form in
    rows-of_runs c.args.array.now c.args.start c.args.stop c.values.ensures.valid c.requires.some c.requires.within (column_of c.in_ok-part.part) kept
