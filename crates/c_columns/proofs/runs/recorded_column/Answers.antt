use Rattle.c_columns.proofs.RunsServed.{record_served}
use Rattle.c_columns.proofs.runs.recorded_column.Goals as goal

pub returns-clause-served : goal.returns-clause-served
returns-clause-served c =
    record_served 0 c.args.count c.args.ends.now c.args.values.now.array c.in_ok-run_ends.run_ends c.in_ok-run_ends.run_values c.in_ok-run_ends.ensures.same.0 c.in_ok-run_ends.ensures.same.1 c.in_ok-check_levels.ensures.fits
    c.args.bytes.now c.args.dtype c.boxed_runs_like.result c.in_ok-runs.runs c.in_ok-runs.ensures.read
