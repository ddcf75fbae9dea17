use Rattle.runend_array.specs.Array.{column_of}
use Rattle.column_fields.proofs.Refusals.{same_error}
use Rattle.column_bytes.proofs.Messages.{no_ends}
use Rattle.column_bytes.proofs.RunLaws.{no_runs_of}
use Rattle.column_bytes.proofs.runs.read_run_array.Goals as goal

pub returns-in-Err-join_runs-clause-bad : goal.returns-in-Err-join_runs-clause-bad
returns-in-Err-join_runs-clause-bad g c =
    λ e. no_runs_of _ _ _ _ c.args.fields.lengths.now c.in-Ok.ends (column_of c.args.values) c.in-Ok.ensures.found (c.in-Err-join_runs.ensures.bad (same_error _ _ e))

pub returns-in-Err-clause-bad : goal.returns-in-Err-clause-bad
returns-in-Err-clause-bad g c =
    λ e. no_ends _ _ _ _ c.args.fields.lengths.now (column_of c.args.values) (c.in-Err.ensures.bad (same_error _ _ e))
