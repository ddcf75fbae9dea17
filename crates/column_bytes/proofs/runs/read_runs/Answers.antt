use Rattle.std.proofs.lemmas.Result.{IfOk-weaker, err_from_is_err_and}
use Rattle.runend_array.specs.Array.{column_of}
use Rattle.column_fields.proofs.Refusals.{same_error}
use Rattle.column_bytes.proofs.RunLaws.{same_runs}
use Rattle.column_bytes.proofs.runs.read_runs.Goals as goal

pub returns-in_err-runs-clause-bad : goal.returns-in_err-runs-clause-bad
returns-in_err-runs-clause-bad g c =
    let p = err_from_is_err_and c.from_residual.result c.from_residual.ensures.1 in
    rw (p.1, p.2) (λ e. c.in_err-runs.ensures.bad (same_error _ _ e))

pub returns-clause-found : goal.returns-clause-found
returns-clause-found g c =
    IfOk-weaker c.of_runs.result _ _ (λ array h. same_runs _ _ _ _ c.args.fields.lengths.now (column_of c.args.values) _ (column_of array) h c.in_ok-runs.ensures.found) c.of_runs.ensures.form
