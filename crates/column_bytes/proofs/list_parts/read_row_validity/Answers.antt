use Rattle.std.proofs.lemmas.Result.{IfOk-weaker, err_from_is_err_and}
use Rattle.runend_array.specs.Array.{validity_of}
use Rattle.column_fields.proofs.Refusals.{same_error}
use Rattle.column_bytes.proofs.FlatReads.{keyed, not_keyed, rows_found, neither}
use Rattle.column_bytes.proofs.list_parts.read_row_validity.Goals as goal

pub returns-in-Some-clause-found : goal.returns-in-Some-clause-found
returns-in-Some-clause-found g c =
    IfOk-weaker c.read_run_validity.result _ _ (λ r h. keyed c.args.rows c.args.bytes.now c.in-Some.after.now _ _ c.in-Some.ensures.found h) c.read_run_validity.ensures.found

pub returns-in-Some-clause-bad : goal.returns-in-Some-clause-bad
returns-in-Some-clause-bad g c = λ e. not_keyed c.args.rows c.args.bytes.now c.in-Some.after.now c.in-Some.ensures.found (c.read_run_validity.ensures.bad e)

pub returns-in_err-validity-clause-bad : goal.returns-in_err-validity-clause-bad
returns-in_err-validity-clause-bad g c =
    let p = err_from_is_err_and c.from_residual.result c.from_residual.ensures.1 in
    rw (p.1, p.2) (λ e. neither c.args.rows c.args.bytes.now c.in_default.ensures.none (c.in_err-validity.ensures.bad (same_error _ _ e)))

pub returns-clause-found : goal.returns-clause-found
returns-clause-found g c =
    rows_found c.args.rows c.args.bytes.now (validity_of c.by_rows.result) _ c.in_ok-validity.rest.now c.by_rows.ensures.form c.in_ok-validity.ensures.counted c.in_ok-validity.ensures.found
