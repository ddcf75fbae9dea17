use Rattle.std.proofs.Common.{arith}
use Rattle.std.proofs.lemmas.Result.{err_from_is_err_and}
use Rattle.column_fields.proofs.Refusals.{same_error}
use Rattle.column_bytes.proofs.FlatReads.{flags_are_plain, flags_found, no_flags_field, no_flags, other_rows}
use Rattle.column_bytes.proofs.list_parts.read_run_validity.Goals as goal

pub returns-in_default-clause-bad : goal.returns-in_default-clause-bad
returns-in_default-clause-bad g c = λ _. no_flags_field c.args.rows c.args.bytes.now (omega arith) c.in_default.ensures.none

pub returns-in_err-runs-clause-bad : goal.returns-in_err-runs-clause-bad
returns-in_err-runs-clause-bad g c =
    let p = err_from_is_err_and c.from_residual.result c.from_residual.ensures.1 in
    let h = c.in-Some.ensures in
    rw (p.1, p.2) (λ e. no_flags c.args.rows c.in-Some.flags.now c.args.bytes.now c.in-Some.rest.now (omega arith) h.small h.found (c.in_err-runs.ensures.bad (same_error _ _ e)))

pub returns-then-len-rows-clause-bad : goal.returns-then-len-rows-clause-bad
returns-then-len-rows-clause-bad g c =
    let h = c.in-Some.ensures in
    λ _. other_rows c.in_ok-runs.runs c.args.rows c.in-Some.flags.now c.args.bytes.now c.in-Some.rest.now (omega arith) h.small h.found c.in_ok-runs.ensures.found (λ e. c.if-len-rows.true (omega (arith, e, c.len.ensures)))

pub returns-in-Ok-clause-found : goal.returns-in-Ok-clause-found
returns-in-Ok-clause-found g c =
    let h = c.in-Some.ensures in
    flags_found c.in_ok-runs.runs c.in-Ok.runs.value c.args.rows c.in-Some.flags.now c.args.bytes.now c.in-Some.rest.now c.in-Ok.ensures.ok c.in_ok-runs.ensures.found (omega (arith, c.len.ensures, c.if-len-rows.false)) h.found

pub returns-in-Ok-clause-plain : goal.returns-in-Ok-clause-plain
returns-in-Ok-clause-plain g c = flags_are_plain c.in_ok-runs.runs c.in-Ok.runs.value c.in-Some.flags.now c.in-Ok.ensures.ok c.in_ok-runs.ensures.found
