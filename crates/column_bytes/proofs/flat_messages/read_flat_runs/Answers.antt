use Rattle.std.proofs.Common.{arith}
use Rattle.std.proofs.lemmas.Result.{IfOk-weaker, err_from_is_err_and}
use Rattle.runend_array.specs.Array.{column_of}
use Rattle.runend_array.specs.Column.{column_of_runs}
use Rattle.column_fields.proofs.Refusals.{same_error}
use Rattle.column_bytes.proofs.FlatReads.{no_flat_runs, no_runs_form, no_flat_fields, no_flat_values, no_flat_run_column, are_flat_runs}
use Rattle.column_bytes.proofs.Messages.{no_header}
use Rattle.column_bytes.proofs.flat_messages.read_flat_runs.Goals as goal

pub returns-in_default-clause-bad : goal.returns-in_default-clause-bad
returns-in_default-clause-bad g c = λ _. no_flat_runs c.args.dtype c.args.bytes.now (no_header 1 c.args.bytes.now c.in_default.ensures.none)

pub returns-then-header-ne2-clause-bad : goal.returns-then-header-ne2-clause-bad
returns-then-header-ne2-clause-bad g c =
    let h = c.in-Some.ensures in
    λ _. no_runs_form c.args.dtype _ _ _ c.args.bytes.now c.in-Some.body.now h.small.0 h.small.1 h.small.2 h.found (λ e. c.if-header-ne2.true (omega (arith, e)))

pub returns-in_default-read_run_fields-clause-bad : goal.returns-in_default-read_run_fields-clause-bad
returns-in_default-read_run_fields-clause-bad g c =
    let h = c.in-Some.ensures in
    λ _. no_flat_fields c.args.dtype _ _ _ c.args.bytes.now c.in-Some.body.now h.small.0 h.small.1 h.small.2 (omega arith) (omega (arith, c.if-header-ne2.false)) h.found c.in_default-read_run_fields.ensures.none

pub returns-in_err-values-clause-bad : goal.returns-in_err-values-clause-bad
returns-in_err-values-clause-bad g c =
    let p = err_from_is_err_and c.from_residual.result c.from_residual.ensures.1 in
    let h = c.in-Some.ensures in
    let f = c.in-Some-read_run_fields.ensures in
    rw (p.1, p.2) (λ e. no_flat_values c.args.dtype _ _ _ c.args.bytes.now c.in-Some.body.now h.small.0 h.small.1 h.small.2 (omega arith) (omega (arith, c.if-header-ne2.false)) h.found _ _ _ _ f.small.0 f.small.1 f.small.2 f.found (c.in_err-values.ensures.bad (same_error _ _ e)))

pub returns-clause-found : goal.returns-clause-found
returns-clause-found g c =
    let h = c.in-Some.ensures in
    let f = c.in-Some-read_run_fields.ensures in
    IfOk-weaker c.read_run_array.result _ _ (λ runs r. are_flat_runs c.args.dtype _ _ _ c.args.bytes.now c.in-Some.body.now h.small.0 h.small.1 h.small.2 (omega arith) (omega (arith, c.if-header-ne2.false)) h.found _ _ _ _ f.small.0 f.small.1 f.small.2 f.found (column_of c.in_ok-values.values) (column_of_runs runs) c.in_ok-values.ensures.found r) c.read_run_array.ensures.found

pub returns-clause-bad : goal.returns-clause-bad
returns-clause-bad g c =
    let h = c.in-Some.ensures in
    let f = c.in-Some-read_run_fields.ensures in
    λ e. no_flat_run_column c.args.dtype _ _ _ c.args.bytes.now c.in-Some.body.now h.small.0 h.small.1 h.small.2 (omega arith) (omega (arith, c.if-header-ne2.false)) h.found _ _ _ _ f.small.0 f.small.1 f.small.2 f.found (column_of c.in_ok-values.values) c.in_ok-values.ensures.found (c.read_run_array.ensures.bad e)
