use Rattle.std.proofs.Common.{arith}
use Rattle.std.proofs.lemmas.Result.{IfOk-weaker, err_from_is_err_and}
use Rattle.runend_array.specs.Array.{column_of}
use Rattle.column_fields.proofs.Refusals.{same_error}
use Rattle.column_bytes.proofs.FlatReads.{no_index_header, flat_index, flat_index_read, no_flat_index, run_index, run_index_read, no_run_index}
use Rattle.column_bytes.proofs.list_parts.read_index.Goals as goal

pub returns-in_default-clause-bad : goal.returns-in_default-clause-bad
returns-in_default-clause-bad g c = λ _. no_index_header c.args.bytes.now c.in_default.ensures.none

pub returns-then-header-eq1-clause-found : goal.returns-then-header-eq1-clause-found
returns-then-header-eq1-clause-found g c =
    IfOk-weaker c.read_flat.result _ _ (λ index h. flat_index_read c.args.bytes.now (column_of index) h) c.read_flat.ensures.found

pub returns-then-header-eq1-clause-plain : goal.returns-then-header-eq1-clause-plain
returns-then-header-eq1-clause-plain g c =
    IfOk-weaker c.read_flat.result _ _ (λ index h. flat_index c.args.bytes.now (column_of index) h) c.read_flat.ensures.found

pub returns-then-header-eq1-clause-bad : goal.returns-then-header-eq1-clause-bad
returns-then-header-eq1-clause-bad g c =
    let h = c.in-Some.ensures in
    λ e. no_flat_index _ _ _ c.args.bytes.now _ h.small.0 h.small.1 h.small.2 (omega (arith, c.if-header-eq1.true)) h.found (c.read_flat.ensures.bad e)

pub returns-in_err-runs-clause-bad : goal.returns-in_err-runs-clause-bad
returns-in_err-runs-clause-bad g c =
    let p = err_from_is_err_and c.from_residual.result c.from_residual.ensures.1 in
    let h = c.in-Some.ensures in
    rw (p.1, p.2) (λ e. no_run_index _ _ _ c.args.bytes.now _ h.small.0 h.small.1 h.small.2 (λ known. c.if-header-eq1.false (omega (arith, known))) h.found (c.in_err-runs.ensures.bad (same_error _ _ e)))

pub returns-clause-found : goal.returns-clause-found
returns-clause-found g c =
    IfOk-weaker c.of_runs.result _ _ (λ index is. run_index_read c.args.bytes.now _ (column_of index) is c.in_ok-runs.ensures.found) c.of_runs.ensures.form

pub returns-clause-plain : goal.returns-clause-plain
returns-clause-plain g c =
    IfOk-weaker c.of_runs.result _ _ (λ index is. run_index c.args.bytes.now _ (column_of index) is c.in_ok-runs.ensures.found) c.of_runs.ensures.form
