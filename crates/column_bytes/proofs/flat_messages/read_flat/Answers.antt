use Rattle.std.proofs.Common.{arith}
use Rattle.std.proofs.lemmas.Result.{err_from_is_err_and}
use Rattle.runend_array.specs.Array.{column_of}
use Rattle.column_fields.proofs.Refusals.{same_error}
use Rattle.column_bytes.proofs.FlatReads.{both_ok, flat_found, no_flat, no_flat_form, other_type}
use Rattle.column_bytes.proofs.Messages.{no_header}
use Rattle.column_bytes.proofs.RunLaws.{no_body_of}
use Rattle.column_bytes.proofs.flat_messages.read_flat.Goals as goal

pub returns-in_default-clause-bad : goal.returns-in_default-clause-bad
returns-in_default-clause-bad g c = λ _. no_flat c.args.dtype c.args.bytes.now (no_header 0 c.args.bytes.now c.in_default.ensures.none)

pub returns-then-header-ne1-clause-bad : goal.returns-then-header-ne1-clause-bad
returns-then-header-ne1-clause-bad g c =
    let h = c.in-Some.ensures in
    λ _. no_flat_form c.args.dtype _ _ _ c.args.bytes.now c.in-Some.body.now h.small.0 h.small.1 h.small.2 h.found (λ e. c.if-header-ne1.true (omega (arith, e)))

pub returns-in_err-column-clause-bad : goal.returns-in_err-column-clause-bad
returns-in_err-column-clause-bad g c =
    let p = err_from_is_err_and c.from_residual.result c.from_residual.ensures.1 in
    let h = c.in-Some.ensures in
    rw (p.1, p.2) (λ e. no_flat c.args.dtype c.args.bytes.now (no_body_of 0 _ _ 1 _ c.args.bytes.now c.in-Some.body.now h.small.0 h.small.1 h.small.2 (omega (arith, c.if-header-ne1.false)) h.found (c.in_err-column.ensures.bad (same_error _ _ e) 0)))

pub returns-clause-found : goal.returns-clause-found
returns-clause-found g c =
    let h = c.in-Some.ensures in
    both_ok c.of_type.result _ _ _ (λ found same typed. flat_found c.args.dtype _ _ _ c.args.bytes.now c.in-Some.body.now (column_of c.in_ok-column.column) (column_of found) (omega (arith, c.if-header-ne1.false)) h.found c.in_ok-column.ensures.found same typed) c.of_type.ensures.same c.of_type.ensures.typed

pub returns-clause-bad : goal.returns-clause-bad
returns-clause-bad g c =
    let h = c.in-Some.ensures in
    λ e. other_type c.args.dtype _ _ _ c.args.bytes.now c.in-Some.body.now (column_of c.in_ok-column.column) (omega arith) (omega (arith, c.if-header-ne1.false)) h.found c.in_ok-column.ensures.found (c.of_type.ensures.other e)
