use Rattle.std.proofs.Common.{arith, ap, sym, ◌∙◌}
use Rattle.std.proofs.lemmas.Result.{err_from_is_err_and}
use Rattle.column_core.specs.FlatColumn.{leaf_of}
use Rattle.runend_array.specs.Array.{column_of}
use Rattle.runend_array.specs.Column.{OfLeaf}
use Rattle.column_fields.proofs.Refusals.{same_error}
use Rattle.column_bytes.proofs.FlatReads.{is_leaf, leaf_found, no_leaf, no_leaf_form}
use Rattle.column_bytes.proofs.Messages.{no_header}
use Rattle.column_bytes.proofs.RunLaws.{no_body_of}
use Rattle.column_bytes.proofs.list_parts.read_elements.Goals as goal

pub returns-in_default-clause-bad : goal.returns-in_default-clause-bad
returns-in_default-clause-bad g c = λ _. no_leaf c.args.bytes.now (no_header 0 c.args.bytes.now c.in_default.ensures.none)

pub returns-then-header-ne1-clause-bad : goal.returns-then-header-ne1-clause-bad
returns-then-header-ne1-clause-bad g c =
    let h = c.in-Some.ensures in
    λ _. no_leaf_form _ _ _ c.args.bytes.now c.in-Some.body.now h.small.0 h.small.1 h.small.2 h.found (λ e. c.if-header-ne1.true (omega (arith, e)))

pub returns-in_err-column-clause-bad : goal.returns-in_err-column-clause-bad
returns-in_err-column-clause-bad g c =
    let p = err_from_is_err_and c.from_residual.result c.from_residual.ensures.1 in
    let h = c.in-Some.ensures in
    rw (p.1, p.2) (λ e. no_leaf c.args.bytes.now (no_body_of 0 _ _ 1 _ c.args.bytes.now c.in-Some.body.now h.small.0 h.small.1 h.small.2 (omega (arith, c.if-header-ne1.false)) h.found (c.in_err-column.ensures.bad (same_error _ _ e) 0)))

pub flat_of-requires : goal.flat_of-requires
flat_of-requires g c = is_leaf (column_of c.in_ok-column.column) 0 _ _ c.in-Some.body.now c.in_ok-column.ensures.found

pub returns-clause-found : goal.returns-clause-found
returns-clause-found g c =
    leaf_found _ _ _ c.args.bytes.now c.in-Some.body.now (column_of c.in_ok-column.column) (leaf_of c.in_ok-new.field-0.value) (omega (arith, c.if-header-ne1.false)) c.in-Some.ensures.found c.in_ok-column.ensures.found (c.flat_of.ensures ∙ ap (λ x. OfLeaf (leaf_of x)) (sym c.in_ok-new.ensures.ok))
