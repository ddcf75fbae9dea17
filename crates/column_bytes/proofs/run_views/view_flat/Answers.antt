use Rattle.std.proofs.Common.{arith}
use Rattle.column_fields.proofs.Varints.{if_none}
use Rattle.column_bytes.proofs.RunViews.{no_flat_header, other_flat_kind, other_flat_form, not_required, no_flat_items, flat_seen}
use Rattle.column_bytes.proofs.run_views.view_flat.Goals as goal

pub returns-in_err-header-clause-none : goal.returns-in_err-header-clause-none
returns-in_err-header-clause-none c = if_none _ _ (no_flat_header c.args.kind c.args.bytes.now (omega arith) c.in_err-header.ensures.none)

pub returns-then-header-kind-clause-none : goal.returns-then-header-kind-clause-none
returns-then-header-kind-clause-none c =
    let h = c.in_ok-header.ensures in
    other_flat_kind c.args.kind _ _ _ c.args.bytes.now c.in_ok-header.body.now (omega arith) h.small.0 h.small.1 h.small.2 h.found (λ e. c.if-header-kind.true (omega (arith, e)))

pub returns-then-header-ne1-clause-none : goal.returns-then-header-ne1-clause-none
returns-then-header-ne1-clause-none c =
    let h = c.in_ok-header.ensures in
    other_flat_form c.args.kind _ _ _ c.args.bytes.now c.in_ok-header.body.now (omega arith) h.small.0 h.small.1 h.small.2 h.found (λ e. c.if-header-ne1.true (omega (arith, e)))

pub returns-in_err-rest-clause-none : goal.returns-in_err-rest-clause-none
returns-in_err-rest-clause-none c =
    let h = c.in_ok-header.ensures in
    if_none _ _ (not_required c.args.kind _ _ _ c.args.bytes.now c.in_ok-header.body.now (omega arith) h.small.0 h.small.1 h.small.2 h.found c.in_err-rest.ensures.none)

pub returns-in_err-items-clause-none : goal.returns-in_err-items-clause-none
returns-in_err-items-clause-none c =
    let h = c.in_ok-header.ensures in
    if_none _ _ (no_flat_items c.args.kind _ _ _ c.args.bytes.now c.in_ok-header.body.now (omega arith) h.small.0 h.small.1 h.small.2 h.found c.in_ok-rest.rest.now c.in_ok-rest.ensures.found c.in_err-items.ensures.none)

pub returns-clause-found : goal.returns-clause-found
returns-clause-found c =
    let h = c.in_ok-header.ensures in
    flat_seen c.args.kind _ _ _ c.args.bytes.now c.in_ok-header.body.now (omega arith) h.small.0 h.small.1 h.small.2 h.found c.in_ok-rest.rest.now c.in_ok-items.items.now (omega (arith, c.if-header-kind.false)) (omega (arith, c.if-header-ne1.false)) c.in_ok-rest.ensures.found c.in_ok-items.ensures.found c.in_ok-items.ensures.small
