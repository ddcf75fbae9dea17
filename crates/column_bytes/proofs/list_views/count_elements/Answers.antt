use Rattle.std.proofs.Common.{arith}
use Rattle.std.proofs.lemmas.Bool.{OnTrue_at, OnFalse_at}
use Rattle.column_fields.proofs.Varints.{if_none}
use Rattle.column_bytes.proofs.FlatReads.{no_leaf, no_leaf_form}
use Rattle.column_bytes.proofs.ListViews.{elements_seen}
use Rattle.column_bytes.proofs.Messages.{no_header}
use Rattle.column_bytes.proofs.RunLaws.{no_body_of}
use Rattle.column_bytes.proofs.list_views.count_elements.Goals as goal

pub returns-in_err-header-clause-none : goal.returns-in_err-header-clause-none
returns-in_err-header-clause-none c = if_none _ _ (no_leaf c.args.bytes.now (no_header 0 c.args.bytes.now c.in_err-header.ensures.none))

pub returns-then-header-ne1-clause-none : goal.returns-then-header-ne1-clause-none
returns-then-header-ne1-clause-none c =
    let h = c.in_ok-header.ensures in
    no_leaf_form _ _ _ c.args.bytes.now c.in_ok-header.body.now h.small.0 h.small.1 h.small.2 h.found (λ e. c.if-header-ne1.true (omega (arith, e)))

pub returns-then-not-is_leaf-clause-none : goal.returns-then-not-is_leaf-clause-none
returns-then-not-is_leaf-clause-none c =
    let h = c.in_ok-header.ensures in
    no_leaf c.args.bytes.now (no_body_of 0 _ _ 1 _ c.args.bytes.now c.in_ok-header.body.now h.small.0 h.small.1 h.small.2 (omega (arith, c.if-header-ne1.false)) h.found (OnFalse_at c.if-not-is_leaf.true c.is_leaf.ensures.no 0))

pub returns-clause-found : goal.returns-clause-found
returns-clause-found c =
    let h = c.in_ok-header.ensures in
    let found = OnTrue_at c.if-not-is_leaf.false c.is_leaf.ensures.yes in
    let seen = elements_seen _ _ _ c.args.bytes.now c.in_ok-header.body.now found.0 (omega (arith, c.if-header-ne1.false)) h.found found.1 in
    (seen.leaf, seen.message, seen.counted)
