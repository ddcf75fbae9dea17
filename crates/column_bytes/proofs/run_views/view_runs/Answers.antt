use Rattle.std.proofs.Common.{arith}
use Rattle.column_fields.proofs.Varints.{if_none}
use Rattle.column_fields.proofs.Refusals.{not_true}
use Rattle.column_bytes.proofs.RunViews.{no_runs_header, other_runs_kind, other_runs_form, no_seen_fields, no_seen_values, no_seen_ends, no_seen_window, seen_spelt}
use Rattle.column_bytes.proofs.run_views.view_runs.Goals as goal

pub returns-in_err-header-clause-none : goal.returns-in_err-header-clause-none
returns-in_err-header-clause-none c = if_none _ _ (no_runs_header c.args.kind c.args.bytes.now (omega arith) c.in_err-header.ensures.none)

pub returns-then-header-kind-clause-none : goal.returns-then-header-kind-clause-none
returns-then-header-kind-clause-none c =
    let h = c.in_ok-header.ensures in
    other_runs_kind c.args.kind _ _ _ c.args.bytes.now c.in_ok-header.body.now (omega arith) h.small.0 h.small.1 h.small.2 h.found (omega arith) (λ e. c.if-header-kind.true (omega (arith, e)))

pub returns-then-header-ne2-clause-none : goal.returns-then-header-ne2-clause-none
returns-then-header-ne2-clause-none c =
    let h = c.in_ok-header.ensures in
    other_runs_form c.args.kind _ _ _ c.args.bytes.now c.in_ok-header.body.now (omega arith) h.small.0 h.small.1 h.small.2 h.found (omega arith) (λ e. c.if-header-ne2.true (omega (arith, e)))

pub returns-in_err-fields-clause-none : goal.returns-in_err-fields-clause-none
returns-in_err-fields-clause-none c =
    let h = c.in_ok-header.ensures in
    if_none _ _ (no_seen_fields c.args.kind _ _ _ c.args.bytes.now c.in_ok-header.body.now (omega arith) h.small.0 h.small.1 h.small.2 h.found (omega arith) c.in_err-fields.ensures.none)

pub returns-in_err-runs-clause-none : goal.returns-in_err-runs-clause-none
returns-in_err-runs-clause-none c =
    let h = c.in_ok-header.ensures in
    let f = c.in_ok-fields.ensures in
    if_none _ _ (no_seen_values c.args.kind _ _ _ c.args.bytes.now c.in_ok-header.body.now (omega arith) h.small.0 h.small.1 h.small.2 h.found (omega arith) _ _ _ c.in_ok-fields.fields.values.now f.small.0 f.small.1 f.small.2 f.found c.in_err-runs.ensures.none)

pub returns-in_err-span-clause-none : goal.returns-in_err-span-clause-none
returns-in_err-span-clause-none c =
    let h = c.in_ok-header.ensures in
    let f = c.in_ok-fields.ensures in
    if_none _ _ (no_seen_ends c.args.kind _ _ _ c.args.bytes.now c.in_ok-header.body.now (omega arith) h.small.0 h.small.1 h.small.2 h.found (omega arith) _ _ _ c.in_ok-fields.fields.values.now f.small.0 f.small.1 f.small.2 f.found c.in_err-span.ensures.none)

pub returns-then-not-shows_window-clause-none : goal.returns-then-not-shows_window-clause-none
returns-then-not-shows_window-clause-none c =
    let h = c.in_ok-header.ensures in
    let f = c.in_ok-fields.ensures in
    let s = c.in_ok-span.ensures.found in
    no_seen_window c.args.kind _ _ _ c.args.bytes.now c.in_ok-header.body.now (omega arith) h.small.0 h.small.1 h.small.2 h.found (omega arith) _ _ _ c.in_ok-fields.fields.values.now f.small.0 f.small.1 f.small.2 f.found s.ends c.in_ok-runs.items.now c.in_ok-runs.runs s.fit s.rise s.spelt c.in_ok-runs.ensures.found (λ w. not_true _ c.if-not-shows_window.true ((c.shows_window.ensures s.ends s.rise s.counted s.first_is s.last_is).1 w))

pub returns-clause-found : goal.returns-clause-found
returns-clause-found c =
    let h = c.in_ok-header.ensures in
    let f = c.in_ok-fields.ensures in
    let s = c.in_ok-span.ensures.found in
    let w = (c.shows_window.ensures s.ends s.rise s.counted s.first_is s.last_is).0 c.if-not-shows_window.false in (
      _,
      s.ends,
      record {
        has = record { fit = s.fit; rise = s.rise; window = w.0; few = omega (arith, s.counted); counted = s.counted; spelt = s.spelt };
        short = c.in_ok-runs.ensures.found.short;
        spelt = seen_spelt c.args.kind _ _ _ c.args.bytes.now c.in_ok-header.body.now (omega arith) h.small.0 h.small.1 h.small.2 h.found (omega arith) _ _ _ c.in_ok-fields.fields.values.now f.small.0 f.small.1 f.small.2 f.found s.ends c.in_ok-runs.items.now c.in_ok-runs.runs s.fit s.rise s.spelt c.in_ok-runs.ensures.found (omega (arith, c.if-header-kind.false)) (omega (arith, c.if-header-ne2.false)) w.1;
      },
    )
