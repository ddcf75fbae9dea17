use Rattle.std.proofs.Common.{◌≡◌, arith, refl}
use Rattle.column_fields.specs.BitBytes.{bits_from}
use Rattle.std.proofs.lemmas.Bool.{OnTrue_at, OnFalse_at}
use Rattle.column_fields.proofs.Varints.{if_none}
use Rattle.runend_array.specs.Lists.{ByRuns}
use Rattle.column_bytes.proofs.FlatReads.{no_flags_field}
use Rattle.column_bytes.proofs.ListViews.{flags_seen, no_runs_seen, other_bits_seen, other_rows_seen}
use Rattle.column_bytes.proofs.list_views.view_run_validity.Goals as goal

pub returns-in_err-flags-clause-none : goal.returns-in_err-flags-clause-none
returns-in_err-flags-clause-none c = if_none _ _ (no_flags_field c.args.rows c.args.bytes.now (omega arith) c.in_err-flags.ensures.none)

pub returns-in_err-runs-clause-none : goal.returns-in_err-runs-clause-none
returns-in_err-runs-clause-none c =
    let f = c.in_ok-flags.ensures in
    if_none _ _ (no_runs_seen c.args.rows c.in_ok-flags.flags.now c.args.bytes.now c.in_ok-flags.rest.now (omega arith) f.small f.found c.in_err-runs.ensures.none)

pub returns-then-runs-rows-clause-none : goal.returns-then-runs-rows-clause-none
returns-then-runs-rows-clause-none c =
    let f = c.in_ok-flags.ensures in
    let r = c.in_ok-runs.ensures.found in
    other_rows_seen c.args.rows c.in_ok-flags.flags.now c.args.bytes.now c.in_ok-flags.rest.now (omega arith) f.small f.found r.0 r.1 _ r.2 (λ e. c.if-runs-rows.true (omega (arith, e)))

pub returns-then-not-holds_bits-clause-none : goal.returns-then-not-holds_bits-clause-none
returns-then-not-holds_bits-clause-none c =
    let f = c.in_ok-flags.ensures in
    let r = c.in_ok-runs.ensures.found in
    other_bits_seen c.args.rows c.in_ok-flags.flags.now c.args.bytes.now c.in_ok-flags.rest.now (omega arith) f.small f.found r.0 r.1 _ r.2 (OnFalse_at c.if-not-holds_bits.true c.holds_bits.ensures.no)

pub returns-clause-found : goal.returns-clause-found
returns-clause-found c =
    let f = c.in_ok-flags.ensures in
    let r = c.in_ok-runs.ensures.found in
    let held = OnTrue_at c.if-not-holds_bits.false c.holds_bits.ensures.yes in
    let counted : c.in_ok-runs.runs.rows ≡ c.args.rows = omega (arith, c.if-runs-rows.false) in
    (ByRuns r.0 r.1 (bits_from c.in_ok-runs.runs.count c.in_ok-runs.runs.items.now) c.in_ok-runs.runs.offset c.in_ok-runs.runs.rows, flags_seen c.args.rows c.in_ok-flags.flags.now c.args.bytes.now c.in_ok-flags.rest.now (omega arith) f.small f.found r.0 r.1 c.in_ok-runs.runs r.2 held counted, (r.2.has, refl, refl, counted, omega (arith, held.counted, r.2.has.counted), held.shows))
