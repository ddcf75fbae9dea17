use Rattle.std.proofs.Common.{arith, refl}
use Rattle.std.proofs.lemmas.Bool.{OnTrue_at, OnFalse_at}
use Rattle.column_fields.proofs.Varints.{if_none}
use Rattle.runend_array.specs.Lists.{PlainIndex, RunIndex}
use Rattle.column_bytes.proofs.ListViews.{flat_index_seen, no_index_seen, other_flat_length, other_runs_length, run_index_seen}
use Rattle.column_bytes.proofs.list_views.view_index.Goals as goal

pub returns-then-not-holds_values-clause-none : goal.returns-then-not-holds_values-clause-none
returns-then-not-holds_values-clause-none c =
    other_flat_length c.args.bytes.now c.in-Some.rows c.in-Some.items.now (omega arith) c.in-Some.ensures.found (OnFalse_at c.if-not-holds_values.true c.holds_values.ensures.no)

pub returns-in-Some-clause-found : goal.returns-in-Some-clause-found
returns-in-Some-clause-found c =
    let s = flat_index_seen c.args.bytes.now c.in-Some.rows c.in-Some.items.now c.in-Some.ensures.found (OnTrue_at c.if-not-holds_values.false c.holds_values.ensures.yes) in
    (PlainIndex s.numbers, s.message, record { stored = s.message.stored; of = s.spelt })

pub returns-in_err-runs-clause-none : goal.returns-in_err-runs-clause-none
returns-in_err-runs-clause-none c = if_none _ _ (no_index_seen c.args.bytes.now (omega arith) c.in_default.ensures.none c.in_err-runs.ensures.none)

pub returns-then-not-holds_values-2-clause-none : goal.returns-then-not-holds_values-2-clause-none
returns-then-not-holds_values-2-clause-none c =
    let r = c.in_ok-runs.ensures.found in
    other_runs_length c.args.bytes.now r.0 r.1 c.in_ok-runs.runs (omega arith) c.in_default.ensures.none r.2 (OnFalse_at c.if-not-holds_values-2.true c.holds_values-2.ensures.no)

pub returns-clause-found : goal.returns-clause-found
returns-clause-found c =
    let r = c.in_ok-runs.ensures.found in
    let s = run_index_seen c.args.bytes.now r.0 r.1 c.in_ok-runs.runs r.2 (OnTrue_at c.if-not-holds_values-2.false c.holds_values-2.ensures.yes) in
    (RunIndex r.0 r.1 s.numbers c.in_ok-runs.runs.offset c.in_ok-runs.runs.rows, s.message, record { stored = s.message.stored; of = (r.2.has, refl, refl, s.counted, s.spelt) })
