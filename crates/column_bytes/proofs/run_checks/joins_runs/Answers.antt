use Rattle.std.proofs.Common.{arith}
use Rattle.std.proofs.lemmas.Bool.{OnTrue_from, OnFalse_from}
use Rattle.column_fields.proofs.Refusals.{not_true}
use Rattle.column_bytes.proofs.RunChecks.{no_values_header, other_kind, no_span, joined, not_joined}
use Rattle.column_bytes.proofs.run_checks.joins_runs.Goals as goal

pub returns-in_default-clause-no : goal.returns-in_default-clause-no
returns-in_default-clause-no c = no_values_header c.args.fields.values.now _ _ _ _ c.args.fields.lengths.now c.in_default.ensures.none

pub returns-then-values-header-clause-no : goal.returns-then-values-header-clause-no
returns-then-values-header-clause-no c =
    let v = c.in-Some.ensures in
    other_kind c.in-Some.values.kind c.in-Some.values.form c.in-Some.values.rows c.args.fields.values.now c.in-Some._body.now v.small.0 v.small.1 v.small.2 v.found c.args.header.kind c.args.header.rows c.args.fields.offset c.args.fields.ends_type c.args.fields.lengths.now (λ e. c.if-values-header.true (omega (arith, e)))

pub returns-in_default-span_of_lengths-clause-no : goal.returns-in_default-span_of_lengths-clause-no
returns-in_default-span_of_lengths-clause-no c = no_span c.args.fields.values.now _ _ _ _ c.args.fields.lengths.now c.in_default-span_of_lengths.ensures.none

pub returns-clause-yes : goal.returns-clause-yes
returns-clause-yes c =
    let v = c.in-Some.ensures in
    let s = c.in-Some-span_of_lengths.ensures.found in
    OnTrue_from c.shows_window.result _ (λ e. joined c.in-Some.values.kind c.in-Some.values.form c.in-Some.values.rows c.args.fields.values.now c.in-Some._body.now v.small.0 v.small.1 v.small.2 v.found c.args.header.kind c.args.header.rows c.args.fields.offset c.args.fields.ends_type c.args.fields.lengths.now (s.ends, s.fit, s.spelt) (omega (arith, c.if-values-header.false)) ((c.shows_window.ensures s.ends s.rise s.counted s.first_is s.last_is).0 e))

pub returns-clause-no : goal.returns-clause-no
returns-clause-no c =
    let v = c.in-Some.ensures in
    let s = c.in-Some-span_of_lengths.ensures.found in
    OnFalse_from c.shows_window.result _ (λ e. not_joined c.in-Some.values.kind c.in-Some.values.form c.in-Some.values.rows c.args.fields.values.now c.in-Some._body.now v.small.0 v.small.1 v.small.2 v.found c.args.header.kind c.args.header.rows c.args.fields.offset c.args.fields.ends_type c.args.fields.lengths.now s.ends s.rise s.spelt (λ w. not_true _ e ((c.shows_window.ensures s.ends s.rise s.counted s.first_is s.last_is).1 w)))
