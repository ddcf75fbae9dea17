use Rattle.std.proofs.Common.{arith, ◌-◌}
use Rattle.std.proofs.lemmas.Bool.{OnTrue_at, OnTrue_from, OnFalse_at, OnFalse_from}
use Rattle.column_bytes.proofs.MessageChecks.{body_found, runs_found, no_joined}
use Rattle.column_bytes.proofs.Messages.{no_header, no_body, other_form, no_levels, no_fields, no_values}
use Rattle.column_bytes.proofs.RunLaws.{no_body_of, rest_small}
use Rattle.column_bytes.proofs.message_checks.+is_message_within.Goals as goal

pub returns-in_default-clause-no : goal.returns-in_default-clause-no
returns-in_default-clause-no t c = no_header c.args.levels c.args.bytes.now c.in_default.ensures.none

pub returns-then-header-eq4-clause-yes : goal.returns-then-header-eq4-clause-yes
returns-then-header-eq4-clause-yes t c =
    OnTrue_from c.are_lists.result _ (λ e. body_found c.args.levels c.args.levels _ _ 4 _ c.args.bytes.now c.in-Some.body.now (omega arith) (omega (arith, c.if-header-eq4.true)) c.in-Some.ensures.found (OnTrue_at e c.are_lists.ensures.yes))

pub returns-then-header-eq4-clause-no : goal.returns-then-header-eq4-clause-no
returns-then-header-eq4-clause-no t c =
    let s = c.in-Some.ensures.small in
    OnFalse_from c.are_lists.result _ (λ e. no_body_of c.args.levels _ _ 4 _ c.args.bytes.now c.in-Some.body.now s.0 s.1 s.2 (omega (arith, c.if-header-eq4.true)) c.in-Some.ensures.found (OnFalse_at e c.are_lists.ensures.no))

pub returns-then-header-eq1-clause-yes : goal.returns-then-header-eq1-clause-yes
returns-then-header-eq1-clause-yes t c =
    OnTrue_from c.is_leaf.result _ (λ e. body_found 0 c.args.levels _ _ 1 _ c.args.bytes.now c.in-Some.body.now (omega arith) (omega (arith, c.if-header-eq1.true)) c.in-Some.ensures.found (OnTrue_at e c.is_leaf.ensures.yes))

pub returns-then-header-eq1-clause-no : goal.returns-then-header-eq1-clause-no
returns-then-header-eq1-clause-no t c =
    let s = c.in-Some.ensures.small in
    OnFalse_from c.is_leaf.result _ (λ e. no_body_of c.args.levels _ _ 1 _ c.args.bytes.now c.in-Some.body.now s.0 s.1 s.2 (omega (arith, c.if-header-eq1.true)) c.in-Some.ensures.found (OnFalse_at e c.is_leaf.ensures.no c.args.levels))

pub returns-then-header-eq3-clause-yes : goal.returns-then-header-eq3-clause-yes
returns-then-header-eq3-clause-yes t c =
    OnTrue_from c.is_constant.result _ (λ e. body_found 0 c.args.levels _ _ 3 _ c.args.bytes.now c.in-Some.body.now (omega arith) (omega (arith, c.if-header-eq3.true)) c.in-Some.ensures.found (OnTrue_at e c.is_constant.ensures.yes))

pub returns-then-header-eq3-clause-no : goal.returns-then-header-eq3-clause-no
returns-then-header-eq3-clause-no t c =
    let s = c.in-Some.ensures.small in
    OnFalse_from c.is_constant.result _ (λ e. no_body_of c.args.levels _ _ 3 _ c.args.bytes.now c.in-Some.body.now s.0 s.1 s.2 (omega (arith, c.if-header-eq3.true)) c.in-Some.ensures.found (OnFalse_at e c.is_constant.ensures.no c.args.levels))

pub returns-then-header-ne2-clause-no : goal.returns-then-header-ne2-clause-no
returns-then-header-ne2-clause-no t c =
    let s = c.in-Some.ensures.small in
    no_body c.args.levels _ _ _ c.args.bytes.now c.in-Some.body.now s.0 s.1 s.2 c.in-Some.ensures.found (other_form c.args.levels _ _ _ c.in-Some.body.now (λ e. c.if-header-eq1.false (omega (arith, e))) (λ e. c.if-header-ne2.true (omega (arith, e))) (λ e. c.if-header-eq3.false (omega (arith, e))) (λ e. c.if-header-eq4.false (omega (arith, e))))

pub returns-then-levels-eq0-clause-no : goal.returns-then-levels-eq0-clause-no
returns-then-levels-eq0-clause-no t c =
    let s = c.in-Some.ensures.small in
    no_body_of c.args.levels _ _ 2 _ c.args.bytes.now c.in-Some.body.now s.0 s.1 s.2 (omega (arith, c.if-header-ne2.false)) c.in-Some.ensures.found (no_levels c.args.levels _ _ c.in-Some.body.now (omega (arith, c.if-levels-eq0.true)))

pub returns-in_default-read_run_fields-clause-no : goal.returns-in_default-read_run_fields-clause-no
returns-in_default-read_run_fields-clause-no t c =
    let s = c.in-Some.ensures.small in
    no_body_of c.args.levels _ _ 2 _ c.args.bytes.now c.in-Some.body.now s.0 s.1 s.2 (omega (arith, c.if-header-ne2.false)) c.in-Some.ensures.found (no_fields c.args.levels _ _ c.in-Some.body.now (rest_small _ _ _ c.args.bytes.now c.in-Some.body.now (omega arith) c.in-Some.ensures.found) c.in_default-read_run_fields.ensures.none)

pub returns-then-not-joins_runs-clause-no : goal.returns-then-not-joins_runs-clause-no
returns-then-not-joins_runs-clause-no t c =
    let s = c.in-Some.ensures.small in
    let f = c.in-Some-read_run_fields.ensures in
    no_body_of c.args.levels _ _ 2 _ c.args.bytes.now c.in-Some.body.now s.0 s.1 s.2 (omega (arith, c.if-header-ne2.false)) c.in-Some.ensures.found (no_joined c.args.levels (c.args.levels - 1) _ _ _ _ _ _ c.in-Some.body.now (omega (arith, c.if-levels-eq0.false)) (rest_small _ _ _ c.args.bytes.now c.in-Some.body.now (omega arith) c.in-Some.ensures.found) f.small.0 f.small.1 f.small.2 f.found (OnFalse_at c.if-not-joins_runs.true c.joins_runs.ensures.no))

pub returns-clause-yes : goal.returns-clause-yes
returns-clause-yes t c =
    let f = c.in-Some-read_run_fields.ensures in
    OnTrue_from c.is_message_within.result _ (λ e. runs_found c.args.levels (c.args.levels - 1) _ _ _ _ _ _ _ c.args.bytes.now c.in-Some.body.now (omega (arith, c.if-levels-eq0.false)) (omega (arith, c.if-header-ne2.false)) c.in-Some.ensures.found f.found (OnTrue_at c.if-not-joins_runs.false c.joins_runs.ensures.yes) (OnTrue_at e c.is_message_within.ensures.yes))

pub returns-clause-no : goal.returns-clause-no
returns-clause-no t c =
    let s = c.in-Some.ensures.small in
    let f = c.in-Some-read_run_fields.ensures in
    OnFalse_from c.is_message_within.result _ (λ e. no_body_of c.args.levels _ _ 2 _ c.args.bytes.now c.in-Some.body.now s.0 s.1 s.2 (omega (arith, c.if-header-ne2.false)) c.in-Some.ensures.found (no_values c.args.levels (c.args.levels - 1) _ _ _ _ _ _ c.in-Some.body.now (omega (arith, c.if-levels-eq0.false)) (rest_small _ _ _ c.args.bytes.now c.in-Some.body.now (omega arith) c.in-Some.ensures.found) f.small.0 f.small.1 f.small.2 f.found (OnFalse_at e c.is_message_within.ensures.no)))
