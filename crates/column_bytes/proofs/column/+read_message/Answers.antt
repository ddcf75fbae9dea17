use Rattle.std.proofs.Common.{arith, ◌-◌}
use Rattle.std.proofs.lemmas.Result.{IfOk-weaker, err_from_is_err_and}
use Rattle.runend_array.specs.Array.{column_of}
use Rattle.column_fields.proofs.Refusals.{same_error}
use Rattle.column_bytes.proofs.Messages.{no_body, other_form, no_levels, no_fields, no_values, no_runs, runs_body}
use Rattle.column_bytes.proofs.RunLaws.{no_body_of, body_message, rest_small}
use Rattle.column_bytes.proofs.column.+read_message.Goals as goal

pub returns-then-header-eq1-clause-bad : goal.returns-then-header-eq1-clause-bad
returns-then-header-eq1-clause-bad g t c =
    λ e. no_body_of c.args.levels _ _ 1 _ c.args.bytes.now c.in-Some.body.now c.in-Some.ensures.small.0 c.in-Some.ensures.small.1 c.in-Some.ensures.small.2 (omega arith) c.in-Some.ensures.found (c.read_leaf.ensures.bad e c.args.levels)

pub returns-then-header-eq3-clause-bad : goal.returns-then-header-eq3-clause-bad
returns-then-header-eq3-clause-bad g t c =
    λ e. no_body_of c.args.levels _ _ 3 _ c.args.bytes.now c.in-Some.body.now c.in-Some.ensures.small.0 c.in-Some.ensures.small.1 c.in-Some.ensures.small.2 (omega arith) c.in-Some.ensures.found (c.read_constant.ensures.bad e c.args.levels)

pub returns-then-header-eq4-clause-found : goal.returns-then-header-eq4-clause-found
returns-then-header-eq4-clause-found g t c =
    IfOk-weaker c.read_lists.result _ _ (λ array h. body_message c.args.levels _ _ 4 _ c.args.bytes.now c.in-Some.body.now (column_of array) (omega arith) c.in-Some.ensures.found h) c.read_lists.ensures.found

pub returns-then-header-eq4-clause-bad : goal.returns-then-header-eq4-clause-bad
returns-then-header-eq4-clause-bad g t c =
    λ e. no_body_of c.args.levels _ _ 4 _ c.args.bytes.now c.in-Some.body.now c.in-Some.ensures.small.0 c.in-Some.ensures.small.1 c.in-Some.ensures.small.2 (omega arith) c.in-Some.ensures.found (c.read_lists.ensures.bad e)

pub returns-then-header-ne2-clause-bad : goal.returns-then-header-ne2-clause-bad
returns-then-header-ne2-clause-bad g t c =
    λ _. no_body c.args.levels _ _ _ c.args.bytes.now c.in-Some.body.now c.in-Some.ensures.small.0 c.in-Some.ensures.small.1 c.in-Some.ensures.small.2 c.in-Some.ensures.found (other_form c.args.levels _ _ _ c.in-Some.body.now (λ e. c.if-header-eq1.false (omega arith)) (λ e. c.if-header-ne2.true (omega arith)) (λ e. c.if-header-eq3.false (omega arith)) (λ e. c.if-header-eq4.false (omega arith)))

pub returns-then-levels-eq0-clause-bad : goal.returns-then-levels-eq0-clause-bad
returns-then-levels-eq0-clause-bad g t c =
    λ _. no_body_of c.args.levels _ _ 2 _ c.args.bytes.now c.in-Some.body.now c.in-Some.ensures.small.0 c.in-Some.ensures.small.1 c.in-Some.ensures.small.2 (omega arith) c.in-Some.ensures.found (no_levels c.args.levels _ _ c.in-Some.body.now (omega arith))

pub returns-in_default-read_run_fields-clause-bad : goal.returns-in_default-read_run_fields-clause-bad
returns-in_default-read_run_fields-clause-bad g t c =
    λ _. no_body_of c.args.levels _ _ 2 _ c.args.bytes.now c.in-Some.body.now c.in-Some.ensures.small.0 c.in-Some.ensures.small.1 c.in-Some.ensures.small.2 (omega arith) c.in-Some.ensures.found (no_fields c.args.levels _ _ c.in-Some.body.now (rest_small _ _ _ c.args.bytes.now c.in-Some.body.now (omega arith) c.in-Some.ensures.found) c.in_default-read_run_fields.ensures.none)

pub returns-in_err-values-clause-bad : goal.returns-in_err-values-clause-bad
returns-in_err-values-clause-bad g t c =
    let p = err_from_is_err_and c.from_residual.result c.from_residual.ensures.1 in
    let f = c.in-Some-read_run_fields.ensures in
    rw (p.1, p.2) (λ e. no_body_of c.args.levels _ _ 2 _ c.args.bytes.now c.in-Some.body.now c.in-Some.ensures.small.0 c.in-Some.ensures.small.1 c.in-Some.ensures.small.2 (omega arith) c.in-Some.ensures.found (no_values c.args.levels (c.args.levels - 1) _ _ _ _ _ _ c.in-Some.body.now (omega arith) (rest_small _ _ _ c.args.bytes.now c.in-Some.body.now (omega arith) c.in-Some.ensures.found) f.small.0 f.small.1 f.small.2 f.found (c.in_err-values.ensures.bad (same_error _ _ e))))

pub returns-clause-found : goal.returns-clause-found
returns-clause-found g t c =
    let f = c.in-Some-read_run_fields.ensures in
    IfOk-weaker c.read_runs.result _ _ (λ array h. body_message c.args.levels _ _ 2 _ c.args.bytes.now c.in-Some.body.now (column_of array) (omega arith) c.in-Some.ensures.found (runs_body c.args.levels (c.args.levels - 1) _ _ _ _ _ _ c.in-Some.body.now (column_of c.in_ok-values.values) (column_of array) (omega arith) f.found c.in_ok-values.ensures.found h)) c.read_runs.ensures.found

pub returns-clause-bad : goal.returns-clause-bad
returns-clause-bad g t c =
    let f = c.in-Some-read_run_fields.ensures in
    λ e. no_body_of c.args.levels _ _ 2 _ c.args.bytes.now c.in-Some.body.now c.in-Some.ensures.small.0 c.in-Some.ensures.small.1 c.in-Some.ensures.small.2 (omega arith) c.in-Some.ensures.found (no_runs c.args.levels (c.args.levels - 1) _ _ _ _ _ _ c.in-Some.body.now (column_of c.in_ok-values.values) (omega arith) (rest_small _ _ _ c.args.bytes.now c.in-Some.body.now (omega arith) c.in-Some.ensures.found) f.small.0 f.small.1 f.small.2 f.found c.in_ok-values.ensures.found (c.read_runs.ensures.bad e))
