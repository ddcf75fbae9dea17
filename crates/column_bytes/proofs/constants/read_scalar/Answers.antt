use Rattle.std.proofs.Common.{arith}
use Rattle.std.proofs.lemmas.Result.{IfOk-weaker}
use Rattle.column_bytes.proofs.Scalars.{known_scalar, no_known, plain_scalar, no_plain}
use Rattle.column_bytes.proofs.constants.read_scalar.Goals as goal

pub returns-then-kind-eq-DECIMALS-clause-found : goal.returns-then-kind-eq-DECIMALS-clause-found
returns-then-kind-eq-DECIMALS-clause-found g c =
    IfOk-weaker c.read_decimal.result _ _ (λ s h. known_scalar c.args.kind 10 c.args.bytes.now s (omega (arith, c.if-kind-eq-DECIMALS.true)) h) c.read_decimal.ensures.found

pub returns-then-kind-eq-DECIMALS-clause-bad : goal.returns-then-kind-eq-DECIMALS-clause-bad
returns-then-kind-eq-DECIMALS-clause-bad g c =
    λ e. no_known c.args.kind 10 c.args.bytes.now (omega (arith, c.if-kind-eq-DECIMALS.true)) (c.read_decimal.ensures.bad e)

pub returns-then-kind-eq-LISTS-clause-found : goal.returns-then-kind-eq-LISTS-clause-found
returns-then-kind-eq-LISTS-clause-found g c =
    IfOk-weaker c.read_null_list.result _ _ (λ s h. known_scalar c.args.kind 13 c.args.bytes.now s (omega (arith, c.if-kind-eq-LISTS.true)) h) c.read_null_list.ensures.found

pub returns-then-kind-eq-LISTS-clause-bad : goal.returns-then-kind-eq-LISTS-clause-bad
returns-then-kind-eq-LISTS-clause-bad g c =
    λ e. no_known c.args.kind 13 c.args.bytes.now (omega (arith, c.if-kind-eq-LISTS.true)) (c.read_null_list.ensures.bad e)

pub returns-clause-found : goal.returns-clause-found
returns-clause-found g c =
    IfOk-weaker c.read_plain.result _ _ (λ s h. plain_scalar c.args.kind c.args.bytes.now s h) c.read_plain.ensures.found

pub returns-clause-bad : goal.returns-clause-bad
returns-clause-bad g c =
    λ e. no_plain c.args.kind c.args.bytes.now (λ k. c.if-kind-eq-DECIMALS.false (omega (arith, k))) (λ k. c.if-kind-eq-LISTS.false (omega (arith, k))) (c.read_plain.ensures.bad e)
