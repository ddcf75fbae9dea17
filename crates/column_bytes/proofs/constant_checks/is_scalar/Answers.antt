use Rattle.std.proofs.Common.{arith}
use Rattle.std.proofs.lemmas.Bool.{OnTrue_at, OnTrue_from, OnFalse_at, OnFalse_from}
use Rattle.column_bytes.proofs.ConstantChecks.{known_found, plain_found}
use Rattle.column_bytes.proofs.Scalars.{no_known, no_plain}
use Rattle.column_bytes.proofs.constant_checks.is_scalar.Goals as goal

pub returns-then-kind-eq-DECIMALS-clause-yes : goal.returns-then-kind-eq-DECIMALS-clause-yes
returns-then-kind-eq-DECIMALS-clause-yes c =
    OnTrue_from c.is_decimal.result _ (λ e. known_found c.args.kind 10 c.args.bytes.now (omega (arith, c.if-kind-eq-DECIMALS.true)) (OnTrue_at e c.is_decimal.ensures.yes))

pub returns-then-kind-eq-DECIMALS-clause-no : goal.returns-then-kind-eq-DECIMALS-clause-no
returns-then-kind-eq-DECIMALS-clause-no c =
    OnFalse_from c.is_decimal.result _ (λ e. no_known c.args.kind 10 c.args.bytes.now (omega (arith, c.if-kind-eq-DECIMALS.true)) (OnFalse_at e c.is_decimal.ensures.no))

pub returns-then-kind-eq-LISTS-clause-yes : goal.returns-then-kind-eq-LISTS-clause-yes
returns-then-kind-eq-LISTS-clause-yes c =
    OnTrue_from c.is_null_list.result _ (λ e. known_found c.args.kind 13 c.args.bytes.now (omega (arith, c.if-kind-eq-LISTS.true)) (OnTrue_at e c.is_null_list.ensures.yes))

pub returns-then-kind-eq-LISTS-clause-no : goal.returns-then-kind-eq-LISTS-clause-no
returns-then-kind-eq-LISTS-clause-no c =
    OnFalse_from c.is_null_list.result _ (λ e. no_known c.args.kind 13 c.args.bytes.now (omega (arith, c.if-kind-eq-LISTS.true)) (OnFalse_at e c.is_null_list.ensures.no))

pub returns-clause-yes : goal.returns-clause-yes
returns-clause-yes c = OnTrue_from c.is_plain.result _ (λ e. plain_found c.args.kind c.args.bytes.now (OnTrue_at e c.is_plain.ensures.yes))

pub returns-clause-no : goal.returns-clause-no
returns-clause-no c =
    OnFalse_from c.is_plain.result _ (λ e. no_plain c.args.kind c.args.bytes.now (λ k. c.if-kind-eq-DECIMALS.false (omega (arith, k))) (λ k. c.if-kind-eq-LISTS.false (omega (arith, k))) (OnFalse_at e c.is_plain.ensures.no))
