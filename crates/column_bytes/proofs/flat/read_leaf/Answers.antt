use Rattle.std.proofs.Common.{arith}
use Rattle.std.proofs.lemmas.Result.{IfOk-weaker}
use Rattle.runend_array.specs.Array.{column_of}
use Rattle.column_fields.proofs.Refusals.{same_error}
use Rattle.column_bytes.proofs.Leaves.{kind_body, no_kind_body, no_type_body, no_numbers_body, no_truths_body, no_decimals_body, numbers_body, truths_body, decimals_body}
use Rattle.column_bytes.proofs.flat.read_leaf.Goals as goal

pub returns-in-Ok-clause-found : goal.returns-in-Ok-clause-found
returns-in-Ok-clause-found g c = truths_body _ _ c.args.bytes.now c.in-Ok.truths (omega (arith, c.if-header-eq-TRUTHS.true)) c.in-Ok.ensures.found

pub returns-in-Err-clause-bad : goal.returns-in-Err-clause-bad
returns-in-Err-clause-bad g c =
    λ e. no_truths_body _ _ c.args.bytes.now (omega (arith, c.if-header-eq-TRUTHS.true)) (c.in-Err.ensures.bad (same_error _ _ e))

pub returns-in-Ok-read_numbers-clause-found : goal.returns-in-Ok-read_numbers-clause-found
returns-in-Ok-read_numbers-clause-found g c =
    numbers_body _ _ _ c.args.bytes.now c.in-Ok-read_numbers.numbers c.in-Some.ensures.found c.in-Ok-read_numbers.ensures.found

pub returns-in-Err-read_numbers-clause-bad : goal.returns-in-Err-read_numbers-clause-bad
returns-in-Err-read_numbers-clause-bad g c =
    λ e. no_numbers_body _ _ _ c.args.bytes.now c.in-Some.ensures.found (c.in-Err-read_numbers.ensures.bad (same_error _ _ e))

pub returns-in-Ok-read_decimals-clause-found : goal.returns-in-Ok-read_decimals-clause-found
returns-in-Ok-read_decimals-clause-found g c = decimals_body _ _ c.args.bytes.now c.in-Ok-read_decimals.decimals (omega (arith, c.if-header-eq-DECIMALS.true)) c.in-Ok-read_decimals.ensures.found

pub returns-in-Err-read_decimals-clause-bad : goal.returns-in-Err-read_decimals-clause-bad
returns-in-Err-read_decimals-clause-bad g c =
    λ e. no_decimals_body _ _ c.args.bytes.now (omega (arith, c.if-header-eq-DECIMALS.true)) (c.in-Err-read_decimals.ensures.bad (same_error _ _ e))

pub returns-then-header-eq-TEXTS-clause-found : goal.returns-then-header-eq-TEXTS-clause-found
returns-then-header-eq-TEXTS-clause-found g c =
    IfOk-weaker c.read_texts.result _ _ (λ array h. kind_body _ 11 _ c.args.bytes.now (column_of array) (omega (arith, c.if-header-eq-TEXTS.true)) h) c.read_texts.ensures.found

pub returns-then-header-eq-TEXTS-clause-bad : goal.returns-then-header-eq-TEXTS-clause-bad
returns-then-header-eq-TEXTS-clause-bad g c = λ e. no_kind_body _ 11 _ c.args.bytes.now (omega (arith, c.if-header-eq-TEXTS.true)) (c.read_texts.ensures.bad e)

pub returns-then-header-eq-BYTES-clause-found : goal.returns-then-header-eq-BYTES-clause-found
returns-then-header-eq-BYTES-clause-found g c =
    IfOk-weaker c.read_texts-then-header-eq-BYTES.result _ _ (λ array h. kind_body _ 12 _ c.args.bytes.now (column_of array) (omega (arith, c.if-header-eq-BYTES.true)) h) c.read_texts-then-header-eq-BYTES.ensures.found

pub returns-then-header-eq-BYTES-clause-bad : goal.returns-then-header-eq-BYTES-clause-bad
returns-then-header-eq-BYTES-clause-bad g c = λ e. no_kind_body _ 12 _ c.args.bytes.now (omega (arith, c.if-header-eq-BYTES.true)) (c.read_texts-then-header-eq-BYTES.ensures.bad e)

pub returns-in_default-clause-bad : goal.returns-in_default-clause-bad
returns-in_default-clause-bad g c =
    λ _. no_type_body _ _ c.args.bytes.now (record {
      truths = λ e. c.if-header-eq-TRUTHS.false (omega (arith, e));
      decimals = λ e. c.if-header-eq-DECIMALS.false (omega (arith, e));
      texts = λ e. c.if-header-eq-TEXTS.false (omega (arith, e));
      bytes = λ e. c.if-header-eq-BYTES.false (omega (arith, e));
      numbers = c.in_default.ensures.none;
    })
