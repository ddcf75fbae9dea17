use Rattle.std.proofs.Common.{arith}
use Rattle.std.proofs.lemmas.Bool.{OnTrue_at, OnTrue_from, OnFalse_at, OnFalse_from}
use Rattle.column_core.specs.declared.varbinview.VarBinKind.TheVariants.{Utf8, Binary}
use Rattle.column_bytes.proofs.LeafChecks.{numbers_column, truths_column, decimals_column, texts_column}
use Rattle.column_bytes.proofs.Leaves.{no_type_body, no_numbers_body, no_truths_body, no_decimals_body, no_texts_body}
use Rattle.column_bytes.proofs.leaf_checks.is_leaf.Goals as goal

pub returns-then-header-eq-TRUTHS-clause-yes : goal.returns-then-header-eq-TRUTHS-clause-yes
returns-then-header-eq-TRUTHS-clause-yes c =
    OnTrue_from c.are_truths.result _ (λ e. truths_column _ _ c.args.bytes.now (omega (arith, c.if-header-eq-TRUTHS.true)) (OnTrue_at e c.are_truths.ensures.yes))

pub returns-then-header-eq-TRUTHS-clause-no : goal.returns-then-header-eq-TRUTHS-clause-no
returns-then-header-eq-TRUTHS-clause-no c =
    OnFalse_from c.are_truths.result _ (λ e. no_truths_body _ _ c.args.bytes.now (omega (arith, c.if-header-eq-TRUTHS.true)) (OnFalse_at e c.are_truths.ensures.no))

pub returns-then-header-eq-DECIMALS-clause-yes : goal.returns-then-header-eq-DECIMALS-clause-yes
returns-then-header-eq-DECIMALS-clause-yes c =
    OnTrue_from c.are_decimals.result _ (λ e. decimals_column _ _ c.args.bytes.now (omega (arith, c.if-header-eq-DECIMALS.true)) (OnTrue_at e c.are_decimals.ensures.yes))

pub returns-then-header-eq-DECIMALS-clause-no : goal.returns-then-header-eq-DECIMALS-clause-no
returns-then-header-eq-DECIMALS-clause-no c =
    OnFalse_from c.are_decimals.result _ (λ e. no_decimals_body _ _ c.args.bytes.now (omega (arith, c.if-header-eq-DECIMALS.true)) (OnFalse_at e c.are_decimals.ensures.no))

pub returns-then-header-eq-TEXTS-clause-yes : goal.returns-then-header-eq-TEXTS-clause-yes
returns-then-header-eq-TEXTS-clause-yes c =
    OnTrue_from c.are_text_fields.result _ (λ e. texts_column Utf8 _ _ c.args.bytes.now (omega (arith, c.if-header-eq-TEXTS.true)) (OnTrue_at e c.are_text_fields.ensures.yes))

pub returns-then-header-eq-TEXTS-clause-no : goal.returns-then-header-eq-TEXTS-clause-no
returns-then-header-eq-TEXTS-clause-no c =
    OnFalse_from c.are_text_fields.result _ (λ e. no_texts_body Utf8 _ _ c.args.bytes.now (omega (arith, c.if-header-eq-TEXTS.true)) (OnFalse_at e c.are_text_fields.ensures.no))

pub returns-then-header-eq-BYTES-clause-yes : goal.returns-then-header-eq-BYTES-clause-yes
returns-then-header-eq-BYTES-clause-yes c =
    OnTrue_from c.are_text_fields-then-header-eq-BYTES.result _ (λ e. texts_column Binary _ _ c.args.bytes.now (omega (arith, c.if-header-eq-BYTES.true)) (OnTrue_at e c.are_text_fields-then-header-eq-BYTES.ensures.yes))

pub returns-then-header-eq-BYTES-clause-no : goal.returns-then-header-eq-BYTES-clause-no
returns-then-header-eq-BYTES-clause-no c =
    OnFalse_from c.are_text_fields-then-header-eq-BYTES.result _ (λ e. no_texts_body Binary _ _ c.args.bytes.now (omega (arith, c.if-header-eq-BYTES.true)) (OnFalse_at e c.are_text_fields-then-header-eq-BYTES.ensures.no))

pub returns-in_default-clause-no : goal.returns-in_default-clause-no
returns-in_default-clause-no c =
    no_type_body _ _ c.args.bytes.now (record {
      truths = λ e. c.if-header-eq-TRUTHS.false (omega (arith, e));
      decimals = λ e. c.if-header-eq-DECIMALS.false (omega (arith, e));
      texts = λ e. c.if-header-eq-TEXTS.false (omega (arith, e));
      bytes = λ e. c.if-header-eq-BYTES.false (omega (arith, e));
      numbers = c.in_default.ensures.none;
    })

pub returns-clause-yes : goal.returns-clause-yes
returns-clause-yes c =
    OnTrue_from c.are_numbers.result _ (λ e. numbers_column _ _ _ c.args.bytes.now c.in-Some.ensures.found (OnTrue_at e c.are_numbers.ensures.yes))

pub returns-clause-no : goal.returns-clause-no
returns-clause-no c =
    OnFalse_from c.are_numbers.result _ (λ e. no_numbers_body _ _ _ c.args.bytes.now c.in-Some.ensures.found (OnFalse_at e c.are_numbers.ensures.no))
