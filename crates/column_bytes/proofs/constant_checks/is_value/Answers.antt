use Rattle.std.proofs.lemmas.Bool.{OnTrue_at, OnTrue_from, OnFalse_at, OnFalse_from}
use Rattle.column_bytes.proofs.ConstantChecks.{whole_value, truth_value, text_value, bytes_value, no_whole, no_truth, no_text}
use Rattle.column_bytes.proofs.constant_checks.is_value.Goals as goal

pub returns-in-Primitive-clause-yes : goal.returns-in-Primitive-clause-yes
returns-in-Primitive-clause-yes c =
    OnTrue_from c.holds_values.result _ (λ e. whole_value c.args.dtype c.in-Primitive.ptype c.in-Primitive.field-1 c.args.bytes.now c.in-Primitive.is (OnTrue_at e c.holds_values.ensures.yes))

pub returns-in-Primitive-clause-no : goal.returns-in-Primitive-clause-no
returns-in-Primitive-clause-no c =
    OnFalse_from c.holds_values.result _ (λ e. no_whole c.args.dtype c.in-Primitive.ptype c.in-Primitive.field-1 c.args.bytes.now c.in-Primitive.is (OnFalse_at e c.holds_values.ensures.no))

pub returns-in-Some-clause-yes : goal.returns-in-Some-clause-yes
returns-in-Some-clause-yes c = truth_value c.args.dtype c.in-Bool.field-0 c.in-Some._truth c.args.bytes.now c.in-Bool.is c.in-Some.ensures.found

pub returns-in-None-clause-no : goal.returns-in-None-clause-no
returns-in-None-clause-no c = no_truth c.args.dtype c.in-Bool.field-0 c.args.bytes.now c.in-Bool.is c.in-None.ensures.none

pub returns-in-Ok-clause-yes : goal.returns-in-Ok-clause-yes
returns-in-Ok-clause-yes c = text_value c.args.dtype c.in-Utf8.field-0 c.args.bytes.now c.in-Utf8.is c.in-Ok.ensures.cases.1

pub returns-in-Err-clause-no : goal.returns-in-Err-clause-no
returns-in-Err-clause-no c = no_text c.args.dtype c.in-Utf8.field-0 c.args.bytes.now c.in-Utf8.is c.in-Err.ensures.cases.0

pub returns-in-Binary-clause-yes : goal.returns-in-Binary-clause-yes
returns-in-Binary-clause-yes c = bytes_value c.args.dtype c.in-Binary.field-0 c.args.bytes.now c.in-Binary.is
