use Rattle.std.proofs.lemmas.Bool.{OnTrue_at, OnTrue_from, OnFalse_at, OnFalse_from}
use Rattle.column_bytes.proofs.ConstantChecks.{value_found}
use Rattle.column_bytes.proofs.ConstantReads.{no_some_type, no_some_value}
use Rattle.column_bytes.proofs.constant_checks.is_some_of.Goals as goal

pub returns-in-None-clause-no : goal.returns-in-None-clause-no
returns-in-None-clause-no c = no_some_type c.args.kind c.args.nullability c.args.bytes.now c.in-None.ensures.none

pub returns-in-Some-clause-yes : goal.returns-in-Some-clause-yes
returns-in-Some-clause-yes c =
    OnTrue_from c.is_value.result _ (λ e. value_found c.args.kind c.args.nullability c.args.bytes.now c.in-Some.dtype c.in-Some.ensures.found c.in-Some.ensures.nullability (OnTrue_at e c.is_value.ensures.yes))

pub returns-in-Some-clause-no : goal.returns-in-Some-clause-no
returns-in-Some-clause-no c =
    OnFalse_from c.is_value.result _ (λ e. no_some_value c.args.kind c.args.nullability c.args.bytes.now c.in-Some.dtype c.in-Some.ensures.plain c.in-Some.ensures.found c.in-Some.ensures.nullability (OnFalse_at e c.is_value.ensures.no))
