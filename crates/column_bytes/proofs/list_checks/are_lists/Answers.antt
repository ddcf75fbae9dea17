use Rattle.std.proofs.Common.{arith}
use Rattle.std.proofs.lemmas.Bool.{OnTrue_at, OnTrue_from, OnFalse_at, OnFalse_from}
use Rattle.column_bytes.proofs.ListChecks.{body_of_lists}
use Rattle.column_bytes.proofs.ListReads.{no_validity, none_behind_validity, other_list_kind}
use Rattle.column_bytes.proofs.list_checks.are_lists.Goals as goal

pub returns-then-header-ne-LISTS-clause-no : goal.returns-then-header-ne-LISTS-clause-no
returns-then-header-ne-LISTS-clause-no c = other_list_kind c.args.levels _ _ c.args.bytes.now (λ e. c.if-header-ne-LISTS.true (omega (arith, e)))

pub returns-in_default-clause-no : goal.returns-in_default-clause-no
returns-in_default-clause-no c = no_validity c.args.levels _ _ c.args.bytes.now c.in_default.ensures.none

pub returns-clause-yes : goal.returns-clause-yes
returns-clause-yes c =
    let v = c.in-Some.ensures.found in
    OnTrue_from c.are_behind_validity.result _ (λ e. body_of_lists c.args.levels _ _ c.args.bytes.now v.0 c.in-Some.rest.now (omega (arith, c.if-header-ne-LISTS.false)) v.1 (OnTrue_at e (c.are_behind_validity.ensures.yes v.0 v.2 v.1.counted)))

pub returns-clause-no : goal.returns-clause-no
returns-clause-no c =
    let v = c.in-Some.ensures.found in
    OnFalse_from c.are_behind_validity.result _ (λ e. none_behind_validity c.args.levels _ _ c.args.bytes.now v.0 c.in-Some.rest.now (omega arith) (omega arith) v.1 (OnFalse_at e (c.are_behind_validity.ensures.no v.0 v.2 v.1.counted)))
