use Rattle.std.proofs.Common.{arith}
use Rattle.std.proofs.lemmas.Result.{IfOk-weaker, err_from_is_err_and}
use Rattle.runend_array.specs.Array.{column_of, validity_of}
use Rattle.column_fields.proofs.Refusals.{same_error}
use Rattle.column_bytes.proofs.ListReads.{other_list_kind, no_validity, none_behind_validity, lists_found}
use Rattle.column_bytes.proofs.list_reading.read_lists.Goals as goal

pub returns-then-header-ne-LISTS-clause-bad : goal.returns-then-header-ne-LISTS-clause-bad
returns-then-header-ne-LISTS-clause-bad g c = λ _. other_list_kind c.args.levels _ _ c.args.bytes.now (λ e. c.if-header-ne-LISTS.true (omega (arith, e)))

pub returns-in_err-validity-clause-bad : goal.returns-in_err-validity-clause-bad
returns-in_err-validity-clause-bad g c =
    let p = err_from_is_err_and c.from_residual.result c.from_residual.ensures.1 in
    rw (p.1, p.2) (λ e. no_validity c.args.levels _ _ c.args.bytes.now (c.in_err-validity.ensures.bad (same_error _ _ e)))

pub returns-clause-found : goal.returns-clause-found
returns-clause-found g c =
    IfOk-weaker c.read_behind_validity.result _ _ (λ array h. lists_found c.args.levels _ _ c.args.bytes.now (validity_of c.in_ok-validity.validity) c.in_ok-validity.rest.now (column_of array) (omega (arith, c.if-header-ne-LISTS.false)) c.in_ok-validity.ensures.found h) c.read_behind_validity.ensures.found

pub returns-clause-bad : goal.returns-clause-bad
returns-clause-bad g c =
    λ e. none_behind_validity c.args.levels _ _ c.args.bytes.now (validity_of c.in_ok-validity.validity) c.in_ok-validity.rest.now (omega arith) (omega arith) c.in_ok-validity.ensures.found (c.read_behind_validity.ensures.bad e)
