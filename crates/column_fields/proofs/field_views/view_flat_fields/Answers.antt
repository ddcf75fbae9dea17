use Rattle.std.proofs.Common.{arith}
use Rattle.column_fields.proofs.Varints.{if_none}
use Rattle.column_fields.proofs.FlatFieldLaws.{no_flat_validity, no_items, are_flat}
use Rattle.column_fields.proofs.field_views.view_flat_fields.Goals as goal

pub returns-in_err-validity-clause-none : goal.returns-in_err-validity-clause-none
returns-in_err-validity-clause-none c = if_none _ _ (no_flat_validity _ _ c.in_err-validity.ensures.none)

pub returns-in_err-items-clause-none : goal.returns-in_err-items-clause-none
returns-in_err-items-clause-none c =
    if_none _ _ (no_items _ _ _ c.in_ok-validity.rest.now (omega arith) c.in_ok-validity.ensures.counted c.in_ok-validity.ensures.found c.in_err-items.ensures.none)

pub returns-clause-found : goal.returns-clause-found
returns-clause-found c = are_flat _ _ c.in_ok-validity.rest.now _ c.in_ok-validity.ensures.found c.in_ok-items.ensures.found
