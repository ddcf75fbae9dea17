use Rattle.std.proofs.Common.{arith}
use Rattle.column_fields.proofs.Varints.{if_none}
use Rattle.column_bytes.proofs.NullLists.{no_validity, no_items, some_items, found_null, none_null}
use Rattle.column_bytes.proofs.list_constants.read_element.Goals as goal

pub returns-in_err-after_validity-clause-none : goal.returns-in_err-after_validity-clause-none
returns-in_err-after_validity-clause-none c = if_none _ _ (no_validity _ c.in_err-after_validity.ensures.none)

pub returns-in_err-items-clause-none : goal.returns-in_err-items-clause-none
returns-in_err-items-clause-none c = if_none _ _ (no_items _ c.in_ok-after_validity.after_validity.now c.in_ok-after_validity.ensures.found c.in_err-items.ensures.none)

pub returns-then-items-ne0-clause-none : goal.returns-then-items-ne0-clause-none
returns-then-items-ne0-clause-none c =
    some_items _ c.in_ok-after_validity.after_validity.now c.in_ok-items.rest.now c.in_ok-items.items.now c.in_ok-items.ensures.small c.in_ok-after_validity.ensures.found c.in_ok-items.ensures.found (λ e. c.if-items-ne0.true (omega (arith, e)))

pub returns-clause-found : goal.returns-clause-found
returns-clause-found c =
    found_null c.read_element_type.result _ c.in_ok-after_validity.after_validity.now c.in_ok-items.rest.now c.in_ok-items.items.now c.in_ok-after_validity.ensures.found c.in_ok-items.ensures.found (omega arith) c.read_element_type.ensures.found c.read_element_type.ensures.typed

pub returns-clause-none : goal.returns-clause-none
returns-clause-none c =
    none_null c.read_element_type.result _ c.in_ok-after_validity.after_validity.now c.in_ok-items.rest.now c.in_ok-items.items.now c.in_ok-items.ensures.small c.in_ok-after_validity.ensures.found c.in_ok-items.ensures.found c.read_element_type.ensures.none
