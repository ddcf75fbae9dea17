use Rattle.column_fields.proofs.Varints.{if_none}
use Rattle.column_fields.proofs.ListFieldLaws.{no_elements, no_offsets, no_sizes, are_lists}
use Rattle.column_fields.proofs.list_fields.read_list_fields.Goals as goal

pub returns-in_err-elements-clause-none : goal.returns-in_err-elements-clause-none
returns-in_err-elements-clause-none c = if_none _ _ (no_elements _ c.in_err-elements.ensures.none)

pub returns-in_err-offsets-clause-none : goal.returns-in_err-offsets-clause-none
returns-in_err-offsets-clause-none c = if_none _ _ (no_offsets _ c.in_ok-elements.after_elements.now _ c.in_ok-elements.ensures.small c.in_ok-elements.ensures.found c.in_err-offsets.ensures.none)

pub returns-in_err-sizes-clause-none : goal.returns-in_err-sizes-clause-none
returns-in_err-sizes-clause-none c = if_none _ _ (no_sizes _ c.in_ok-elements.after_elements.now c.in_ok-offsets.after_offsets.now _ _ c.in_ok-elements.ensures.small c.in_ok-offsets.ensures.small c.in_ok-elements.ensures.found c.in_ok-offsets.ensures.found c.in_err-sizes.ensures.none)

pub returns-clause-found : goal.returns-clause-found
returns-clause-found c = are_lists _ c.in_ok-elements.after_elements.now c.in_ok-offsets.after_offsets.now _ _ _ c.in_ok-elements.ensures.found c.in_ok-offsets.ensures.found c.in_ok-sizes.ensures.found

pub returns-clause-small : goal.returns-clause-small
returns-clause-small c = (c.in_ok-elements.ensures.small, c.in_ok-offsets.ensures.small, c.in_ok-sizes.ensures.small)
