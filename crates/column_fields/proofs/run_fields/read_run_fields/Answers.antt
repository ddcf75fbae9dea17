use Rattle.column_fields.proofs.Varints.{if_none}
use Rattle.column_fields.proofs.RunFieldLaws.{no_offset, no_ends_type, other_ends_type, no_lengths, no_values, are_runs}
use Rattle.column_fields.proofs.run_fields.read_run_fields.Goals as goal

pub returns-in_err-offset-clause-none : goal.returns-in_err-offset-clause-none
returns-in_err-offset-clause-none c = if_none _ _ (no_offset _ c.in_err-offset.ensures.none)

pub returns-in_err-number-clause-none : goal.returns-in_err-number-clause-none
returns-in_err-number-clause-none c = if_none _ _ (no_ends_type _ _ c.in_ok-offset.after_offset.now c.in_ok-offset.ensures.small c.in_ok-offset.ensures.found c.in_err-number.ensures.none)

pub returns-in_err-ends_type-clause-none : goal.returns-in_err-ends_type-clause-none
returns-in_err-ends_type-clause-none c = if_none _ _ (other_ends_type _ _ _ c.in_ok-offset.after_offset.now c.in_ok-number.after_type.now c.in_ok-offset.ensures.small c.in_ok-number.ensures.small c.in_ok-offset.ensures.found c.in_ok-number.ensures.found c.in_err-ends_type.ensures.none)

pub returns-in_err-lengths-clause-none : goal.returns-in_err-lengths-clause-none
returns-in_err-lengths-clause-none c = if_none _ _ (no_lengths _ _ _ c.in_ok-offset.after_offset.now c.in_ok-number.after_type.now c.in_ok-offset.ensures.small c.in_ok-number.ensures.small c.in_ok-offset.ensures.found c.in_ok-number.ensures.found c.in_err-lengths.ensures.none)

pub returns-in_err-values-clause-none : goal.returns-in_err-values-clause-none
returns-in_err-values-clause-none c = if_none _ _ (no_values _ _ _ c.in_ok-offset.after_offset.now c.in_ok-number.after_type.now c.in_ok-lengths.after_lengths.now _ c.in_ok-offset.ensures.small c.in_ok-number.ensures.small c.in_ok-lengths.ensures.small c.in_ok-offset.ensures.found c.in_ok-number.ensures.found c.in_ok-lengths.ensures.found c.in_err-values.ensures.none)

pub returns-clause-found : goal.returns-clause-found
returns-clause-found c = are_runs _ _ _ _ c.in_ok-offset.after_offset.now c.in_ok-number.after_type.now c.in_ok-lengths.after_lengths.now _ _ c.in_ok-offset.ensures.found c.in_ok-number.ensures.found c.in_ok-ends_type.ensures.found c.in_ok-lengths.ensures.found c.in_ok-values.ensures.found

pub returns-clause-small : goal.returns-clause-small
returns-clause-small c = (c.in_ok-offset.ensures.small, c.in_ok-lengths.ensures.small, c.in_ok-values.ensures.small)
