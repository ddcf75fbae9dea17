use Rattle.runend_column.proofs.PassedOn.{no_value, only_error}
use Rattle.runend_column.proofs.run_values.take_flattened.Goals as goal

pub returns-in_err-flat-clause-only : goal.returns-in_err-flat-clause-only
returns-in_err-flat-clause-only g c = only_error c.from_residual.result c.in_err-flat.field-0.0 _ c.from_residual.ensures.1 c.in_err-flat.ensures.only

pub returns-in_err-flat-clause-made : goal.returns-in_err-flat-clause-made
returns-in_err-flat-clause-made g c = no_value _ c.from_residual.result c.from_residual.ensures.0

pub take_flat-taken-requires-clause-counted : goal.take_flat-taken-requires-clause-counted
take_flat-taken-requires-clause-counted g c = c.requires.counted

pub take_flat-taken-requires-clause-within : goal.take_flat-taken-requires-clause-within
take_flat-taken-requires-clause-within g c = rw c.in_ok-flat.ensures.rows c.requires.within

pub returns-clause-only : goal.returns-clause-only
returns-clause-only g c = c.take_flat-taken.ensures.only

pub returns-clause-made : goal.returns-clause-made
returns-clause-made g c = rw (c.in_ok-flat.ensures.rows, c.in_ok-flat.ensures.dtype) at c.take_flat-taken.ensures.made
