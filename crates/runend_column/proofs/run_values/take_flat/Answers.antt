use Rattle.runend_column.proofs.PassedOn.{no_value, only_error}
use Rattle.runend_column.proofs.run_values.take_flat.Goals as goal

pub returns-in_ok-taken-in-List-clause-made : goal.returns-in_ok-taken-in-List-clause-made
returns-in_ok-taken-in-List-clause-made g c = rw c.in-List.is c.in_ok-taken-in-List.ensures.made

pub returns-in_err-taken-in-Flat-clause-only : goal.returns-in_err-taken-in-Flat-clause-only
returns-in_err-taken-in-Flat-clause-only g c = only_error c.from_residual.result c.in_err-taken-in-Flat.field-0.0 _ c.from_residual.ensures.1 c.in_err-taken-in-Flat.ensures.only

pub returns-in_err-taken-in-Flat-clause-made : goal.returns-in_err-taken-in-Flat-clause-made
returns-in_err-taken-in-Flat-clause-made g c = no_value _ c.from_residual.result c.from_residual.ensures.0

pub returns-in_err-taken-in-List-clause-only : goal.returns-in_err-taken-in-List-clause-only
returns-in_err-taken-in-List-clause-only g c = only_error c.from_residual-in_err-taken-in-List.result c.in_err-taken-in-List.field-0.0 _ c.from_residual-in_err-taken-in-List.ensures.1 c.in_err-taken-in-List.ensures.only

pub returns-in_err-taken-in-List-clause-made : goal.returns-in_err-taken-in-List-clause-made
returns-in_err-taken-in-List-clause-made g c = no_value _ c.from_residual-in_err-taken-in-List.result c.from_residual-in_err-taken-in-List.ensures.0

pub taken_at-requires-clause-counted : goal.taken_at-requires-clause-counted
taken_at-requires-clause-counted g c = c.requires.counted

pub taken_at-requires-clause-within : goal.taken_at-requires-clause-within
taken_at-requires-clause-within g c = rw c.in-Flat.is at c.requires.within

pub take_lists-requires-clause-counted : goal.take_lists-requires-clause-counted
take_lists-requires-clause-counted g c = c.requires.counted

pub take_lists-requires-clause-within : goal.take_lists-requires-clause-within
take_lists-requires-clause-within g c = rw c.in-List.is at c.requires.within

pub returns-in_ok-taken-in-Flat-clause-only : goal.returns-in_ok-taken-in-Flat-clause-only
returns-in_ok-taken-in-Flat-clause-only g c = tt

pub returns-in_ok-taken-in-List-clause-only : goal.returns-in_ok-taken-in-List-clause-only
returns-in_ok-taken-in-List-clause-only g c = tt

pub returns-in_ok-taken-in-Flat-clause-made : goal.returns-in_ok-taken-in-Flat-clause-made
returns-in_ok-taken-in-Flat-clause-made g c = rw c.in-Flat.is c.in_ok-taken-in-Flat.ensures.made
