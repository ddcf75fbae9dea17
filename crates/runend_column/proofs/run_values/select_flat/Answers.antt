use Rattle.runend_column.proofs.PassedOn.{no_value, only_error}
use Rattle.runend_column.proofs.run_values.select_flat.Goals as goal

pub returns-in_err-kept-in-Flat-clause-only : goal.returns-in_err-kept-in-Flat-clause-only
returns-in_err-kept-in-Flat-clause-only g c = only_error c.from_residual.result c.in_err-kept-in-Flat.field-0.0 _ c.from_residual.ensures.1 c.in_err-kept-in-Flat.ensures.only

pub returns-in_err-kept-in-Flat-clause-made : goal.returns-in_err-kept-in-Flat-clause-made
returns-in_err-kept-in-Flat-clause-made g c = no_value _ c.from_residual.result c.from_residual.ensures.0

pub returns-in_err-kept-in-List-clause-only : goal.returns-in_err-kept-in-List-clause-only
returns-in_err-kept-in-List-clause-only g c = only_error c.from_residual-in_err-kept-in-List.result c.in_err-kept-in-List.field-0.0 _ c.from_residual-in_err-kept-in-List.ensures.1 c.in_err-kept-in-List.ensures.only

pub returns-in_err-kept-in-List-clause-made : goal.returns-in_err-kept-in-List-clause-made
returns-in_err-kept-in-List-clause-made g c = no_value _ c.from_residual-in_err-kept-in-List.result c.from_residual-in_err-kept-in-List.ensures.0

pub selected_by-requires : goal.selected_by-requires
selected_by-requires g c = record { masked = rw c.in-Flat.is at c.requires.masked }

pub select_lists-requires : goal.select_lists-requires
select_lists-requires g c = record { masked = rw c.in-List.is at c.requires.masked }

pub returns-in_ok-kept-in-Flat-clause-only : goal.returns-in_ok-kept-in-Flat-clause-only
returns-in_ok-kept-in-Flat-clause-only g c = tt

pub returns-in_ok-kept-in-Flat-clause-made : goal.returns-in_ok-kept-in-Flat-clause-made
returns-in_ok-kept-in-Flat-clause-made g c = rw c.in-Flat.is c.in_ok-kept-in-Flat.ensures.made

pub returns-in_ok-kept-in-List-clause-only : goal.returns-in_ok-kept-in-List-clause-only
returns-in_ok-kept-in-List-clause-only g c = tt

pub returns-in_ok-kept-in-List-clause-made : goal.returns-in_ok-kept-in-List-clause-made
returns-in_ok-kept-in-List-clause-made g c = rw c.in-List.is c.in_ok-kept-in-List.ensures.made
