use Rattle.runend_column.proofs.PassedOn.{no_value, only_error}
use Rattle.std.proofs.Common.{length, ap, sym, ◌∙◌}
use Rattle.runend_column.proofs.run_values.select_flattened.Goals as goal

pub returns-in_err-flat-clause-only : goal.returns-in_err-flat-clause-only
returns-in_err-flat-clause-only g c = only_error c.from_residual.result c.in_err-flat.field-0.0 _ c.from_residual.ensures.1 c.in_err-flat.ensures.only

pub returns-in_err-flat-clause-made : goal.returns-in_err-flat-clause-made
returns-in_err-flat-clause-made g c = no_value _ c.from_residual.result c.from_residual.ensures.0

pub select_flat-kept-requires : goal.select_flat-kept-requires
select_flat-kept-requires g c = record { masked = c.requires.masked ∙ sym (ap length c.in_ok-flat.ensures.rows) }

pub returns-clause-only : goal.returns-clause-only
returns-clause-only g c = c.select_flat-kept.ensures.only

pub returns-clause-made : goal.returns-clause-made
returns-clause-made g c = rw (c.in_ok-flat.ensures.rows, c.in_ok-flat.ensures.dtype) at c.select_flat-kept.ensures.made
