use Rattle.runend_column.proofs.PassedOn.{no_value, only_error}
use Rattle.runend_select.proofs.filters.unchanged.Goals as goal

pub returns-in_err-copy-clause-only : goal.returns-in_err-copy-clause-only
returns-in_err-copy-clause-only g c = only_error c.from_residual.result c.in_err-copy.field-0.0 _ c.from_residual.ensures.1 c.in_err-copy.ensures.only

pub returns-in_err-copy-clause-form : goal.returns-in_err-copy-clause-form
returns-in_err-copy-clause-form g c = no_value _ c.from_residual.result c.from_residual.ensures.0
