use Rattle.std.proofs.Common.{◌∙◌, ap, Err}
use Rattle.c_columns.proofs.Short.{passed_short}
use Rattle.c_columns.proofs.questions.is_constant.Goals as goal

pub returns-in_err-truth-clause-memory : goal.returns-in_err-truth-clause-memory
returns-in_err-truth-clause-memory c = λ read short.
    c.is_constant.ensures.in_place (read c.context-ctx.result c.context-ctx.ensures) (c.in_err-truth.was ∙ ap Err (passed_short c.in_err-truth.field-0.0 c.from_residual.result c.from_residual.ensures.1 short))
