use Rattle.std.proofs.Common.{◌∙◌, ap, Err}
use Rattle.c_columns.proofs.Short.{passed_short}
use Rattle.c_kernels.proofs.typed_ends.ends_of.Goals as goal

pub returns-in_err-least-clause-memory : goal.returns-in_err-least-clause-memory
returns-in_err-least-clause-memory c = λ other plain read short.
    c.typed_min_max.ensures.in_place other plain (read c.context-ctx.result c.context-ctx.ensures) (c.in_err-least.was ∙ ap Err (passed_short c.in_err-least.field-0.0 c.from_residual.result c.from_residual.ensures.1 short))
