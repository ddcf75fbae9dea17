use Rattle.c_columns.proofs.TwoColumns.{runs_left}
use Rattle.c_columns.proofs.two_columns.filtered_by_runs.Goals as goal

pub returns-in-Ok-clause-left : goal.returns-in-Ok-clause-left
returns-in-Ok-clause-left c =
    let accepted = rw c.in-Ok.is at c.in_ok-kept.ensures.refused in
    let kept_rows = rw c.in-Ok.is at c.in_ok-kept.ensures.rows in
    let typed = rw c.in-Ok.is at c.in_ok-kept.ensures.dtype in
    let form = rw c.in-Ok.is at c.in_ok-kept.ensures.form in
    runs_left c.args.session.now c.context-ctx.result c.args.mask.now c.args.array.now c.in-Ok.kept c.context-ctx.ensures accepted kept_rows typed c.in_ok-kept.ensures.kernel form
