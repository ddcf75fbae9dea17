use Rattle.c_columns.proofs.Left.{left_filtered}
use Rattle.c_columns.proofs.two_columns.rows_selected.Goals as goal

pub returns-clause-left : goal.returns-clause-left
returns-clause-left c =
    let kept = c.in_ok-kept in
    left_filtered c.args.session.now c.context-ctx.result c.args.array.now kept.kept c.args.selected.now c.context-ctx.ensures kept.ensures.refused kept.ensures.rows kept.ensures.dtype kept.ensures.kernel kept.ensures.constant kept.ensures.otherwise
