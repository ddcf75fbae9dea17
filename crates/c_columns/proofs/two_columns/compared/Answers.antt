use Rattle.std.proofs.Common.{sym, subst}
use Rattle.std.specs.Global.{Global}
use Rattle.runend_array.specs.declared.array_ref.ArrayRef.{ArrayRef}
use Rattle.runend_map.proofs.KeptRows.{if_ok}
use Rattle.c_columns.specs.TwoColumns.{HasPlain, IsComparedIn, compared_by}
use Rattle.c_columns.proofs.TwoColumns.{compare_left}
use Rattle.c_columns.proofs.two_columns.compared.Goals as goal

pub returns-clause-left : goal.returns-clause-left
returns-clause-left c =
    let column = c.args.array.now in
    let right = c.args.right.now in
    let told = c.in_ok-truths.ensures in
    let left = compare_left c.args.operator c.args.session.now c.context-ctx.result column right c.in_ok-truths.truths c.context-ctx.ensures told.rows told.dtype told.kernel told.constants told.otherwise in
    if_ok c.boxed.result (λ made same. subst (λ (d : ArrayRef Global). HasPlain (compared_by c.args.operator column right) (IsComparedIn c.args.operator c.args.session.now column right) d) (sym same) left) c.boxed.ensures.column
