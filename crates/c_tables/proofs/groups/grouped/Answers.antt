use Rattle.c_tables.proofs.AskedNames.{groups_failed, groups_made}
use Rattle.c_tables.proofs.groups.grouped.Goals as goal

pub returns-in_err-made-clause-refused : goal.returns-in_err-made-clause-refused
returns-in_err-made-clause-refused c =
    groups_failed c.args.keys.now c.args.answers.now c.args.columns.now c.args.folds.now c.args.table.now c.in_ok-keys.keys.items c.deref.result.now c.in-Ok.asked.items c.deref-2.result.now c.deref.ensures.value c.deref-2.ensures.value
    c.in_ok-keys.ensures.refused c.in-Ok.ensures.refused c.in_ok-keys.ensures.names c.in-Ok.ensures.asked c.from_residual-in_err-made.result c.in_err-made.field-0.0 c.in_err-made.ensures.refused c.from_residual-in_err-made.ensures.1

pub returns-clause-grouped : goal.returns-clause-grouped
returns-clause-grouped c =
    groups_made c.args.keys.now c.args.answers.now c.args.columns.now c.args.folds.now c.args.table.now c.in_ok-keys.keys.items c.deref.result.now c.in-Ok.asked.items c.deref-2.result.now c.deref.ensures.value c.deref-2.ensures.value
    c.in_ok-keys.ensures.refused c.in-Ok.ensures.refused c.in_ok-keys.ensures.names c.in-Ok.ensures.asked c.in_ok-made.field-0 c.in_ok-boxed.field-0.value c.in_ok-boxed.ensures.table c.in_ok-made.ensures.allowed c.in_ok-made.ensures.groups
