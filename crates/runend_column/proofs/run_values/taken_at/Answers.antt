use Rattle.runend_column.proofs.ComputedRows.{IsComputedAs-taken, ok_then}
use Rattle.runend_column.proofs.run_values.taken_at.Goals as goal

pub returns-clause-made : goal.returns-clause-made
returns-clause-made g c =
    let leaf = g.C.ColumnOps.leaf in
    ok_then c.take_at.result _ _ (λ taken made. IsComputedAs-taken (leaf c.args.column.now) (leaf taken) _ _ made) c.take_at.ensures.made
