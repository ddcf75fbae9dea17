use Rattle.runend_commands.proofs.compute.extremes.extremes_row_by_row.Goals as goal

pub returns-clause-extremes : goal.returns-clause-extremes
returns-clause-extremes g c = rw (c.in_ok-flat.ensures.dtype, c.in_ok-flat.ensures.rows) at (rw c.view.ensures at c.extremes_of_flat-copies.ensures.extremes)
