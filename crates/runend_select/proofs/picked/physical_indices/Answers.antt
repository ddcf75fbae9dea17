use Rattle.runend_select.proofs.picked.physical_indices.Goals as goal

pub returns-clause-picked : goal.returns-clause-picked
returns-clause-picked g c = (c.picked_strategy-strategy.result, rw c.len.ensures at c.picked_strategy-strategy.ensures, c.physical_indices_by.ensures.runs, c.physical_indices_by.ensures.cost)
