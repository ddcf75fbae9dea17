use Rattle.runend_array.proofs.validities.row_validity.RowValidity.is_valid.Goals as goal

pub returns-in-Runs : goal.returns-in-Runs
returns-in-Runs g c = rw c.in-Runs.is (rw c.deref.ensures at c.truth_at.ensures)
