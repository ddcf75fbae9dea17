use Rattle.runend_commands.proofs.compute.sortedness.is_sorted.Goals as goal

pub returns-in-Some-clause-answer : goal.returns-in-Some-clause-answer
returns-in-Some-clause-answer g c = rw c.in-Some.ensures.1 c.is_sorted.ensures.answer

pub returns-in-Some-constant_for-clause-answer : goal.returns-in-Some-constant_for-clause-answer
returns-in-Some-constant_for-clause-answer g c = rw c.in-Some-constant_for.ensures.1 c.is_sorted_of_constant.ensures.answer

pub returns-clause-answer : goal.returns-clause-answer
returns-clause-answer g c = rw (c.view.ensures, c.in_ok-flat.ensures.rows) at c.is_flat_sorted-sorted.ensures

pub returns-in-Some-flat_view-clause-answer : goal.returns-in-Some-flat_view-clause-answer
returns-in-Some-flat_view-clause-answer g c = rw c.in-Some-flat_view.ensures.flat c.is_flat_sorted.ensures
