use Rattle.runend_select.proofs.picked.physical_indices_by.Goals as goal

pub returns-in-Table-clause-runs : goal.returns-in-Table-clause-runs
returns-in-Table-clause-runs g c = rw c.in-Table.is c.runs_by_rank.ensures.runs

pub returns-in-Table-clause-cost : goal.returns-in-Table-clause-cost
returns-in-Table-clause-cost g c = rw c.in-Table.is c.runs_by_rank.ensures.cost

pub physical_indices_linear_sorted-requires-clause-in_window : goal.physical_indices_linear_sorted-requires-clause-in_window
physical_indices_linear_sorted-requires-clause-in_window g c = (c.args.length, c.requires.window, c.requires.in_bounds)

pub physical_indices_linear_sorted-requires-clause-sorted : goal.physical_indices_linear_sorted-requires-clause-sorted
physical_indices_linear_sorted-requires-clause-sorted g c = c.requires.sorted c.in-SortedMerge.is

pub physical_indices_linear_unsorted-requires-clause-in_window : goal.physical_indices_linear_unsorted-requires-clause-in_window
physical_indices_linear_unsorted-requires-clause-in_window g c = (c.args.length, c.requires.window, c.requires.in_bounds)

pub physical_indices_binary-requires-clause-in_window : goal.physical_indices_binary-requires-clause-in_window
physical_indices_binary-requires-clause-in_window g c = (c.args.length, c.requires.window, c.requires.in_bounds)

pub returns-in-SortedMerge-clause-runs : goal.returns-in-SortedMerge-clause-runs
returns-in-SortedMerge-clause-runs g c = rw c.in-SortedMerge.is c.physical_indices_linear_sorted.ensures.runs

pub returns-in-SortedMerge-clause-cost : goal.returns-in-SortedMerge-clause-cost
returns-in-SortedMerge-clause-cost g c = rw c.in-SortedMerge.is c.physical_indices_linear_sorted.ensures.cost

pub returns-in-SortAndMerge-clause-runs : goal.returns-in-SortAndMerge-clause-runs
returns-in-SortAndMerge-clause-runs g c = rw c.in-SortAndMerge.is c.physical_indices_linear_unsorted.ensures.runs

pub returns-in-SortAndMerge-clause-cost : goal.returns-in-SortAndMerge-clause-cost
returns-in-SortAndMerge-clause-cost g c = rw c.in-SortAndMerge.is c.physical_indices_linear_unsorted.ensures.cost

pub returns-in-Binary-clause-runs : goal.returns-in-Binary-clause-runs
returns-in-Binary-clause-runs g c = rw c.in-Binary.is c.physical_indices_binary.ensures.runs

pub returns-in-Binary-clause-cost : goal.returns-in-Binary-clause-cost
returns-in-Binary-clause-cost g c = rw c.in-Binary.is c.physical_indices_binary.ensures.cost

pub returns-in-Table-clause-untested : goal.returns-in-Table-clause-untested
returns-in-Table-clause-untested g c = c.runs_by_rank.ensures.untested

pub returns-in-SortedMerge-clause-untested : goal.returns-in-SortedMerge-clause-untested
returns-in-SortedMerge-clause-untested g c = c.physical_indices_linear_sorted.ensures.untested

pub returns-in-SortAndMerge-clause-untested : goal.returns-in-SortAndMerge-clause-untested
returns-in-SortAndMerge-clause-untested g c = c.physical_indices_linear_unsorted.ensures.untested

pub returns-in-Binary-clause-untested : goal.returns-in-Binary-clause-untested
returns-in-Binary-clause-untested g c = c.physical_indices_binary.ensures.untested
