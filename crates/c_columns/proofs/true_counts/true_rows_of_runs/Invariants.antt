-- The runs so far.
use Rattle.c_columns.proofs.TrueCounts.{CountedSoFar}
use Rattle.c_columns.proofs.true_counts.true_rows_of_runs.Given as goal

abbrev pub invariant-loop-run : goal.invariant-loop-run
invariant-loop-run l = CountedSoFar l.runs l.run l.count
