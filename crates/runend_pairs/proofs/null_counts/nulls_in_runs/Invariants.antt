-- The runs so far.
use Rattle.runend_pairs.proofs.NullCounted.{NullsSoFar}
use Rattle.runend_pairs.proofs.null_counts.nulls_in_runs.Given as goal

abbrev pub invariant-loop-run : goal.invariant-loop-run
invariant-loop-run g l = NullsSoFar l.runs.ends (g.N.NullRuns.shown l.shows) l.runs.offset l.runs.count l.run l.row l.count
