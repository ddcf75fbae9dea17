use Rattle.std.proofs.Common.{length}
use Rattle.column_sums.specs.RunSum.{rows_of_runs}
use Rattle.column_sums.specs.SumRange.{sum_range}
use Rattle.column_sums.proofs.Reaches.{stays-fewer}
use Rattle.column_sums.proofs.known_runs.size_in_reach.Goals as goal

pub returns-then-stays_within-clause-stays : goal.returns-then-stays_within-clause-stays
returns-then-stays_within-clause-stays g c =
    stays-fewer (sum_range g.V.NativePType.PTYPE) c.in_ok-size.size (g.S.RunSum.state c.args.sum.now).value c.in_ok-rows.rows (length (rows_of_runs (g.R.Runs.runs c.args.runs.now)))
    c.in_ok-rows.ensures (c.stays_within.ensures.stays c.if-stays_within.true)
