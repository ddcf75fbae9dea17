use Rattle.column_sums.specs.SumRange.{sum_range}
use Rattle.column_sums.proofs.Reaches.{rows_left-le, stays-fewer}
use Rattle.column_sums.proofs.known_runs.add_known_runs.Goals as goal

pub add_eights-requires-clause-stays : goal.add_eights-requires-clause-stays
add_eights-requires-clause-stays g c =
    stays-fewer (sum_range g.V.NativePType.PTYPE) _ _ _ _ (rows_left-le (g.R.Runs.runs c.args.runs.now) c.args.from) c.in-Some.ensures.stays

pub add_eights-requires-in-Some-2-clause-stays : goal.add_eights-requires-in-Some-2-clause-stays
add_eights-requires-in-Some-2-clause-stays g c =
    stays-fewer (sum_range g.V.NativePType.PTYPE) _ _ _ _ (rows_left-le (g.R.Runs.runs c.args.runs.now) c.args.from) c.in-Some.ensures.stays
