use Rattle.runend_encode.proofs.Starts.{AreRunValues-made, starts-positions}
use Rattle.runend_encode.proofs.encode.runs_of.Goals as goal

pub take_at-requires-clause-within : goal.take_at-requires-clause-within
take_at-requires-clause-within g c =
    starts-positions (g.R.ColumnOps.leaf c.args.column.now) c.in_ok-bounds.bounds c.starts.result.now c.in_ok-bounds.ensures.ends c.starts.ensures

pub returns-clause-runs : goal.returns-clause-runs
returns-clause-runs g c =
    AreRunValues-made (g.R.ColumnOps.leaf c.args.column.now) c.in_ok-bounds.bounds c.starts.result.now (g.R.ColumnOps.leaf c.in_ok-values.values) c.in_ok-bounds.ensures.ends c.starts.ensures
    c.in_ok-values.ensures.made
