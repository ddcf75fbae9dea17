use Rattle.std.proofs.Common.{◌-◌, ◌≤◌}
use Rattle.column_sums.specs.SumRange.{sum_range}
use Rattle.column_sums.specs.SumState.{IsCounted}
use Rattle.column_sums.specs.Summed.{IsSummedOn}
use Rattle.column_sums.proofs.runs.add_inner.Given as goal

-- the blocks so far are summed
abbrev pub invariant-loop-run : goal.invariant-loop-run
invariant-loop-run g l = record {
  from : l.from ≤ l.run;
  to : l.run ≤ l.to;
  summed : IsSummedOn (sum_range g.V.NativePType.PTYPE) (g.R.Runs.runs l.runs) l.from (g.S.RunSum.state l.initial.sum) l.is_empty l.run (g.S.RunSum.state l.sum) l.empty;
  counted : IsCounted (g.S.RunSum.state l.initial.sum) (g.S.RunSum.state l.sum);
}

abbrev pub decreases-loop-run : goal.decreases-loop-run
decreases-loop-run g l = l.to - l.run
