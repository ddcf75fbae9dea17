use Rattle.std.proofs.Common.{◌+◌, ◌≤◌}
use Rattle.column_sums.specs.Lanes.{AreInLanes}
use Rattle.column_sums.specs.SumRange.{sum_range}
use Rattle.column_sums.proofs.known_runs.add_eight.Given as goal

-- the runs so far are in lanes
abbrev pub invariant-loop-lane : goal.invariant-loop-lane
invariant-loop-lane g l =
    let range = sum_range g.V.NativePType.PTYPE in
    let runs = g.R.Runs.runs l.runs in
    let state = g.S.RunSum.state in
    record {
      to : l.lane ≤ 8;
      laid : AreInLanes range l.size runs l.from (state l.initial.sum) l.is_empty (l.from + l.lane) (state l.sum) (g.V.NativePType.number l.lanes) l.all_null;
    }
