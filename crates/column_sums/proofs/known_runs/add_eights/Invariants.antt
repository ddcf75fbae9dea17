use Rattle.std.proofs.Common.{◌≡◌, ◌-◌, ◌%◌, ◌≤◌, length, drop}
use Rattle.column_sums.specs.Reach.{StaysWithin}
use Rattle.column_sums.specs.RunSum.{rows_of_runs}
use Rattle.column_sums.specs.SumRange.{sum_range}
use Rattle.column_sums.specs.SumState.{IsCounted}
use Rattle.column_sums.specs.Summed.{IsSummedOn}
use Rattle.column_sums.proofs.known_runs.add_eights.Given as goal

-- the runs so far are summed, and the rows of the others leave the sum in the range
abbrev pub invariant-loop-run : goal.invariant-loop-run
invariant-loop-run g l =
    let range = sum_range g.V.NativePType.PTYPE in
    let runs = g.R.Runs.runs l.runs in
    let state = g.S.RunSum.state in
    record {
      from : l.from ≤ l.run;
      to : l.run ≤ l.last;
      last : l.last ≤ l.to;
      whole : (l.last - l.run) % 8 ≡ 0;
      stays : StaysWithin range l.size (state l.sum).value (length (rows_of_runs (drop l.run runs)));
      summed : IsSummedOn range runs l.from (state l.initial.sum) l.is_empty l.run (state l.sum) l.all_null;
      counted : IsCounted (state l.initial.sum) (state l.sum);
    }

abbrev pub decreases-loop-run : goal.decreases-loop-run
decreases-loop-run g l = l.last - l.run
