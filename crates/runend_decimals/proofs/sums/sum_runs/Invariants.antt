use Rattle.std.proofs.Common.{◌≡◌}
use Rattle.column_core.specs.DecimalForm.{optional_decimals}
use Rattle.runend_floats.specs.Runs.{first_row}
use Rattle.runend_windows.specs.Ends.{ends_of}
use Rattle.runend_windows.specs.Window.{last_end, run_rows}
use Rattle.runend_decimals.proofs.TotalRows.{IsSummedTo}
use Rattle.runend_decimals.proofs.sums.sum_runs.Given as goal

abbrev pub invariant-loop-run : goal.invariant-loop-run
invariant-loop-run g l = record {
  at : l.row ≡ first_row (ends_of l.ends) l.run;
  summed : IsSummedTo (run_rows (ends_of l.ends) (optional_decimals l.values) 0 (last_end (ends_of l.ends))) l.row l.total.sum l.total.is_empty;
}
