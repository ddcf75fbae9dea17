use Rattle.std.proofs.Common.{◌≡◌}
use Rattle.std.specs.Prelude.{slice_range}
use Rattle.column_core.specs.PrimitiveForm.{optional_numbers}
use Rattle.runend_windows.specs.Ends.{ends_of}
use Rattle.runend_floats.specs.Runs.{first_row}
use Rattle.runend_floats.specs.Sums.{tally_of_keys}
use Rattle.runend_floats.proofs.RunSums.{shown}
use Rattle.runend_floats.proofs.sums.sum_runs.Given as goal

abbrev pub invariant-loop-run : goal.invariant-loop-run
invariant-loop-run g l = record {
  begun : l.row ≡ first_row (ends_of l.ends) l.run;
  added : l.sum ≡ tally_of_keys l.format (slice_range (shown (ends_of l.ends) (optional_numbers l.keys)) 0 l.row);
}
