use Rattle.std.proofs.Common.{◌≡◌, ◌≤◌, Bool, false, take}
use Rattle.std.specs.Prelude.{count_by}
use Rattle.column_core.specs.Optionals.{optionals}
use Rattle.runend_windows.specs.Encoding.{blanked}
use Rattle.runend_windows.proofs.bit_runs.count_marked.Given as goal

abbrev pub invariant-loop-run : goal.invariant-loop-run
invariant-loop-run g l =
    record {
      within : l.count ≤ l.run;
      counted : l.count ≡ count_by (λ (bit : Bool). bit) (take l.run (blanked false (optionals l.bits l.marks)));
    }
