use Rattle.std.proofs.Common.{◌≡◌, ◌-◌, ◌≤◌, length, map}
use Rattle.std.specs.Prelude.{slice_range}
use Rattle.column_base.specs.Validity.{validity_flags}
use Rattle.runend_windows.specs.Ends.{ends_of}
use Rattle.runend_windows.specs.Window.{run_at}
use Rattle.runend_pairs.specs.Groups.{shown_numbers}
use Rattle.runend_pairs.proofs.folds.fold_between.Given as goal

abbrev pub invariant-loop-row : goal.invariant-loop-row
invariant-loop-row g l = record {
  from : l.start ≤ l.row;
  within : l.row ≤ l.stop;
  here : l.run ≡ run_at (ends_of l.values.ends.now) l.row;
  kept : g.S.Fold.keeps (slice_range (shown_numbers (ends_of l.values.ends.now) (map g.T.NativePType.number l.values.items.now) (validity_flags l.values.validity.now (length l.values.items.now))) l.start l.row) l.fold;
}

abbrev pub decreases-loop-row : goal.decreases-loop-row
decreases-loop-row g l = l.stop - l.row
