use Rattle.std.proofs.Common.{◌≡◌, ◌≤◌, length, map, take}
use Rattle.column_base.specs.Validity.{validity_flags}
use Rattle.runend_windows.specs.Ends.{ends_of}
use Rattle.runend_windows.specs.Window.{last_end, run_at}
use Rattle.runend_pairs.specs.Groups.{first_row, shown_numbers}
use Rattle.runend_pairs.proofs.part_sums.parts_in_runs.Given as goal

-- the rows of the runs so far are added
abbrev pub invariant-loop-run : goal.invariant-loop-run
invariant-loop-run g l = record {
  at : l.row ≡ first_row (ends_of l.values.ends.now) l.run;
  within : l.row ≤ last_end (ends_of l.values.ends.now);
  here : l.run ≡ run_at (ends_of l.values.ends.now) l.row;
  kept : g.P.PartSum.keeps (take l.row (shown_numbers (ends_of l.values.ends.now) (map g.T.NativePType.number l.values.items.now) (validity_flags l.values.validity.now (length l.values.items.now)))) l.parts;
}
