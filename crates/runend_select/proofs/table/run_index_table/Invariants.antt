use Rattle.std.proofs.Common.{◌≡◌, ◌+◌, ◌-◌, ◌<◌, ◌≤◌}
use Rattle.runend_select.specs.Indices.{runs_of_rows}
use Rattle.runend_select.proofs.TableRuns.{AreReached}
use Rattle.runend_select.proofs.table.run_index_table.Given as goal

-- the rows that the runs before this one reach are in the table; each of these rows took one test, and so did the end of each of these runs, but that of a run which reaches the last row
abbrev pub invariant-loop-run : goal.invariant-loop-run
invariant-loop-run g l = record {
  filled : l.table.rows ≡ runs_of_rows l.initial.ends.ends l.offset l.reach;
  limit : l.table.limit ≡ l.length;
  reached : AreReached l.initial.ends.ends l.offset l.length l.run l.reach;
  same : l.ends.ends ≡ l.initial.ends.ends;
  cost : l.ends.tests ≤ l.initial.ends.tests + (l.run + l.reach);
  most : 0 < l.run → l.ends.tests ≤ l.initial.ends.tests + (l.run - 1 + l.length);
}
