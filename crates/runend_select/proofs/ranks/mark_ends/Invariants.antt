use Rattle.std.proofs.Common.{◌≡◌, ◌+◌, ◌<◌, ◌≤◌}
use Rattle.runend_select.proofs.TableRuns.{AreReached}
use Rattle.runend_select.proofs.RunBits.{AreMarkedBefore}
use Rattle.runend_select.proofs.ranks.mark_ends.Given as goal

-- the bits of the runs before this one are set; each row that they reach took one test, and so did the end of each
abbrev pub invariant-loop-run : goal.invariant-loop-run
invariant-loop-run g l = record {
  marked : AreMarkedBefore l.initial.ends.ends l.offset l.length l.run l.words;
  reached : AreReached l.initial.ends.ends l.offset l.length l.run l.reach;
  below : l.reach < l.length;
  same : l.ends.ends ≡ l.initial.ends.ends;
  cost : l.ends.tests ≤ l.initial.ends.tests + (l.run + l.reach);
}
