use Rattle.std.proofs.Common.{◌≡◌, ◌≤◌, length, take, vec_capacity, vec_len}
use Rattle.runend_windows.specs.Starts.{starts_from}
use Rattle.runend_windows.proofs.Starts.{start_behind}
use Rattle.row_groups.proofs.groups.starts_of.Given as goal

abbrev pub invariant-loop-end : goal.invariant-loop-end
invariant-loop-end g l = record {
  shows : l.starts.items ≡ starts_from 0 (take l.end-index l.ends);
  start : l.start ≡ start_behind 0 (take l.end-index l.ends);
  len : vec_len l.starts ≡ l.end-index;
  room : length l.ends ≤ vec_capacity l.starts;
}
