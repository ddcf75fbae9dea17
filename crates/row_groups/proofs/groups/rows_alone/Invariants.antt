-- A stretch for each row so far.
use Rattle.std.proofs.Common.{◌≡◌, ◌≤◌, length, map, take, vec_capacity, vec_len}
use Rattle.row_groups.specs.Groups.{row_alone}
use Rattle.row_groups.proofs.groups.rows_alone.Given as goal

abbrev pub invariant-loop-row : goal.invariant-loop-row
invariant-loop-row g l = record {
  shows : l.order.items ≡ map row_alone (take l.row-index l.rows);
  len : vec_len l.order ≡ l.row-index;
  room : length l.rows ≤ vec_capacity l.order;
}
