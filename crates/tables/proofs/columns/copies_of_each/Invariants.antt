-- The columns so far are copied.
use Rattle.std.proofs.Common.{◌≡◌, ◌≤◌, length, map, take}
use Rattle.std.specs.Vec.{vec_capacity, vec_len}
use Rattle.typed_columns.specs.Typed.{typed_of}
use Rattle.tables.proofs.columns.copies_of_each.Given as goal

abbrev pub invariant-loop-column : goal.invariant-loop-column
invariant-loop-column g l = record {
  same : map typed_of l.copies.items ≡ map typed_of (take l.column-index l.fn.columns);
  room : length l.fn.columns ≤ vec_capacity l.copies;
  counted : vec_len l.copies ≡ l.column-index;
  session : l.ctx ≡ l.fn.ctx;
}
