-- The columns that have been joined so far.
use Rattle.std.proofs.Common.{◌≡◌, ◌≤◌, length, map, take}
use Rattle.std.specs.Vec.{vec_capacity, vec_len}
use Rattle.tables.specs.Appended.{AreJoined}
use Rattle.typed_columns.specs.Typed.{typed_of}
use Rattle.tables.proofs.joined.join_each.Given as goal

abbrev pub invariant-loop-place : goal.invariant-loop-place
invariant-loop-place g l = record {
  joined : AreJoined (take l.place (map typed_of l.fn.columns)) (take l.place (map typed_of l.fn.others)) (map typed_of l.kept.items);
  room : length l.fn.columns ≤ vec_capacity l.kept;
  counted : vec_len l.kept ≡ l.place;
  session : l.ctx ≡ l.fn.ctx;
}
