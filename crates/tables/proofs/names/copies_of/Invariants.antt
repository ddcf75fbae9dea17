-- The names so far are copied.
use Rattle.std.proofs.Common.{◌≡◌, ◌≤◌, length, map, take}
use Rattle.std.specs.String.{string_bytes}
use Rattle.std.specs.Vec.{vec_capacity, vec_len}
use Rattle.tables.proofs.names.copies_of.Given as goal

abbrev pub invariant-loop-name : goal.invariant-loop-name
invariant-loop-name g l = record {
  same : map string_bytes l.copies.items ≡ map string_bytes (take l.name-index l.fn.names);
  room : length l.fn.names ≤ vec_capacity l.copies;
  counted : vec_len l.copies ≡ l.name-index;
}
