-- The names so far are renamed.
use Rattle.std.proofs.Common.{◌≡◌, ◌≤◌, length, map, take}
use Rattle.std.specs.List.{AllZip}
use Rattle.std.specs.String.{string_bytes}
use Rattle.std.specs.Vec.{vec_capacity, vec_len}
use Rattle.tables.specs.Tables.{IsRenamedTo}
use Rattle.tables.proofs.names.renamed.Given as goal

abbrev pub invariant-loop-name : goal.invariant-loop-name
invariant-loop-name g l = record {
  renamed : AllZip (IsRenamedTo (map string_bytes l.fn.names) (map string_bytes l.fn.new_names)) (map string_bytes (take l.name-index l.fn.own)) (map string_bytes l.made.items);
  room : length l.fn.own ≤ vec_capacity l.made;
  counted : vec_len l.made ≡ l.name-index;
}
