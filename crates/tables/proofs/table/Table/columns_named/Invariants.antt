-- The columns of the names so far are copied.
use Rattle.std.proofs.Common.{◌≡◌, ◌≤◌, length, map, take}
use Rattle.std.specs.List.{AllZip}
use Rattle.std.specs.Vec.{vec_capacity, vec_len}
use Rattle.tables.specs.Tables.{IsNamed}
use Rattle.typed_columns.specs.Typed.{typed_of}
use Rattle.tables.proofs.table.Table.columns_named.Given as goal

abbrev pub invariant-loop-name : goal.invariant-loop-name
invariant-loop-name g l = record {
  named : AllZip (IsNamed l.fn.self) (map g.N.Named.named (take l.name-index l.fn.names)) (map typed_of l.kept.items);
  room : length l.fn.names ≤ vec_capacity l.kept;
  counted : vec_len l.kept ≡ l.name-index;
  session : l.ctx ≡ l.fn.ctx;
}
