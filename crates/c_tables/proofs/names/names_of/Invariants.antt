-- The names so far are those of the rows, each of which has one.
use Rattle.std.proofs.Common.{◌≡◌, ◌≤◌, None, length, map, take}
use Rattle.std.specs.String.{string_bytes}
use Rattle.std.specs.Vec.{vec_capacity, vec_len}
use Rattle.column_core.specs.Refusal.{first_fault}
use Rattle.runend_array.specs.Array.{rows}
use Rattle.c_columns.specs.Reads.{bytes_of}
use Rattle.c_tables.specs.TableCalls.{row_name_fault}
use Rattle.c_tables.proofs.names.names_of.Given as goal

abbrev pub invariant-loop-row : goal.invariant-loop-row
invariant-loop-row l = record {
  same : map string_bytes l.names.items ≡ map bytes_of (take l.row (rows l.array));
  named : first_fault row_name_fault (take l.row (rows l.array)) ≡ None;
  room : length (rows l.array) ≤ vec_capacity l.names;
  counted : vec_len l.names ≡ l.row;
}
