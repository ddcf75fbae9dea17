-- The keys so far are those of the rows and flags so far, each of which has a name.
use Rattle.std.proofs.Common.{◌≡◌, ◌≤◌, None, length, map, take}
use Rattle.std.specs.String.{string_bytes}
use Rattle.std.specs.Vec.{vec_capacity, vec_len}
use Rattle.column_core.specs.Refusal.{first_fault}
use Rattle.runend_array.specs.Array.{rows}
use Rattle.c_columns.specs.Reads.{bytes_of}
use Rattle.c_tables.specs.Sorts.{order_by}
use Rattle.c_tables.specs.TableCalls.{row_name_fault}
use Rattle.c_tables.proofs.sorts.keys_of.Given as goal

abbrev pub invariant-loop-row : goal.invariant-loop-row
invariant-loop-row l = record {
  names_so_far : map (λ key. string_bytes key.name) l.keys.items ≡ map bytes_of (take l.row (rows l.names));
  orders_so_far : map (λ key. key.order) l.keys.items ≡ map order_by (take l.row l.flags);
  named : first_fault row_name_fault (take l.row (rows l.names)) ≡ None;
  room : length l.flags ≤ vec_capacity l.keys;
  counted : vec_len l.keys ≡ l.row;
}
