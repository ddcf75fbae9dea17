use Rattle.std.proofs.Common.{◌≡◌, ◌++◌, ◌<◌, Some, length, map}
use Rattle.std.specs.Prelude.{slice_get}
use Rattle.column_base.specs.Bits.{set_indices_of}
use Rattle.runend_windows.specs.Starts.{starts_from}
use Rattle.runend_windows.proofs.Starts.{start_behind}
use Rattle.runend_windows.proofs.encode.first_items.Given as goal

-- the iterator has the ends that are not yet written, and each run so far has the item of its first row
abbrev pub invariant-loop-end : goal.invariant-loop-end
invariant-loop-end g l = record {
  left : l.ends.items ++ l.end-iterator ≡ set_indices_of l.changes;
  start : l.start ≡ start_behind 0 l.ends.items;
  within : l.start < length l.items;
  taken : map (λ item. Some item) l.values.items ≡ map (slice_get l.items) (starts_from 0 l.ends.items);
}
