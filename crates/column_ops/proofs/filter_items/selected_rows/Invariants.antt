use Rattle.std.proofs.Common.{◌≡◌, ◌≤◌, ◌++◌, None, get_or, length, map, vec_capacity, vec_len}
use Rattle.std.specs.Prelude.{count_by, unwrap_or}
use Rattle.column_base.specs.Validity.{validity_flags}
use Rattle.column_core.specs.Optionals.{optionals}
use Rattle.column_base.specs.Bits.{set_indices_of}
use Rattle.column_ops.proofs.filter_items.selected_rows.Given as goal

abbrev pub invariant-loop-row : goal.invariant-loop-row
invariant-loop-row g l = record {
  split : set_indices_of l.bits ≡ l.yielded ++ l.row-iterator;
  items : l.kept.items ≡ map (λ row. unwrap_or row l.blank) (map (λ i. get_or (optionals l.items (validity_flags l.validity (length l.items))) i None) l.yielded);
  len : vec_len l.kept ≡ length l.yielded;
  room : count_by (λ b. b) l.bits ≤ vec_capacity l.kept;
}
