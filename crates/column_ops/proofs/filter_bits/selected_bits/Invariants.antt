use Rattle.std.proofs.Common.{◌≡◌, ◌++◌, None, Some, get_or, map}
use Rattle.column_base.specs.Bits.{set_indices_of}
use Rattle.column_ops.proofs.filter_bits.selected_bits.Given as goal

abbrev pub invariant-loop-row : goal.invariant-loop-row
invariant-loop-row g l = record {
  split : set_indices_of l.mask ≡ l.yielded ++ l.row-iterator;
  bits : map (λ x. Some x) l.kept ≡ map (λ i. get_or (map (λ x. Some x) l.bits) i None) l.yielded;
}
