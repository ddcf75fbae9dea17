use Rattle.std.proofs.Common.{◌≡◌, ◌++◌, None, Some, false, get_or, map}
use Rattle.column_base.specs.Bits.{set_indices_of}
use Rattle.column_ops.proofs.Blanked.{items_or}
use Rattle.column_ops.proofs.filter_bits.selected_with_marks.Given as goal

abbrev pub invariant-loop-row : goal.invariant-loop-row
invariant-loop-row g l = record {
  split : set_indices_of l.mask ≡ l.yielded ++ l.row-iterator;
  kept : map (λ x. Some x) l.kept ≡ map (λ i. get_or (map (λ x. Some x) (items_or l.bits l.marks false)) i None) l.yielded;
  flags : map (λ x. Some x) l.flags ≡ map (λ i. get_or (map (λ x. Some x) l.marks) i None) l.yielded;
}
