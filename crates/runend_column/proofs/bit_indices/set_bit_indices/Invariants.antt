use Rattle.std.proofs.Common.{◌≡◌, ◌++◌, ◌≤◌, count_by, vec_capacity}
use Rattle.column_base.specs.Bits.{set_indices_of}
use Rattle.runend_column.proofs.bit_indices.set_bit_indices.Given as goal

-- the places so far are written, the iterator has the others, and there is room for all
abbrev pub invariant-loop-place : goal.invariant-loop-place
invariant-loop-place g l = record {
  left : l.places.items ++ l.place-iterator ≡ set_indices_of l.bits;
  room : count_by (λ bit. bit) l.bits ≤ vec_capacity l.places;
}
