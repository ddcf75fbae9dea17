use Rattle.std.proofs.Common.{◌≡◌, ◌+◌, ◌++◌, ◌≤◌, count_by, vec_capacity, ◌∷◌}
use Rattle.column_base.specs.Bits.{set_indices_of}
use Rattle.runend_encode.proofs.run_ends.RunBounds.of_changes.Given as goal

-- the places so far are written after row 0, the iterator has the others, and there is room for all and one more
abbrev pub invariant-loop-place : goal.invariant-loop-place
invariant-loop-place g l = record {
  left : l.rows.items ++ l.place-iterator ≡ 0 ∷ set_indices_of l.bits;
  room : count_by (λ bit. bit) l.bits + 2 ≤ vec_capacity l.rows;
}
