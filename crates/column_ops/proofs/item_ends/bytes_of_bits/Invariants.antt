use Rattle.std.proofs.Common.{◌≡◌, ◌*◌, ◌<◌, ℕ}
use Rattle.std.specs.Prelude.{slice_index}
use Rattle.std.specs.Int.{bit_at}
use Rattle.column_ops.proofs.item_ends.bytes_of_bits.Given as goal

abbrev pub invariant-loop-eight : goal.invariant-loop-eight
invariant-loop-eight l = record {
  bits : (k : ℕ) → k < l.eight * 8 → slice_index l.bytes k ≡ bit_at l.word k;
}
