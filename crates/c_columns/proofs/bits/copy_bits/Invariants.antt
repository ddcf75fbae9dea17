-- The bits so far.
use Rattle.std.proofs.Common.{◌≡◌, ◌+◌, map}
use Rattle.std.specs.List.{range_with_len}
use Rattle.c_columns.specs.Bits.{bit_in}
use Rattle.c_columns.proofs.bits.copy_bits.Given as goal

abbrev pub invariant-loop-row : goal.invariant-loop-row
invariant-loop-row l = l.bits ≡ map (λ k. bit_in l.bytes (l.first + k)) (range_with_len 0 l.row)
