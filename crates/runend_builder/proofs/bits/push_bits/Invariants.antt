use Rattle.std.proofs.Common.{◌≡◌, ◌+◌, ◌-◌, ◌≤◌, ◌++◌, drop, length, vec_capacity, vec_len}
use Rattle.runend_builder.proofs.bits.push_bits.Given as goal

abbrev pub invariant-loop-row : goal.invariant-loop-row
invariant-loop-row g l = record {
  rest : l.grown.items ++ drop l.row l.bits ≡ l.fn.grown.items ++ drop l.start l.bits;
  within : l.row ≤ length l.bits;
  room : vec_len l.grown + (length l.bits - l.row) ≤ vec_capacity l.grown;
}
