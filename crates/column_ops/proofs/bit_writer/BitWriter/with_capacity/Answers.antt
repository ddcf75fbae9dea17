use Rattle.column_ops.proofs.WrittenBits.{IsPartWord-none, written_bits-none}
use Rattle.column_ops.proofs.bit_writer.BitWriter.with_capacity.Goals as goal

pub invariant_of-result : goal.invariant_of-result
invariant_of-result g c = IsPartWord-none

pub returns-clause-empty : goal.returns-clause-empty
returns-clause-empty g c = written_bits-none c.in_ok-with_capacity.field-0.items c.in_ok-with_capacity.ensures.items
