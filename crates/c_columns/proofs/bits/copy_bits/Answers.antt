use Rattle.std.proofs.Common.{◌+◌}
use Rattle.c_columns.specs.Bits.{bit_in}
use Rattle.c_columns.proofs.CountedRows.{one_more}
use Rattle.c_columns.proofs.bits.copy_bits.Goals as goal

pub loop-row-preserved : goal.loop-row-preserved
loop-row-preserved c = one_more (λ k. bit_in c.args.bytes.now (c.args.first + k)) c.loop-row.row c.loop-row.bits c.append.new.self c.bit_of.result c.loop-row.invariant c.in_ok-append.ensures.ok c.bit_of.ensures
