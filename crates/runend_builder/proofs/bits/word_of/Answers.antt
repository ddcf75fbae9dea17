use Rattle.std.proofs.Common.{arith}
use Rattle.runend_builder.proofs.Packed.{IsWordOf-next}
use Rattle.runend_builder.proofs.bits.word_of.Goals as goal

pub loop-index-preserved : goal.loop-index-preserved
loop-index-preserved c =
    IsWordOf-next c.args.bits.now c.loop-index.index c.loop-index.word c.from.result (omega arith) c.requires c.from.ensures c.loop-index.invariant
