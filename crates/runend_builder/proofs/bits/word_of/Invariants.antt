use Rattle.std.proofs.Common.{take}
use Rattle.column_base.specs.Words.{IsWordOf}
use Rattle.runend_builder.proofs.bits.word_of.Given as goal

abbrev pub invariant-loop-index : goal.invariant-loop-index
invariant-loop-index l = IsWordOf l.word (take l.index l.fn.bits)
