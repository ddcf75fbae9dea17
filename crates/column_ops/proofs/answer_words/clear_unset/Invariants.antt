use Rattle.column_ops.proofs.AnswerWords.{AreKept}
use Rattle.column_ops.proofs.answer_words.clear_unset.Given as goal

abbrev pub invariant-loop-index : goal.invariant-loop-index
invariant-loop-index l = AreKept l.fn.words l.fn.set l.words l.index
