use Rattle.std.proofs.Common.{arith}
use Rattle.column_ops.proofs.AnswerWords.{AreKept-none, AreKept-next}
use Rattle.column_ops.proofs.answer_words.clear_unset.Goals as goal

pub loop-index-init : goal.loop-index-init
loop-index-init c = AreKept-none c.args.words.now c.args.set.now

pub loop-index-preserved : goal.loop-index-preserved
loop-index-preserved c = AreKept-next c.args.words.now c.args.set.now c.loop-index.words c.loop-index.index (omega arith) c.loop-index.invariant

pub returns-clause-both : goal.returns-clause-both
returns-clause-both c = λ k h. c.loop-index.invariant.before k (omega arith)
