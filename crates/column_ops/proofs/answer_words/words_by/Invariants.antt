use Rattle.std.specs.Prelude.{◌≡◌}
use Rattle.column_ops.specs.Comparing.{holds_of}
use Rattle.column_ops.proofs.AnswerWords.{AreAnswered}
use Rattle.column_ops.proofs.answer_words.words_by.Given as goal

abbrev pub invariant-loop-chunk : goal.invariant-loop-chunk
invariant-loop-chunk g l = (l.chunk-iterator.size ≡ 64) × AreAnswered (λ item. holds_of l.fn.operator (g.T.Ord.cmp item l.fn.right)) l.fn.items l.chunk-iterator.rest.now l.words.items
