use Rattle.std.proofs.Common.{map, take}
use Rattle.column_ops.specs.Comparing.{holds_of}
use Rattle.column_base.specs.Words.{IsWordOf}
use Rattle.column_ops.proofs.answer_words.word_by.Given as goal

abbrev pub invariant-loop-index : goal.invariant-loop-index
invariant-loop-index g l = IsWordOf l.word (map (λ item. holds_of l.fn.operator (g.T.Ord.cmp item l.fn.right)) (take l.index l.fn.items))
