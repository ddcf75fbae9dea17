use Rattle.std.proofs.Common.{◌∙◌, ap, sym, arith}
use Rattle.column_ops.specs.Comparing.{holds_of}
use Rattle.column_ops.proofs.AnswerWords.{IsWordOf-next}
use Rattle.column_ops.proofs.answer_words.word_by.Goals as goal

pub loop-index-preserved : goal.loop-index-preserved
loop-index-preserved g c =
    IsWordOf-next (λ item. holds_of c.args.operator (g.T.Ord.cmp item c.args.right)) c.args.items.now c.loop-index.index c.loop-index.word c.from.result c.index-items-index.result c.holds.result
    (omega arith) c.requires (sym c.index-items-index.is) (c.holds.ensures ∙ ap (holds_of c.args.operator) c.cmp.ensures) c.from.ensures c.loop-index.invariant
