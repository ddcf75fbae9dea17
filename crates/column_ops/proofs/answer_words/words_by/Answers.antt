use Rattle.std.proofs.Common.{◌∙◌, ap, length, min}
use Rattle.column_ops.specs.Comparing.{holds_of}
use Rattle.column_ops.proofs.AnswerWords.{AreAnswered-none, AreAnswered-push, AreAnswered-len, AreAnswered-bits}
use Rattle.column_ops.proofs.answer_words.words_by.Goals as goal

pub loop-chunk-init : goal.loop-chunk-init
loop-chunk-init g c =
    let is = c.into_iter-chunk-iterator.ensures.into_iter_gives in (
      ap (λ i. i.size) is ∙ c.chunks-chunk-items.ensures.size,
      AreAnswered-none (λ item. holds_of c.args.operator (g.T.Ord.cmp item c.args.right)) c.args.items.now c.into_iter-chunk-iterator.result.rest.now c.in_ok-words.words.items
          (ap (λ i. i.rest.now) is ∙ c.chunks-chunk-items.ensures.rest) c.in_ok-words.ensures.items,
    )

pub loop-chunk-preserved : goal.loop-chunk-preserved
loop-chunk-preserved g c =
    let steps = c.in-Some.ensures.steps in
    let old = c.loop-chunk.invariant in
    let rest = c.loop-chunk.chunk-iterator.rest.now in (
      steps.0 ∙ old.0,
      AreAnswered-push (λ item. holds_of c.args.operator (g.T.Ord.cmp item c.args.right)) c.args.items.now rest c.in-Some.chunk.now c.next.new.self.rest.now c.loop-chunk.words.items c.push.new.self.items c.word_by.result
          old.1 steps.1.0 (steps.1.1 ∙ ap (λ s. min s (length rest)) old.0) steps.1.2 c.word_by.ensures c.in_ok-push.ensures.items,
    )

pub returns-clause-len : goal.returns-clause-len
returns-clause-len g c =
    AreAnswered-len (λ item. holds_of c.args.operator (g.T.Ord.cmp item c.args.right)) c.args.items.now c.loop-chunk.chunk-iterator.rest.now c.loop-chunk.words.items c.loop-chunk.invariant.1 c.in-None.ensures.steps.1.0

pub returns-clause-bits : goal.returns-clause-bits
returns-clause-bits g c =
    AreAnswered-bits (λ item. holds_of c.args.operator (g.T.Ord.cmp item c.args.right)) c.args.items.now c.loop-chunk.chunk-iterator.rest.now c.loop-chunk.words.items c.loop-chunk.invariant.1 c.in-None.ensures.steps.1.0
