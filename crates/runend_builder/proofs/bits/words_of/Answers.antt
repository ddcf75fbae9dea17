use Rattle.std.proofs.Common.{◌∙◌, ap, length, min}
use Rattle.runend_builder.proofs.Packed.{ArePacked-all, ArePacked-len, ArePacked-none, ArePacked-push}
use Rattle.runend_builder.proofs.bits.words_of.Goals as goal

pub loop-chunk-init : goal.loop-chunk-init
loop-chunk-init g c =
    let is = c.into_iter-chunk-iterator.ensures.into_iter_gives in (
      ap (λ i. i.size) is ∙ c.chunks-chunk-items.ensures.size,
      ArePacked-none c.args.bits.now c.into_iter-chunk-iterator.result.rest.now c.in_ok-words.words.items (ap (λ i. i.rest.now) is ∙ c.chunks-chunk-items.ensures.rest) c.in_ok-words.ensures.items,
    )

pub loop-chunk-preserved : goal.loop-chunk-preserved
loop-chunk-preserved g c =
    let steps = c.in-Some.ensures.steps in
    let old = c.loop-chunk.invariant in
    let rest = c.loop-chunk.chunk-iterator.rest.now in (
      steps.0 ∙ old.0,
      ArePacked-push c.args.bits.now rest c.in-Some.chunk.now c.next.new.self.rest.now c.loop-chunk.words.items c.push.new.self.items c.word_of.result
          old.1 steps.1.0 (steps.1.1 ∙ ap (λ s. min s (length rest)) old.0) steps.1.2 c.word_of.ensures c.in_ok-push.ensures.items,
    )

pub returns-clause-len : goal.returns-clause-len
returns-clause-len g c = ArePacked-len c.args.bits.now c.loop-chunk.chunk-iterator.rest.now c.loop-chunk.words.items c.loop-chunk.invariant.1 c.in-None.ensures.steps.1.0

pub returns-clause-bits : goal.returns-clause-bits
returns-clause-bits g c = ArePacked-all c.args.bits.now c.loop-chunk.chunk-iterator.rest.now c.loop-chunk.words.items c.loop-chunk.invariant.1 c.in-None.ensures.steps.1.0
