use Rattle.column_base.proofs.WordDigits.{view_of, invariant_of}
use Rattle.column_base.proofs.WordGrowth.{full_of}
use Rattle.column_base.proofs.WordClears.{cleared_whole}
use Rattle.column_base.proofs.bits.builder.BitBufferMut.full.Goals as goal

pub invariant_of-result : goal.invariant_of-result
invariant_of-result g c =
    let all = c.in_ok-words.ensures.items_if_clones_equal (λ y e. e) in
    let cleared = cleared_whole c.in_ok-words.words c.clear_from.ensures c.deref_mut.ensures.value in
    invariant_of (full_of c.splat.result c.words_for.result c.args.value c.splat.ensures c.words_for.ensures all cleared)

pub returns-clause-bits : goal.returns-clause-bits
returns-clause-bits g c =
    let all = c.in_ok-words.ensures.items_if_clones_equal (λ y e. e) in
    let cleared = cleared_whole c.in_ok-words.words c.clear_from.ensures c.deref_mut.ensures.value in
    view_of (full_of c.splat.result c.words_for.result c.args.value c.splat.ensures c.words_for.ensures all cleared)
