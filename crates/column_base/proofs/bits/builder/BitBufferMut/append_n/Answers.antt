use Rattle.std.proofs.Common.{◌∙◌, ap, arith, length}
use Rattle.column_base.proofs.WordDigits.{opened, view_of, invariant_of, lent}
use Rattle.column_base.proofs.WordGrowth.{resized_is, grown_by, grown_within}
use Rattle.column_base.proofs.bits.builder.BitBufferMut.append_n.Goals as goal

-- the run ends in the last word
pub invariant_of-self : goal.invariant_of-self
invariant_of-self g c =
    let old = opened c.self.view_is c.self.invariant in
    let grown = grown_within c.words_for-needed.result c.args.count old c.deref_mut.ensures.value c.words_for-needed.ensures (omega arith) c.fill_bits.ensures in
    invariant_of (lent c.self.inside.words grown (c.fill_bits.ensures.len ∙ ap length c.deref_mut.ensures.value))

pub returns-then-needed-len-clause-ok : goal.returns-then-needed-len-clause-ok
returns-then-needed-len-clause-ok g c =
    let old = opened c.self.view_is c.self.invariant in
    let grown = grown_within c.words_for-needed.result c.args.count old c.deref_mut.ensures.value c.words_for-needed.ensures (omega arith) c.fill_bits.ensures in
    view_of (lent c.self.inside.words grown (c.fill_bits.ensures.len ∙ ap length c.deref_mut.ensures.value))

pub invariant_of-self-2 : goal.invariant_of-self-2
invariant_of-self-2 g c =
    let old = opened c.self.view_is c.self.invariant in
    let resized = c.as_mut_slice-words.ensures.value ∙ c.in_ok-resize.ensures.items ∙ resized_is c.words_for-needed.result c.self.inside.words.len c.splat.result c.args.count old c.self.inside.words.ok.0 c.words_for-needed.ensures in
    let grown = grown_by c.words_for-needed.result c.splat.result c.args.count old resized c.words_for-needed.ensures c.splat.ensures c.fill_rest_of_word.ensures c.clear_from.ensures in
    let size = c.clear_from.ensures.len ∙ c.fill_rest_of_word.ensures.len ∙ ap length c.as_mut_slice-words.ensures.value in
    invariant_of (lent c.resize.new.self grown size)

pub returns-clause-ok : goal.returns-clause-ok
returns-clause-ok g c =
    let old = opened c.self.view_is c.self.invariant in
    let resized = c.as_mut_slice-words.ensures.value ∙ c.in_ok-resize.ensures.items ∙ resized_is c.words_for-needed.result c.self.inside.words.len c.splat.result c.args.count old c.self.inside.words.ok.0 c.words_for-needed.ensures in
    let grown = grown_by c.words_for-needed.result c.splat.result c.args.count old resized c.words_for-needed.ensures c.splat.ensures c.fill_rest_of_word.ensures c.clear_from.ensures in
    let size = c.clear_from.ensures.len ∙ c.fill_rest_of_word.ensures.len ∙ ap length c.as_mut_slice-words.ensures.value in
    view_of (lent c.resize.new.self grown size)
