use Rattle.std.proofs.Common.{◌∙◌, ap, length, sym, arith}
use Rattle.std.proofs.lemmas.List.{take_all}
use Rattle.column_base.proofs.WordDigits.{opened, view_of, invariant_of, lent}
use Rattle.column_base.proofs.WordClears.{truncated, truncated-least}
use Rattle.column_base.proofs.bits.builder.BitBufferMut.truncate.Goals as goal

pub returns-then-count-self : goal.returns-then-count-self
returns-then-count-self g c =
    let old = opened c.self.view_is c.self.invariant in
    sym (take_all c.args.count c.args.self.now (omega (arith, old.len)))

pub clear_from-requires : goal.clear_from-requires
clear_from-requires g c =
    let old = opened c.self.view_is c.self.invariant in
    truncated-least c.words_for.result c.args.count c.deref_mut.result.now old (c.deref_mut.ensures.value ∙ c.truncate.ensures.items) c.words_for.ensures c.if-count-self.false

pub invariant_of-self : goal.invariant_of-self
invariant_of-self g c =
    let old = opened c.self.view_is c.self.invariant in
    invariant_of (lent c.truncate.new.self (truncated c.words_for.result c.args.count old (c.deref_mut.ensures.value ∙ c.truncate.ensures.items) c.words_for.ensures c.if-count-self.false c.clear_from.ensures) (c.clear_from.ensures.len ∙ ap length c.deref_mut.ensures.value))

pub returns : goal.returns
returns g c =
    let old = opened c.self.view_is c.self.invariant in
    view_of (lent c.truncate.new.self (truncated c.words_for.result c.args.count old (c.deref_mut.ensures.value ∙ c.truncate.ensures.items) c.words_for.ensures c.if-count-self.false c.clear_from.ensures) (c.clear_from.ensures.len ∙ ap length c.deref_mut.ensures.value))
