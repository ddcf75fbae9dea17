use Rattle.std.proofs.Common.{◌∙◌, ap, length}
use Rattle.column_base.proofs.WordDigits.{opened, view_of, invariant_of, lent}
use Rattle.column_base.proofs.WordFills.{range_filled}
use Rattle.column_base.proofs.bits.builder.BitBufferMut.fill_range.Goals as goal

pub invariant_of-self : goal.invariant_of-self
invariant_of-self g c =
    let old = opened c.self.view_is c.self.invariant in
    invariant_of (lent c.self.inside.words (range_filled old c.deref_mut.ensures.value c.fill_bits.ensures c.requires.ordered c.requires.in_bounds) (c.fill_bits.ensures.len ∙ ap length c.deref_mut.ensures.value))

pub returns : goal.returns
returns g c =
    let old = opened c.self.view_is c.self.invariant in
    view_of (lent c.self.inside.words (range_filled old c.deref_mut.ensures.value c.fill_bits.ensures c.requires.ordered c.requires.in_bounds) (c.fill_bits.ensures.len ∙ ap length c.deref_mut.ensures.value))
