use Rattle.std.proofs.Common.{◌∙◌, ap, length, arith}
use Rattle.column_base.proofs.WordDigits.{opened}
use Rattle.column_base.proofs.WordPlaces.{left_start}
use Rattle.column_base.proofs.bits.buffer.BitBuffer.set_indices.Goals as goal

pub in_words-requires : goal.in_words-requires
in_words-requires g c =
    let old = opened c.self.view_is c.self.invariant in
    omega (arith, ap length c.as_slice-words.ensures.value, old.packs.least, old.len)

pub returns : goal.returns
returns g c =
    let old = opened c.self.view_is c.self.invariant in
    c.in_words.ensures ∙ left_start c.as_slice-words.result.now old c.as_slice-words.ensures.value
