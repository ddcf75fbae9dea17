use Rattle.std.proofs.Common.{arith}
use Rattle.std.proofs.Common.{◌∙◌}
use Rattle.column_base.proofs.WordDigits.{opened}
use Rattle.column_base.proofs.WordCounts.{true_count_of, true_count_fits}
use Rattle.column_base.proofs.bits.buffer.BitBuffer.true_count.Goals as goal

pub ones_of-requires : goal.ones_of-requires
ones_of-requires g c =
    let old = opened c.self.view_is c.self.invariant in
    true_count_fits c.as_slice-words.result.now old (omega arith) c.as_slice-words.ensures.value c.type_inv.words

pub returns : goal.returns
returns g c =
    let old = opened c.self.view_is c.self.invariant in
    c.ones_of.ensures.count ∙ true_count_of c.as_slice-words.result.now old c.as_slice-words.ensures.value (λ i. record { fits = c.ones_of.ensures.fits i })
