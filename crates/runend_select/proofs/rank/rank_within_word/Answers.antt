use Rattle.std.proofs.Common.{ℕ, Fits, w64, arith, subst, sym}
use Rattle.runend_select.proofs.FirstBits.{set_bits-few, set_bits-to}
use Rattle.runend_select.proofs.rank.rank_within_word.Goals as goal

pub returns : goal.returns
returns g c = set_bits-to c.words-words.result.now c.args.bits.now c.args.place c.args.before c.low_mask.result c.words-words.ensures c.requires.within c.requires.counted c.low_mask.ensures

pub overflow_add-result : goal.overflow_add-result
overflow_add-result g c =
    let total = set_bits-to c.words-words.result.now c.args.bits.now c.args.place c.args.before c.low_mask.result c.words-words.ensures c.requires.within c.requires.counted c.low_mask.ensures in
    let few = set_bits-few c.args.bits.now c.args.place in
    subst (λ (n : ℕ). Fits w64 n) (sym total) (record { fits = omega (arith, few, c.ranges.place.fits) })
