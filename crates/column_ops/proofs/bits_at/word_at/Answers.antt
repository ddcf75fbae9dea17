use Rattle.std.proofs.Common.{◌≡◌, ◌≢◌, ◌∙◌, ◌-◌, ◌*◌, ◌%◌, ◌<◌, ℕ, suc, slice_index, sym, ap, arith, bit_or, ⊎_elim}
use Rattle.std.specs.Int.{bit_at}
use Rattle.std.proofs.lemmas.Bool.{cases_eq}
use Rattle.column_base.specs.Words.{digit_at}
use Rattle.column_base.proofs.WordDigits.{digit_at-le}
use Rattle.column_ops.proofs.WordsAt.{shifted_in-lowest, shifted_in-others}
use Rattle.column_ops.proofs.bits_at.word_at.Goals as goal

pub loop-left-preserved : goal.loop-left-preserved
loop-left-preserved c =
    let inv = c.loop-left.invariant in
    let left : ℕ = c.loop-left.left in
    let word : ℕ = c.loop-left.word in
    let bit : ℕ = c.bit_or_zero.result in
    let words = c.args.words.now in
    let positions = c.args.positions.now in
    let some : 0 < left = omega (arith, c.loop-left-test.true) in
    let small : bit < 2 = omega (arith, c.bit_or_zero.ensures, digit_at-le words (slice_index positions (left - 1))) in
    record {
      within = omega (arith, inv.within);
      bits = λ j low h. ⊎_elim
          (λ (here : j ≡ left - 1).
          let lowest : j - (left - 1) ≡ 0 = omega arith in
          ap (bit_at (bit_or (word * 2 % 18446744073709551616) bit)) lowest ∙ shifted_in-lowest word bit small ∙ c.bit_or_zero.ensures
          ∙ ap (λ k. digit_at words (slice_index positions k)) (sym here))
          (λ (other : j ≢ left - 1).
          let next : j - (left - 1) ≡ suc (j - left) = omega arith in
          ap (bit_at (bit_or (word * 2 % 18446744073709551616) bit)) next ∙ shifted_in-others word bit (j - left) small (omega (arith, c.requires)) ∙ inv.bits j (omega arith) h)
          (cases_eq j (left - 1));
    }
