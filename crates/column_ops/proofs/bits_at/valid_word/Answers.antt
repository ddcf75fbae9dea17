use Rattle.std.proofs.Common.{◌≡◌, ◌∙◌, ◌+◌, ◌*◌, ◌/◌, ◌%◌, ℕ, get_or, sym, ap, arith}
use Rattle.std.specs.Int.{bit_at}
use Rattle.std.proofs.lemmas.Nat.Bits.{bit_at_ones, bit_at-zero}
use Rattle.column_base.specs.ValidityForm.{flag_at}
use Rattle.column_base.specs.Validity.{form_of}
use Rattle.column_base.specs.Words.{one_if}
use Rattle.column_base.proofs.WordDigits.{digit_in_word}
use Rattle.column_ops.proofs.bits_at.valid_word.Goals as goal

pub returns-in-NonNullable : goal.returns-in-NonNullable
returns-in-NonNullable g c = λ j h. bit_at_ones 64 j h ∙ sym (ap (λ own. one_if (flag_at (form_of own) (c.args.index * 64 + j))) c.in-NonNullable.is)

pub returns-in-AllValid : goal.returns-in-AllValid
returns-in-AllValid g c = λ j h. bit_at_ones 64 j h ∙ sym (ap (λ own. one_if (flag_at (form_of own) (c.args.index * 64 + j))) c.in-AllValid.is)

pub returns-in-Bits : goal.returns-in-Bits
returns-in-Bits g c = λ j h.
    let i : ℕ = c.args.index * 64 + j in
    let here : i / 64 ≡ c.args.index = omega arith in
    let lane : i % 64 ≡ j = omega arith in
    sym (ap (bit_at (get_or c.words.result.now c.args.index 0)) lane) ∙ sym (digit_in_word c.words.result.now c.args.index i here)
    ∙ c.words.ensures.digit i ∙ sym (ap (λ own. one_if (flag_at (form_of own) i)) c.in-Bits.is)
