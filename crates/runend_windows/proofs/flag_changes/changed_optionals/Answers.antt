use Rattle.std.proofs.Common.{◌≡◌, ◌≢◌, ◌∙◌, ◌+◌, ◌-◌, ◌*◌, ℕ, slice_index_or, refl, sym, ap, arith}
use Rattle.std.proofs.lemmas.Nat.Bits.{bit_at-lt}
use Rattle.column_base.specs.ValidityForm.{flag_at}
use Rattle.column_base.specs.Validity.{form_of}
use Rattle.column_base.specs.Words.{digit_at, one_if}
use Rattle.runend_windows.proofs.ChangedItems.{digit-here, either-bit, same-bits}
use Rattle.runend_windows.proofs.flag_changes.changed_optionals.Goals as goal

pub returns-in-Bits-clause-valid : goal.returns-in-Bits-clause-valid
returns-in-Bits-clause-valid g c = λ lane within before here.
    let words = c.words-words.result.now in
    let index : ℕ = c.args.index in
    let i : ℕ = index * 64 + lane in
    let word : ℕ = slice_index_or words index 0 in
    let bits = either-bit c.changed_bits.result word c.args.items lane in
    let at = digit-here words index word lane refl within in
    let last : digit_at words (i - 1) ≡ one_if (flag_at (form_of c.args.validity.now) (i - 1)) = c.words-words.ensures.digit (i - 1) ∙ sym (ap (λ own. one_if (flag_at (form_of own) (i - 1))) c.in-Bits.is) in
    let own : digit_at words i ≡ one_if (flag_at (form_of c.args.validity.now) i) = c.words-words.ensures.digit i ∙ sym (ap (λ own. one_if (flag_at (form_of own) i)) c.in-Bits.is) in
    let first = last ∙ ap one_if before in
    let second = own ∙ ap one_if here in
    omega (arith, bits, at, second, c.changed_bits.ensures.same lane within (first ∙ sym second), bit_at-lt c.args.items lane)

pub returns-in-Bits-clause-null : goal.returns-in-Bits-clause-null
returns-in-Bits-clause-null g c = λ lane within before here.
    let words = c.words-words.result.now in
    let index : ℕ = c.args.index in
    let i : ℕ = index * 64 + lane in
    let word : ℕ = slice_index_or words index 0 in
    let bits = either-bit c.changed_bits.result word c.args.items lane in
    let at = digit-here words index word lane refl within in
    let last : digit_at words (i - 1) ≡ one_if (flag_at (form_of c.args.validity.now) (i - 1)) = c.words-words.ensures.digit (i - 1) ∙ sym (ap (λ own. one_if (flag_at (form_of own) (i - 1))) c.in-Bits.is) in
    let own : digit_at words i ≡ one_if (flag_at (form_of c.args.validity.now) i) = c.words-words.ensures.digit i ∙ sym (ap (λ own. one_if (flag_at (form_of own) i)) c.in-Bits.is) in
    let first = last ∙ ap one_if before in
    let second = own ∙ ap one_if here in
    omega (arith, bits, at, second, c.changed_bits.ensures.same lane within (first ∙ sym second))

pub returns-in-Bits-clause-one : goal.returns-in-Bits-clause-one
returns-in-Bits-clause-one g c = λ lane within differ.
    let words = c.words-words.result.now in
    let index : ℕ = c.args.index in
    let i : ℕ = index * 64 + lane in
    let word : ℕ = slice_index_or words index 0 in
    let bits = either-bit c.changed_bits.result word c.args.items lane in
    let at = digit-here words index word lane refl within in
    let last : digit_at words (i - 1) ≡ one_if (flag_at (form_of c.args.validity.now) (i - 1)) = c.words-words.ensures.digit (i - 1) ∙ sym (ap (λ own. one_if (flag_at (form_of own) (i - 1))) c.in-Bits.is) in
    let own : digit_at words i ≡ one_if (flag_at (form_of c.args.validity.now) i) = c.words-words.ensures.digit i ∙ sym (ap (λ own. one_if (flag_at (form_of own) i)) c.in-Bits.is) in
    let digits : digit_at words (i - 1) ≢ digit_at words i = λ same. differ (same-bits (flag_at (form_of c.args.validity.now) (i - 1)) (flag_at (form_of c.args.validity.now) i) (sym last ∙ same ∙ own)) in
    omega (arith, bits, c.changed_bits.ensures.differs lane within digits, bit_at-lt word lane)
