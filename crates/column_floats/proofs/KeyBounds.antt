-- Patterns by their keys.
use Rattle.std.proofs.Common.{◌≡◌, ◌∙◌, ℕ, ℤ, ◌+◌, ◌-◌, inl, inr, sym, ap, arith}
use Rattle.std.proofs.lemmas.Bool.{cases_lt}
use Rattle.float_bits.specs.declared.formats.FloatFormat.{FloatFormat}
use Rattle.float_bits.specs.Format.{sign_bit}
use Rattle.float_bits.specs.TotalOrder.{total_key}
use Rattle.float_bits.proofs.TotalKeys.{negative_key, positive_key}
use Rattle.column_floats.specs.FloatRows.{bits_of_key}

-- a pattern is that of its key
pub bits_of_total_key : (f : FloatFormat) (b : ℕ) (k : ℤ) → total_key f b ≡ k → b ≡ bits_of_key f k
bits_of_total_key f b k e = elim (cases_lt b (sign_bit f)) [
  | inl x ↦ ap (bits_of_key f) (sym (positive_key f b x) ∙ e)
  | inr y ↦ let past : b ≡ sign_bit f + (b - sign_bit f) = omega arith in past ∙ ap (bits_of_key f) (sym (negative_key f b y) ∙ e)
]
