-- Keys of floats as values of the type that stores them.
use Rattle.std.proofs.Common.{◌≡◌, ℕ, ℤ, List, Option, Some, None, sym, subst}
use Rattle.column_base.specs.Number.{Narrows}
use Rattle.column_base.specs.Types.{HasNumber}
use Rattle.column_base.specs.declared.dtype.PType.{PType}
use Rattle.column_floats.specs.Formats.{keys_of_format}
use Rattle.column_floats.proofs.CastKeys.{pattern_key}
use Rattle.column_words.specs.Floats.{IsFloatWord}
use Rattle.float_bits.specs.declared.formats.FloatFormat.{FloatFormat}
use Rattle.float_bits.specs.Format.{IsPattern}
use Rattle.float_bits.specs.TotalOrder.{total_key}
use Rattle.runend_script.specs.declared.command.RowWords.TheVariants.{Floats}
use Rattle.runend_script.specs.Rows.{ReadsNumber}

-- the type of a format's keys has the key of each float
pub key_read : {S : Type 0} (number : S → ℤ) (f : FloatFormat) (ptype : PType) (word : List ℕ) (bits : ℕ) (result : Option S) → ptype ≡ keys_of_format f → IsFloatWord f word bits → IsPattern f bits
    → Narrows number (HasNumber ptype) (total_key f bits) result → ReadsNumber number (Floats f) word result
key_read number f ptype word bits None stored means pattern narrowed = absurd (narrowed (subst (λ p. HasNumber p (total_key f bits)) (sym stored) (pattern_key f bits pattern)))
key_read number f ptype word bits (Some x) stored means pattern narrowed = (bits, means, narrowed.1)
