-- The floats that rows of keys are, each by its bits.
use Rattle.std.specs.Prelude.{ℕ, ℤ, ◌+◌, pos, negsuc, List, Option, filter_map, map, option_map, unsigned_abs}
use Rattle.column_base.specs.declared.dtype.DType.{DType}
use Rattle.column_core.specs.Value.{Number, Single, Value}
use Rattle.column_sums.specs.SumAnswer.{number_in}
use Rattle.float_bits.specs.declared.formats.FloatFormat.{FloatFormat}
use Rattle.float_bits.specs.declared.formats.FloatFormat.TheVariants.{F64}
use Rattle.float_bits.specs.Format.{sign_bit}
use Rattle.column_floats.specs.Formats.{format_of}

-- the bits of the float that has this key
abbrev pub bits_of_key : FloatFormat → ℤ → ℕ
bits_of_key f (pos n) = n
bits_of_key f (negsuc n) = sign_bit f + n

-- the float of a row, or nothing for null
abbrev pub float_in : FloatFormat → Option Value → Option ℕ
float_in f row = option_map (bits_of_key f) (number_in row)

-- the floats of the rows of a column of this type
abbrev pub floats_of : DType → List (Option Value) → List (Option ℕ)
floats_of t rows = map (float_in (format_of t)) rows

-- the row that is the bits of a float
abbrev pub bits_row : Option ℕ → Option Value
bits_row float = option_map (λ b. Single (Number (pos b))) float

-- the row that a number of bits becomes
abbrev pub key_row : (ℕ → ℤ) → Option Value → Option Value
key_row key row = option_map (λ n. Single (Number (key (unsigned_abs n)))) (number_in row)

-- the bits of the floats of 64 bits that these keys are of, without null
abbrev pub doubles_of : List (Option ℤ) → List ℕ
doubles_of keys = filter_map (option_map (bits_of_key F64)) keys
