-- Words of floats: which bits each has.
use Rattle.std.specs.Prelude.{◌≡◌, ◌⊎◌, ◌+◌, ◌*◌, ◌%◌, ◌++◌, ◌==◌, ◌||◌, ℕ, Bool, false, List, Option, Some, IsFalse, IsTrue, codes, from_bits, option_map, to_bits}
use Rattle.std.specs.Char.{is_ascii_digit}
use Rattle.std.specs.Float.{binary32, binary64, float_is_finite}
use Rattle.std.specs.Float.Ieee.{Float, Format}
use Rattle.std.specs.Fmt.{digits}
use Rattle.std.specs.List.{AllPass}
use Rattle.std.specs.Str.Parse.{IsNumeral, digits_value}
use Rattle.fast_float.specs.Parse.{parse_float}
use Rattle.ryu.specs.Plain.{IsLaidOutNumber, word_of}
use Rattle.float_bits.specs.declared.formats.FloatFormat.{FloatFormat}
use Rattle.float_bits.specs.declared.formats.FloatFormat.TheVariants.{F16, F32, F64}
use Rattle.float_bits.specs.Casts.{IsRoundedFloat}
use Rattle.float_bits.specs.Format.{IsPattern, infinity, quiet_nan, sign_bit}
use Rattle.float_bits.specs.Number.{IsNan}

-- the name of a format
abbrev pub format_name : FloatFormat → List ℕ
format_name F16 = codes "f16"
format_name F32 = codes "f32"
format_name F64 = codes "f64"

-- the word names a NaN without payload, or an infinity
abbrev pub IsFloatName : FloatFormat → List ℕ → ℕ → Type 0
IsFloatName f word bits =
    ((word ≡ codes "nan") × (bits ≡ quiet_nan f))
    ⊎ (((word ≡ codes "inf") × (bits ≡ infinity f)) ⊎ ((word ≡ codes "-inf") × (bits ≡ sign_bit f + infinity f)))

-- these hexadecimal digits write the bits, which the format has
abbrev pub AreDigitsOf : FloatFormat → List ℕ → ℕ → Type 0
AreDigitsOf f hex bits = IsNumeral 16 hex × (digits_value 16 hex ≡ bits) × IsPattern f bits

-- the word writes the bits, in hexadecimal digits after `0x`
abbrev pub IsBitsWord : FloatFormat → List ℕ → ℕ → Type 0
IsBitsWord f word bits = (hex : List ℕ) × (word ≡ codes "0x" ++ hex) × AreDigitsOf f hex bits

-- a byte of a decimal: a digit, a minus, a point, or the `e` before an exponent
abbrev pub is_decimal_byte : ℕ → Bool
is_decimal_byte byte = is_ascii_digit byte || ((byte == 45 || byte == 46) || byte == 101)

-- the bits of the float that is nearest to the number that a text writes, at a tie those of the even one
abbrev pub nearest_bits : Format → List ℕ → Option ℕ
nearest_bits f text = option_map (to_bits f) (parse_float f text)

-- these are the bits of the nearest float; of 16 bits of the one that is nearest to the nearest of 64 bits
abbrev pub IsNearestFloat : FloatFormat → List ℕ → ℕ → Type 0
IsNearestFloat F16 text bits = (double : ℕ) × (nearest_bits binary64 text ≡ Some double) × IsRoundedFloat F64 double F16 bits
IsNearestFloat F32 text bits = nearest_bits binary32 text ≡ Some bits
IsNearestFloat F64 text bits = nearest_bits binary64 text ≡ Some bits

-- the word is a decimal, and these are the bits of the nearest float
abbrev pub IsDecimalWord : FloatFormat → List ℕ → ℕ → Type 0
IsDecimalWord f word bits = AllPass is_decimal_byte word × IsNearestFloat f word bits

-- the word means the float with these bits: it is a name, the bits themselves, or a decimal
abbrev pub IsFloatWord : FloatFormat → List ℕ → ℕ → Type 0
IsFloatWord f word bits = IsFloatName f word bits ⊎ (IsBitsWord f word bits ⊎ IsDecimalWord f word bits)

-- a text that reads back as the number: of an infinity its name, and of a finite float a decimal with a point or an
-- exponent, which is written where more digits would be before the point, or more zeros right after it, than these
pub record IsNumberText (f : Format) (whole_digits leading_zeros : ℕ) (x : Float) (text : List ℕ) : Type 0 where
  pub reads : parse_float f text ≡ Some x
  pub finite : IsTrue (float_is_finite x) → IsLaidOutNumber whole_digits leading_zeros text
  pub infinite : IsFalse (float_is_finite x) → text ≡ word_of x

-- the text of the float with these bits, which is not a NaN; of 16 bits that of the same float of 32 bits. Bits that the
-- format does not have are left out
abbrev pub IsFloatText : FloatFormat → ℕ → List ℕ → Type 0
IsFloatText F16 bits text = (single : ℕ) × IsRoundedFloat F16 (bits % (2 * sign_bit F16)) F32 single × IsNumberText binary32 13 5 (from_bits binary32 single) text
IsFloatText F32 bits text = IsNumberText binary32 13 5 (from_bits binary32 (bits % (2 * sign_bit F32))) text
IsFloatText F64 bits text = IsNumberText binary64 16 4 (from_bits binary64 bits) text

-- the word that is written for the float with these bits
pub record IsWrittenFloat (f : FloatFormat) (bits : ℕ) (word : List ℕ) : Type 0 where
  pub nan : IsNan f bits → word ≡ codes "0x" ++ digits 16 false bits
  pub number : ¬ IsNan f bits → IsFloatText f bits word
