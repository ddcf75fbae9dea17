-- What keys of floats and integers become, by the bits of the floats.
use Rattle.std.proofs.Common.{◌≡◌, ◌∙◌, ℕ, ◌+◌, ◌-◌, ◌*◌, ◌^◌, ◌<◌, ◌≤◌, ℤ, pos, negsuc, inl, inr, refl, ap, sym, subst, arith, unsigned_abs, mul-le-mul_right, pow_pos, nat_lt}
use Rattle.std.proofs.lemmas.Bool.{cases_lt, cases_order}
use Rattle.std.proofs.lemmas.Int.{ints}
use Rattle.column_base.specs.declared.dtype.PType.{PType}
use Rattle.column_base.specs.declared.dtype.PType.TheVariants.{U8, U16, U32, U64, I8, I16, I32, I64}
use Rattle.column_base.specs.Types.{HasNumber}
use Rattle.float_bits.specs.declared.formats.FloatFormat.{FloatFormat}
use Rattle.float_bits.specs.declared.formats.FloatFormat.TheVariants.{F16, F32, F64}
use Rattle.float_bits.specs.Casts.{IsFloatOf, IsInteger, IsNearestToInteger, IsRoundedFloat, IsSameFloat}
use Rattle.float_bits.specs.CommonSizes.{one_size}
use Rattle.float_bits.specs.Format.{IsPattern, sign_bit}
use Rattle.float_bits.specs.Number.{with_sign}
use Rattle.float_bits.specs.TotalOrder.{total_key}
use Rattle.float_bits.proofs.SameValues.{one_is}
use Rattle.float_bits.proofs.TotalKeys.{negative_key, positive_key}
use Rattle.column_floats.specs.Casts.{Becomes, BecomesNone, IsIntegerOfKey, IsKeyNearInteger, IsKeyOfInteger, IsRoundedKey, IsSameKey}
use Rattle.column_floats.specs.FloatRows.{bits_of_key}
use Rattle.column_floats.specs.Formats.{IsKey, keys_of_format}
use Rattle.column_floats.proofs.KeyBounds.{bits_of_total_key}

-- keys are the numbers of their type
pub key_of_number : (f : FloatFormat) (n : ℤ) → HasNumber (keys_of_format f) n → IsKey f n
key_of_number F16 (pos k) h = (omega (arith, ints), omega (arith, ints))
key_of_number F16 (negsuc k) h = (omega (arith, ints), omega (arith, ints))
key_of_number F32 (pos k) h = (omega (arith, ints), omega (arith, ints))
key_of_number F32 (negsuc k) h = (omega (arith, ints), omega (arith, ints))
key_of_number F64 (pos k) h = (omega (arith, ints), omega (arith, ints))
key_of_number F64 (negsuc k) h = (omega (arith, ints), omega (arith, ints))

pub long_key : (f : FloatFormat) (n : ℤ) → HasNumber (keys_of_format f) n → HasNumber I64 n
long_key F16 (pos k) h = omega (arith, ints)
long_key F16 (negsuc k) h = omega (arith, ints)
long_key F32 (pos k) h = omega (arith, ints)
long_key F32 (negsuc k) h = omega (arith, ints)
long_key F64 n h = h

plus_fits : (f : FloatFormat) (k : ℕ) → k < sign_bit f → HasNumber (keys_of_format f) (pos k)
plus_fits F16 k h = omega (arith, ints)
plus_fits F32 k h = omega (arith, ints)
plus_fits F64 k h = omega (arith, ints)

minus_fits : (f : FloatFormat) (k : ℕ) → k < sign_bit f → HasNumber (keys_of_format f) (negsuc k)
minus_fits F16 k h = omega (arith, ints)
minus_fits F32 k h = omega (arith, ints)
minus_fits F64 k h = omega (arith, ints)

pub pattern_key : (f : FloatFormat) (b : ℕ) → IsPattern f b → HasNumber (keys_of_format f) (total_key f b)
pattern_key f b p = elim (cases_lt b (sign_bit f)) [
  | inl x ↦ subst (λ (z : ℤ). HasNumber (keys_of_format f) z) (sym (positive_key f b x)) (plus_fits f b x)
  | inr y ↦ subst (λ (z : ℤ). HasNumber (keys_of_format f) z) (sym (negative_key f b y)) (minus_fits f (b - sign_bit f) (omega arith))
]

own_bits : (f : FloatFormat) (b : ℕ) → b ≡ bits_of_key f (total_key f b)
own_bits f b = bits_of_total_key f b (total_key f b) refl

-- keys in another format
pub same_key : (f g : FloatFormat) (key : ℤ) (bits cast : ℕ) → total_key f bits ≡ key → IsSameFloat f bits g cast → Becomes (keys_of_format g) (IsSameKey f g) key (total_key g cast)
same_key f g key bits cast is same = (
  pattern_key g cast same.pattern,
  subst (λ (a : ℕ). IsSameFloat f a g (bits_of_key g (total_key g cast))) (bits_of_total_key f bits key is) (subst (λ (b : ℕ). IsSameFloat f bits g b) (own_bits g cast) same),
)

pub no_same_key : (f g : FloatFormat) (key : ℤ) (bits : ℕ) → total_key f bits ≡ key → ((other : ℕ) → ¬ IsSameFloat f bits g other) → BecomesNone (Becomes (keys_of_format g) (IsSameKey f g)) key
no_same_key f g key bits is none = λ m becomes.
    none (bits_of_key g m) (subst (λ (a : ℕ). IsSameFloat f a g (bits_of_key g m)) (sym (bits_of_total_key f bits key is)) becomes.1)

pub rounded_key : (f g : FloatFormat) (key : ℤ) (bits cast : ℕ) → total_key f bits ≡ key → IsRoundedFloat f bits g cast → Becomes (keys_of_format g) (IsRoundedKey f g) key (total_key g cast)
rounded_key f g key bits cast is rounded = (
  pattern_key g cast rounded.pattern,
  subst (λ (a : ℕ). IsRoundedFloat f a g (bits_of_key g (total_key g cast))) (bits_of_total_key f bits key is) (subst (λ (b : ℕ). IsRoundedFloat f bits g b) (own_bits g cast) rounded),
)

-- keys of integers
pub key_of_integer : (g : FloatFormat) (z : ℤ) (cast : ℕ) → IsFloatOf g z cast → Becomes (keys_of_format g) (IsKeyOfInteger g) z (total_key g cast)
key_of_integer g z cast is = (pattern_key g cast is.pattern, subst (λ (b : ℕ). IsFloatOf g z b) (own_bits g cast) is)

pub no_key_of_integer : (g : FloatFormat) (z : ℤ) → ((bits : ℕ) → ¬ IsFloatOf g z bits) → BecomesNone (Becomes (keys_of_format g) (IsKeyOfInteger g)) z
no_key_of_integer g z none = λ m becomes. none (bits_of_key g m) becomes.1

pub key_near_integer : (g : FloatFormat) (z : ℤ) (cast : ℕ) → IsNearestToInteger g z cast → Becomes (keys_of_format g) (IsKeyNearInteger g) z (total_key g cast)
key_near_integer g z cast is = (pattern_key g cast is.pattern, subst (λ (b : ℕ). IsNearestToInteger g z b) (own_bits g cast) is)

-- no native type has an integer of more than 64 bits
pub number_few : (t : PType) (z : ℤ) → HasNumber t z → unsigned_abs z < 2 ^ 64
number_few U8 (pos k) h = omega (arith, ints)
number_few U16 (pos k) h = omega (arith, ints)
number_few U32 (pos k) h = omega (arith, ints)
number_few U64 (pos k) h = omega (arith, ints)
number_few U8 (negsuc k) h = omega (arith, ints)
number_few U16 (negsuc k) h = omega (arith, ints)
number_few U32 (negsuc k) h = omega (arith, ints)
number_few U64 (negsuc k) h = omega (arith, ints)
number_few I8 (pos k) h = omega (arith, ints)
number_few I16 (pos k) h = omega (arith, ints)
number_few I32 (pos k) h = omega (arith, ints)
number_few I64 (pos k) h = omega (arith, ints)
number_few I8 (negsuc k) h = omega (arith, ints)
number_few I16 (negsuc k) h = omega (arith, ints)
number_few I32 (negsuc k) h = omega (arith, ints)
number_few I64 (negsuc k) h = omega (arith, ints)

-- integers of floats
pub integer_of_key : (f : FloatFormat) (t : PType) (key : ℤ) (bits : ℕ) (z : ℤ) → total_key f bits ≡ key → IsInteger f bits z → HasNumber t z → Becomes t (IsIntegerOfKey f) key z
integer_of_key f t key bits z is integer fits = (fits, subst (λ (a : ℕ). IsInteger f a z) (bits_of_total_key f bits key is) integer)

pub no_integer_of_key : (f : FloatFormat) (t : PType) (key : ℤ) (bits : ℕ) → total_key f bits ≡ key → ((z : ℤ) → unsigned_abs z < 2 ^ 64 → ¬ IsInteger f bits z) → BecomesNone (Becomes t (IsIntegerOfKey f)) key
no_integer_of_key f t key bits is none = λ m becomes.
    none m (number_few t m becomes.0) (subst (λ (a : ℕ). IsInteger f a m) (sym (bits_of_total_key f bits key is)) becomes.1)

one_pos : 0 < one_size
one_pos = subst (λ z. 0 < z) (sym one_is) (pow_pos 1074)

same_factor : (a b c : ℕ) → 0 < c → a * c ≡ b * c → a ≡ b
same_factor a b c p e = elim (cases_order a b) [
  | inl h ↦ h
  | inr (inl h) ↦ let more : (a + 1) * c ≤ b * c = mul-le-mul_right c (omega arith) in absurd (omega arith)
  | inr (inr h) ↦ let more : (b + 1) * c ≤ a * c = mul-le-mul_right c (omega arith) in absurd (omega arith)
]

integer_once : (f : FloatFormat) (b : ℕ) (z w : ℤ) → IsInteger f b z → IsInteger f b w → z ≡ w
integer_once f b z w first second =
    let same = same_factor (unsigned_abs z) (unsigned_abs w) one_size one_pos (sym first.size ∙ second.size) in
    first.sign ∙ ap (λ n. with_sign (nat_lt b (sign_bit f)) n) same ∙ sym second.sign

pub other_integer_of_key : (f : FloatFormat) (t : PType) (key : ℤ) (bits : ℕ) (z : ℤ) → total_key f bits ≡ key → IsInteger f bits z → ¬ HasNumber t z → BecomesNone (Becomes t (IsIntegerOfKey f)) key
other_integer_of_key f t key bits z is integer outside = λ m becomes.
    outside (subst (λ (w : ℤ). HasNumber t w) (integer_once f bits m z (subst (λ (a : ℕ). IsInteger f a m) (sym (bits_of_total_key f bits key is)) becomes.1) integer) becomes.0)
