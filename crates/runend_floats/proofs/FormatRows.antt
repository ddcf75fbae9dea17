-- Rows of floats of each format as rows of the same floats of 64 bits.
use Rattle.std.proofs.Common.{◌≡◌, ◌≢◌, ◌∙◌, ℕ, zero, suc, ℤ, ◌+◌, ◌-◌, ◌*◌, ◌/◌, ◌%◌, ◌^◌, ◌<◌, ◌≤◌, inl, inr, true, List, [], ◌∷◌, Option, Some, None, refl, ap, sym, subst, arith, le_refl, lt-ltb, le-ltb, ne_eqb, nat_lt}
use Rattle.std.specs.Prelude.{if◌then◌else◌, ◌==◌}
use Rattle.std.proofs.lemmas.Bool.{cases_eq, cases_lt, cases_order}
use Rattle.std.proofs.lemmas.Nat.{pow-add}
use Rattle.float_bits.specs.declared.formats.FloatFormat.{FloatFormat}
use Rattle.float_bits.specs.declared.formats.FloatFormat.TheVariants.{F16, F32, F64}
use Rattle.float_bits.specs.Casts.{IsRoundedFloat, IsRoundedMagnitude, IsSameFloat, IsSameMagnitude}
use Rattle.float_bits.specs.CommonSizes.{common_size, unit_doublings, unit_size}
use Rattle.float_bits.specs.Format.{IsPattern, exponent, exponent_unit, fraction, infinity, magnitude, sign_bit}
use Rattle.float_bits.specs.Nearest.{IsNearestIn}
use Rattle.float_bits.specs.Number.{scaled, size}
use Rattle.float_bits.specs.Tally.{Tally, joined, row_of, tally, tally_of}
use Rattle.float_bits.proofs.FormatSizes.{common_ascends, common_of_zero, fields_of, own_magnitude, size_of_digits, unit_is}
use Rattle.float_bits.proofs.Magnitudes.{negative_magnitude, positive_magnitude}
use Rattle.float_bits.proofs.SameValues.{minus_magnitude}
use Rattle.float_bits.proofs.Sizes.{same_size}
use Rattle.column_base.specs.declared.dtype.DType.{DType}
use Rattle.column_base.specs.declared.dtype.DType.TheVariants as column
use Rattle.column_base.specs.declared.dtype.PType.TheVariants.{U8, U16, U32, U64, I8, I16, I32, I64}
use Rattle.column_floats.specs.FloatRows.{bits_of_key, doubles_of}
use Rattle.column_floats.specs.Formats.{format_of, is_doubles}
use Rattle.runend_floats.specs.Sums.{row_in, tally_of_keys}
use Rattle.runend_floats.proofs.Rounded.{magnitude_below, nan_kept}

-- digits that are doubled until there are 53
record HasDigits (d k : ℕ) : Type 0 where
  times : ℕ
  few : times ≤ k
  low : 2 ^ 52 ≤ d * 2 ^ times
  high : d * 2 ^ times < 2 ^ 53

twice : (d j : ℕ) → 2 * d * 2 ^ j ≡ d * 2 ^ (j + 1)
twice d j = let more : 2 ^ (j + 1) ≡ 2 ^ j * 2 = pow-add 2 j 1 in let same : d * 2 ^ (j + 1) ≡ d * (2 ^ j * 2) = ap (λ z. d * z) more in omega arith

digits_of : (k d : ℕ) → d < 2 ^ 53 → 2 ^ 52 ≤ d * 2 ^ k → HasDigits d k
digits_of zero d h l = record { times = 0; few = omega arith; low = l; high = omega arith }
digits_of (suc k) d h l = elim (cases_lt d (2 ^ 52)) [
  | inr big ↦ record { times = 0; few = omega arith; low = omega arith; high = omega arith }
  | inl small ↦
      let next : suc k ≡ k + 1 = omega arith in
      let whole : 2 ^ 52 ≤ 2 * d * 2 ^ k = subst (λ z. 2 ^ 52 ≤ z) (ap (λ z. d * 2 ^ z) next ∙ sym (twice d k)) l in
      let rest = digits_of k (2 * d) (omega arith) whole in
      let fewer = rest.few in
      record {
        times = rest.times + 1;
        few = omega arith;
        low = subst (λ z. 2 ^ 52 ≤ z) (twice d rest.times) rest.low;
        high = subst (λ z. z < 2 ^ 53) (twice d rest.times) rest.high;
      }
]

-- the size of a pattern, as digits that are doubled
record IsDoubled (n : ℕ) : Type 0 where
  digits : ℕ
  doublings : ℕ
  few : digits < 2 ^ 53
  most : doublings ≤ 254
  is : n ≡ digits * 2 ^ doublings

scaled_digits : (unit x t : ℕ) → unit + t < 2 ^ 53 → x ≤ 254 → IsDoubled (scaled unit x t)
scaled_digits unit zero t h b = record { digits = t; doublings = 0; few = omega arith; most = omega arith; is = omega arith }
scaled_digits unit (suc x) t h b = record { digits = unit + t; doublings = x; few = h; most = omega arith; is = refl }

double_is_one : unit_size F64 ≡ 1
double_is_one = unit_is F64

pub own_size : (b : ℕ) → common_size F64 b ≡ size F64 b
own_size b = ap (λ z. size F64 b * z) double_is_one ∙ omega arith

-- some float of 64 bits has these digits, doubled this often
record IsDouble (n : ℕ) : Type 0 where
  bits : ℕ
  finite : bits < infinity F64
  size_is : n ≡ common_size F64 bits

double_with : (d k u : ℕ) → d < 2 ^ 53 → k ≤ 254 → 52 ≤ u → u ≤ 1050 → IsDouble (d * 2 ^ k * 2 ^ u)
double_with zero k u h a b c = record { bits = 0; finite = omega arith; size_is = sym (common_of_zero F64 ∙ omega arith) }
double_with (suc d) k u h a b c =
    let own = digits_of 52 (suc d) h (omega arith) in
    let few = own.few in
    let low = own.low in
    let high = own.high in
    let rest = k + u - own.times in
    let all : own.times + rest ≡ k + u = omega arith in
    let powers : 2 ^ own.times * 2 ^ rest ≡ 2 ^ k * 2 ^ u = sym (pow-add 2 own.times rest) ∙ ap (λ z. 2 ^ z) all ∙ pow-add 2 k u in
    let sized = size_of_digits F64 rest (suc d * 2 ^ own.times) (λ _. low) high (omega arith) in
    let left : suc d * 2 ^ own.times * 2 ^ rest ≡ suc d * (2 ^ own.times * 2 ^ rest) = omega arith in
    let right : suc d * 2 ^ k * 2 ^ u ≡ suc d * (2 ^ k * 2 ^ u) = omega arith in
    record {
      bits = rest * exponent_unit F64 + suc d * 2 ^ own.times;
      finite = omega arith;
      size_is = right ∙ ap (λ z. suc d * z) (sym powers) ∙ sym left ∙ sym sized ∙ sym (own_size (rest * exponent_unit F64 + suc d * 2 ^ own.times));
    }

double_of_size : (f : FloatFormat) (m : ℕ) → IsDoubled (size f m) → 52 ≤ unit_doublings f → unit_doublings f ≤ 1050 → IsDouble (common_size f m)
double_of_size f m own low high =
    let made = double_with own.digits own.doublings (unit_doublings f) own.few own.most low high in
    let same : common_size f m ≡ own.digits * 2 ^ own.doublings * 2 ^ unit_doublings f = ap (λ z. z * unit_size f) own.is ∙ ap (λ z. own.digits * 2 ^ own.doublings * z) (unit_is f) in
    subst IsDouble (sym same) made

-- each magnitude is one of 64 bits
finite_double : (f : FloatFormat) (m : ℕ) → m < infinity f → IsDouble (common_size f m)
finite_double F16 m h = double_of_size F16 m (scaled_digits (exponent_unit F16) (exponent F16 m) (fraction F16 m) (omega arith) (omega arith)) (omega arith) (omega arith)
finite_double F32 m h = double_of_size F32 m (scaled_digits (exponent_unit F32) (exponent F32 m) (fraction F32 m) (omega arith) (omega arith)) (omega arith) (omega arith)
finite_double F64 m h = record { bits = m; finite = h; size_is = refl }

nan_double : (f : FloatFormat) (m : ℕ) → fraction f m * exponent_unit F64 % exponent_unit f ≡ 0
nan_double F16 m = omega arith
nan_double F32 m = omega arith
nan_double F64 m = omega arith

-- so what is nearest to a float is the same float
exact_size : (f : FloatFormat) (m n : ℕ) → IsDouble (common_size f m) → IsNearestIn F64 (common_size f m) n → (n < infinity F64) × (common_size f m ≡ common_size F64 n)
exact_size f m n double near =
    let exact = double.bits in
    let within = double.finite in
    let is = double.size_is in
    let apart = near.nearest exact (omega arith) in
    let size : common_size f m ≡ common_size F64 n = omega (arith, apart, is) in
    let last = near.pattern in (
      elim (cases_order n (infinity F64)) [
        | inl e ↦
            let more = (common_ascends F64).up exact n (omega arith) last in
            absurd (omega (arith, more, size, is))
        | inr (inl l) ↦ l
        | inr (inr l) ↦ absurd (omega arith)
      ],
      size,
    )

rounded_magnitude_is_same : (f : FloatFormat) (m n : ℕ) → m < sign_bit f → IsRoundedMagnitude f m F64 n → IsSameMagnitude f m F64 n
rounded_magnitude_is_same f m n q rounded = record {
  pattern = rounded.pattern;
  finite = λ l. exact_size f m n (finite_double f m l) (rounded.finite l);
  infinite = λ e. rounded.infinite e;
  nan = λ l. elim (rounded.nan l) [
    | inl same ↦ same.nan l
    | inr lost ↦ absurd (lost.1 (infinity F64 + fraction f m * exponent_unit F64 / exponent_unit f) (nan_kept f F64 m l q (nan_double f m)))
  ];
}

pub rounded_is_same : (f : FloatFormat) (a b : ℕ) → IsRoundedFloat f a F64 b → IsSameFloat f a F64 b
rounded_is_same f a b rounded =
    record { pattern = rounded.pattern; sign = rounded.sign; value = rounded_magnitude_is_same f (magnitude f a) (magnitude F64 b) (magnitude_below f a) rounded.value }

-- one row, by tests of its pattern
plus_in : (f : FloatFormat) (a : ℕ) → magnitude f a < infinity f → a < sign_bit f → row_in f a ≡ tally 1 (common_size f a) 0 0 0 0 0
plus_in f a h l = rw (lt-ltb (magnitude f a) (infinity f) h, lt-ltb a (sign_bit f) l) refl

minus_in : (f : FloatFormat) (a : ℕ) → magnitude f a < infinity f → sign_bit f ≤ a → a ≢ sign_bit f → row_in f a ≡ tally 1 0 (common_size f a) 0 0 0 0
minus_in f a h l d = rw (lt-ltb (magnitude f a) (infinity f) h, le-ltb a (sign_bit f) l, ne_eqb a (sign_bit f) d) refl

nan_in : (f : FloatFormat) (a : ℕ) → infinity f ≤ magnitude f a → a ≢ infinity f → a ≢ sign_bit f + infinity f → row_in f a ≡ tally 1 0 0 1 0 0 0
nan_in f a h p q = rw (le-ltb (magnitude f a) (infinity f) h, ne_eqb a (infinity f) p, ne_eqb a (sign_bit f + infinity f) q) refl

minus_zero_in : (f : FloatFormat) → row_in f (sign_bit f) ≡ tally 1 0 0 0 0 0 1
minus_zero_in F16 = refl
minus_zero_in F32 = refl
minus_zero_in F64 = refl

infinity_in : (f : FloatFormat) → row_in f (infinity f) ≡ tally 1 0 0 0 1 0 0
infinity_in F16 = refl
infinity_in F32 = refl
infinity_in F64 = refl

minus_infinity_in : (f : FloatFormat) → row_in f (sign_bit f + infinity f) ≡ tally 1 0 0 0 0 1 0
minus_infinity_in F16 = refl
minus_infinity_in F32 = refl
minus_infinity_in F64 = refl

-- a row of 64 bits is one of its own format
by_tests : (b s t : ℕ) → s ≡ t →
    (if nat_lt (magnitude F64 b) (infinity F64) then
    (if nat_lt b (sign_bit F64) then tally 1 s 0 0 0 0 0
    else (if b == sign_bit F64 then tally 1 0 0 0 0 0 1 else tally 1 0 s 0 0 0 0))
    else (if b == infinity F64 then tally 1 0 0 0 1 0 0
    else (if b == sign_bit F64 + infinity F64 then tally 1 0 0 0 0 1 0 else tally 1 0 0 1 0 0 0)))
    ≡
    (if nat_lt (magnitude F64 b) (infinity F64) then
    (if nat_lt b (sign_bit F64) then tally 1 t 0 0 0 0 0
    else (if b == sign_bit F64 then tally 1 0 0 0 0 0 1 else tally 1 0 t 0 0 0 0))
    else (if b == infinity F64 then tally 1 0 0 0 1 0 0
    else (if b == sign_bit F64 + infinity F64 then tally 1 0 0 0 0 1 0 else tally 1 0 0 1 0 0 0)))
by_tests b s t e = rw e refl

pub own_row : (b : ℕ) → row_of b ≡ row_in F64 b
own_row b = by_tests b (size F64 b) (common_size F64 b) (sym (own_size b))

-- sizes are those of magnitudes
size_of_magnitude : (f : FloatFormat) (a : ℕ) → common_size f a ≡ common_size f (magnitude f a)
size_of_magnitude f a = ap (λ z. z * unit_size f) (same_size f a (magnitude f a) (sym (positive_magnitude f (magnitude f a) (magnitude_below f a))))

no_size_no_magnitude : (f : FloatFormat) (m : ℕ) → m ≤ infinity f → common_size f m ≡ 0 → m ≡ 0
no_size_no_magnitude f m h e = elim (cases_eq m 0) [
  | inl z ↦ z
  | inr d ↦
      let more = (common_ascends f).up 0 m (omega arith) h in
      let none = common_of_zero f in
      absurd (omega (arith, e, none, more))
]

module _ (f : FloatFormat) (a b : ℕ) (p : IsPattern f a) (same : IsSameFloat f a F64 b) where
  finite_row : magnitude f a < infinity f → row_of b ≡ row_in f a
  finite_row h =
      let of = same.value.finite h in
      let finite = of.0 in
      let sized : common_size F64 b ≡ common_size f a = size_of_magnitude F64 b ∙ sym of.1 ∙ sym (size_of_magnitude f a) in
      elim (cases_lt a (sign_bit f)) [
        | inl plus ↦
            let positive : b < sign_bit F64 = elim (cases_lt b (sign_bit F64)) [ inl x ↦ x | inr y ↦ let minus = same.sign.1 y in absurd (omega arith) ] in
            own_row b ∙ plus_in F64 b finite positive ∙ ap (λ s. tally 1 s 0 0 0 0 0) sized ∙ sym (plus_in f a h plus)
        | inr minus ↦
            let negative : sign_bit F64 ≤ b = same.sign.0 minus in
            let own = negative_magnitude f a p minus in
            let other = negative_magnitude F64 b same.pattern negative in
            elim (cases_eq a (sign_bit f)) [
              | inl zero_is ↦
                  let none : magnitude f a ≡ 0 = omega (arith, own, zero_is) in
                  let empty : common_size F64 (magnitude F64 b) ≡ 0 = sym of.1 ∙ ap (common_size f) none ∙ common_of_zero f in
                  let gone = no_size_no_magnitude F64 (magnitude F64 b) (omega arith) empty in
                  let is : b ≡ sign_bit F64 = omega (arith, other, gone, negative) in
                  ap row_of is ∙ sym (ap (row_in f) zero_is ∙ minus_zero_in f)
              | inr some ↦
                  let not_zero : b ≢ sign_bit F64 = λ e.
                  let gone : magnitude F64 b ≡ 0 = omega (arith, other, e) in
                  let empty : common_size f (magnitude f a) ≡ 0 = of.1 ∙ ap (common_size F64) gone ∙ common_of_zero F64 in
                  let none = no_size_no_magnitude f (magnitude f a) (omega arith) empty in
                  some (omega (arith, own, none, minus)) in
                  own_row b ∙ minus_in F64 b finite negative not_zero ∙ ap (λ s. tally 1 0 s 0 0 0 0) sized ∙ sym (minus_in f a h minus some)
            ]
      ]

  infinite_row : magnitude f a ≡ infinity f → row_of b ≡ row_in f a
  infinite_row e =
      let infinite = same.value.infinite e in
      elim (cases_lt a (sign_bit f)) [
        | inl plus ↦
            let positive : b < sign_bit F64 = elim (cases_lt b (sign_bit F64)) [ inl x ↦ x | inr y ↦ let minus = same.sign.1 y in absurd (omega arith) ] in
            let is : b ≡ infinity F64 = sym (positive_magnitude F64 b positive) ∙ infinite in
            let own : a ≡ infinity f = sym (positive_magnitude f a plus) ∙ e in
            ap row_of is ∙ sym (ap (row_in f) own ∙ infinity_in f)
        | inr minus ↦
            let negative : sign_bit F64 ≤ b = same.sign.0 minus in
            let is : b ≡ sign_bit F64 + infinity F64 = let m = negative_magnitude F64 b same.pattern negative in omega (arith, m, infinite, negative) in
            let own : a ≡ sign_bit f + infinity f = let m = negative_magnitude f a p minus in omega (arith, m, e, minus) in
            ap row_of is ∙ sym (ap (row_in f) own ∙ minus_infinity_in f)
      ]

  nan_is_row : infinity f < magnitude f a → row_of b ≡ row_in f a
  nan_is_row h =
      let past = (same.value.nan h).0 in
      let own = fields_of f in
      own_row b ∙ nan_in F64 b (omega arith) (λ e. let m = ap (magnitude F64) e in omega (arith, past, m)) (λ e. let m = ap (magnitude F64) e in omega (arith, past, m))
      ∙ sym (nan_in f a (omega arith)
      (λ e. let m = ap (magnitude f) e ∙ own_magnitude f (infinity f) (le_refl _) in omega (arith, h, m))
      (λ e. let m = ap (magnitude f) e ∙ minus_magnitude f (infinity f) own.infinity_few in omega (arith, h, m)))

  -- the same float is the same row
  pub same_row : row_of b ≡ row_in f a
  same_row = elim (cases_order (magnitude f a) (infinity f)) [
    | inl e ↦ infinite_row e
    | inr (inl h) ↦ finite_row h
    | inr (inr h) ↦ nan_is_row h
  ]

-- rows of 64 bits
pub tally_of_doubles : (keys : List (Option ℤ)) → tally_of_keys F64 keys ≡ tally_of (doubles_of keys)
tally_of_doubles [] = refl
tally_of_doubles (None ∷ keys) = tally_of_doubles keys
tally_of_doubles (Some key ∷ keys) =
    ap (joined (row_in F64 (bits_of_key F64 key))) (tally_of_doubles keys) ∙ ap (λ (r : Tally). joined r (tally_of (doubles_of keys))) (sym (own_row (bits_of_key F64 key)))

pub format_of_doubles : (t : DType) → is_doubles t ≡ true → format_of t ≡ F64
format_of_doubles (column.Primitive I64 n) e = refl
format_of_doubles (column.Primitive U64 n) e = refl
format_of_doubles (column.Primitive U8 n) e = refl
format_of_doubles (column.Primitive I8 n) e = refl
format_of_doubles (column.Primitive U16 n) e = absurd (cc)
format_of_doubles (column.Primitive I16 n) e = absurd (cc)
format_of_doubles (column.Primitive U32 n) e = absurd (cc)
format_of_doubles (column.Primitive I32 n) e = absurd (cc)
format_of_doubles (column.Bool n) e = refl
format_of_doubles (column.Decimal d n) e = refl
format_of_doubles (column.Utf8 n) e = refl
format_of_doubles (column.Binary n) e = refl
format_of_doubles (column.List d n) e = refl
