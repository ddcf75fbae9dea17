-- Each float and each integer has a nearest float, so that casts which round are never refused for a number.
use Rattle.std.proofs.Common.{◌≡◌, ℕ, zero, suc, ℤ, pos, negsuc, ◌+◌, ◌*◌, ◌/◌, ◌%◌, ◌<◌, ◌≤◌, inl, inr, List, Option, refl, sym, subst, arith}
use Rattle.std.specs.Prelude.{IfErr, IsOkUnless, Result, Ok, Err}
use Rattle.std.proofs.lemmas.Bool.{cases_eq, cases_lt, cases_order}
use Rattle.std.proofs.lemmas.Int.{ints}
use Rattle.column_base.specs.declared.error.VortexError.{VortexError}
use Rattle.column_base.specs.declared.error.VortexError.TheVariants.{OutOfMemory}
use Rattle.float_bits.specs.declared.formats.FloatFormat.{FloatFormat}
use Rattle.float_bits.specs.declared.formats.FloatFormat.TheVariants.{F16, F32, F64}
use Rattle.float_bits.specs.Casts.{IsNearestToInteger, IsRoundedFloat, IsRoundedMagnitude, IsSameMagnitude}
use Rattle.float_bits.specs.CommonSizes.{common_size, one_size}
use Rattle.float_bits.specs.Format.{exponent_unit, fraction, infinity, magnitude, quiet_nan, sign_bit}
use Rattle.float_bits.specs.Nearest.{IsNearestIn, IsNearestOf}
use Rattle.float_bits.proofs.FormatSizes.{common_ascends, common_of_zero, fields_of}
use Rattle.float_bits.proofs.Magnitudes.{positive_magnitude}
use Rattle.float_bits.proofs.Neighbours.{Ascends, IsBetween, nearest_even, nearest_infinity, nearest_lower, nearest_upper}
use Rattle.float_bits.proofs.SameValues.{minus_magnitude}
use Rattle.column_floats.specs.Casts.{Becomes, IsCastRefusal, IsKeyNearInteger, IsRoundedKey}
use Rattle.column_floats.specs.FloatRows.{bits_of_key}
use Rattle.column_floats.specs.Formats.{keys_of_format}
use Rattle.column_floats.proofs.CastKeys.{key_near_integer, pattern_key}
use Rattle.column_floats.proofs.KeyBounds.{bits_of_total_key}
use Rattle.float_bits.specs.TotalOrder.{total_key}

-- the last pattern before k whose size is at most n
below : (s : ℕ → ℕ) (last n k : ℕ) → s 0 ≤ n → n < s k → k ≤ last → (b : ℕ) × IsBetween s last n b
below s last n zero low high within = absurd (omega arith)
below s last n (suc k) low high within = elim (cases_lt n (s k)) [
  | inl h ↦ below s last n k low h (omega arith)
  | inr h ↦
      let next : suc k ≡ k + 1 = omega arith in
      (k, record { finite = omega arith; low = omega arith; high = subst (λ z. n < s z) next high })
]

-- some pattern is nearest
nearest_exists : (s : ℕ → ℕ) (last : ℕ) (up : Ascends s last) (n : ℕ) → s 0 ≤ n → (b : ℕ) × IsNearestOf s last n b
nearest_exists s last up n low = elim (cases_lt n (s last)) [
  | inr h ↦ (last, nearest_infinity s last up n (omega arith))
  | inl h ↦
      let found = below s last n last low h (omega arith) in
      let b = found.0 in
      elim (cases_order (2 * n) (s b + s (b + 1))) [
        | inl e ↦ (b + b % 2, nearest_even s last up n b found.1 e)
        | inr (inl l) ↦ (b, nearest_lower s last up n b found.1 l)
        | inr (inr m) ↦ (b + 1, nearest_upper s last up n b found.1 m)
      ]
]

nearest_in : (g : FloatFormat) (n : ℕ) → (b : ℕ) × IsNearestIn g n b
nearest_in g n = nearest_exists (common_size g) (infinity g) (common_ascends g) n (subst (λ z. z ≤ n) (sym (common_of_zero g)) (omega arith))

-- a NaN whose fraction the other format has
record IsKeptNan (f : FloatFormat) (m : ℕ) (g : FloatFormat) (n : ℕ) : Type 0 where
  low : n < sign_bit g
  past : infinity g < n
  same : fraction f m * exponent_unit g ≡ fraction g n * exponent_unit f

nan_at : (f g : FloatFormat) (m : ℕ) → infinity f < m → m < sign_bit f → fraction f m * exponent_unit g % exponent_unit f ≡ 0 → IsKeptNan f m g (infinity g + fraction f m * exponent_unit g / exponent_unit f)
nan_at F16 F16 m p q h = record { low = omega arith; past = omega arith; same = omega arith }
nan_at F16 F32 m p q h = record { low = omega arith; past = omega arith; same = omega arith }
nan_at F16 F64 m p q h = record { low = omega arith; past = omega arith; same = omega arith }
nan_at F32 F16 m p q h = record { low = omega arith; past = omega arith; same = omega arith }
nan_at F32 F32 m p q h = record { low = omega arith; past = omega arith; same = omega arith }
nan_at F32 F64 m p q h = record { low = omega arith; past = omega arith; same = omega arith }
nan_at F64 F16 m p q h = record { low = omega arith; past = omega arith; same = omega arith }
nan_at F64 F32 m p q h = record { low = omega arith; past = omega arith; same = omega arith }
nan_at F64 F64 m p q h = record { low = omega arith; past = omega arith; same = omega arith }

pub nan_kept : (f g : FloatFormat) (m : ℕ) → infinity f < m → m < sign_bit f → fraction f m * exponent_unit g % exponent_unit f ≡ 0 → IsSameMagnitude f m g (infinity g + fraction f m * exponent_unit g / exponent_unit f)
nan_kept f g m p q h =
    let kept = nan_at f g m p q h in
    record { pattern = kept.low; finite = λ l. absurd (omega arith); infinite = λ e. absurd (omega arith); nan = λ l. (kept.past, kept.same) }

no_rest : (f : FloatFormat) (x y : ℕ) → x ≡ y * exponent_unit f → x % exponent_unit f ≡ 0
no_rest F16 x y e = omega arith
no_rest F32 x y e = omega arith
no_rest F64 x y e = omega arith

quiet_fits : (g : FloatFormat) → quiet_nan g < sign_bit g
quiet_fits F16 = omega arith
quiet_fits F32 = omega arith
quiet_fits F64 = omega arith

rounded_nan : (f g : FloatFormat) (m : ℕ) → infinity f < m → m < sign_bit f → (n : ℕ) × IsRoundedMagnitude f m g n
rounded_nan f g m p q = elim (cases_eq (fraction f m * exponent_unit g % exponent_unit f) 0) [
  | inl e ↦
      let same = nan_kept f g m p q e in
      (infinity g + fraction f m * exponent_unit g / exponent_unit f, record { pattern = same.pattern; finite = λ l. absurd (omega arith); infinite = λ i. absurd (omega arith); nan = λ l. inl same })
  | inr d ↦ (
    quiet_nan g,
    record {
      pattern = quiet_fits g;
      finite = λ l. absurd (omega arith);
      infinite = λ i. absurd (omega arith);
      nan = λ l. inr (refl, λ other same. d (no_rest f (fraction f m * exponent_unit g) (fraction g other) (same.nan p).1));
    },
  )
]

-- some magnitude is another one rounded
rounded_magnitude : (f g : FloatFormat) (m : ℕ) → m < sign_bit f → (n : ℕ) × IsRoundedMagnitude f m g n
rounded_magnitude f g m q =
    let own = fields_of g in
    let few = own.infinity_few in
    elim (cases_order m (infinity f)) [
      | inl e ↦ (infinity g, record { pattern = few; finite = λ l. absurd (omega arith); infinite = λ i. refl; nan = λ l. absurd (omega arith) })
      | inr (inl h) ↦
          let found = nearest_in g (common_size f m) in
          let within = found.1.pattern in
          (found.0, record { pattern = omega arith; finite = λ l. found.1; infinite = λ i. absurd (omega arith); nan = λ l. absurd (omega arith) })
      | inr (inr h) ↦ rounded_nan f g m h q
    ]

pub magnitude_below : (f : FloatFormat) (b : ℕ) → magnitude f b < sign_bit f
magnitude_below F16 b = omega arith
magnitude_below F32 b = omega arith
magnitude_below F64 b = omega arith

rounded_float : (f g : FloatFormat) (a : ℕ) → (b : ℕ) × IsRoundedFloat f a g b
rounded_float f g a =
    let found = rounded_magnitude f g (magnitude f a) (magnitude_below f a) in
    let n = found.0 in
    let low = found.1.pattern in
    elim (cases_lt a (sign_bit f)) [
      | inl plus ↦ (
        n,
        record {
          pattern = omega arith;
          sign = ((λ l. absurd (omega arith)), (λ l. absurd (omega arith)));
          value = subst (λ x. IsRoundedMagnitude f (magnitude f a) g x) (sym (positive_magnitude g n low)) found.1;
        },
      )
      | inr minus ↦ (
        sign_bit g + n,
        record {
          pattern = omega arith;
          sign = ((λ l. omega arith), (λ l. omega arith));
          value = subst (λ x. IsRoundedMagnitude f (magnitude f a) g x) (sym (minus_magnitude g n low)) found.1;
        },
      )
    ]

-- so some key is that of the nearest float
pub rounded_exists : (f g : FloatFormat) (key : ℤ) → (m : ℤ) × Becomes (keys_of_format g) (IsRoundedKey f g) key m
rounded_exists f g key =
    let found = rounded_float f g (bits_of_key f key) in
    let b = found.0 in
    (total_key g b, (pattern_key g b found.1.pattern, subst (λ x. IsRoundedFloat f (bits_of_key f key) g x) (bits_of_total_key g b (total_key g b) refl) found.1))

-- and of each integer
near_integer : (g : FloatFormat) (z : ℤ) → (b : ℕ) × IsNearestToInteger g z b
near_integer g (pos k) =
    let found = nearest_in g (k * one_size) in
    let n = found.0 in
    let within = found.1.pattern in
    let own = fields_of g in
    let few = own.infinity_few in
    let low : n < sign_bit g = omega arith in (
      n,
      record {
        pattern = omega arith;
        sign = ((λ l. absurd (omega arith)), (λ l. absurd (omega (arith, ints))));
        nearest = subst (λ x. IsNearestIn g (k * one_size) x) (sym (positive_magnitude g n low)) found.1;
      },
    )
near_integer g (negsuc k) =
    let found = nearest_in g (suc k * one_size) in
    let n = found.0 in
    let within = found.1.pattern in
    let own = fields_of g in
    let few = own.infinity_few in
    let low : n < sign_bit g = omega arith in (
      sign_bit g + n,
      record {
        pattern = omega arith;
        sign = ((λ l. omega (arith, ints)), (λ l. omega arith));
        nearest = subst (λ x. IsNearestIn g (suc k * one_size) x) (sym (minus_magnitude g n low)) found.1;
      },
    )

pub near_exists : (g : FloatFormat) (z : ℤ) → (m : ℤ) × Becomes (keys_of_format g) (IsKeyNearInteger g) z m
near_exists g z = let found = near_integer g z in (total_key g found.0, key_near_integer g z found.0 found.1)

-- where each number becomes one, a cast is refused for memory only
pub never_refused : {T : Type 0} (R : ℤ → ℤ → Type 0) (xs : List (Option ℤ)) (result : Result T VortexError) → ((n : ℤ) → (m : ℤ) × R n m) → IfErr result (IsCastRefusal R xs) → IsOkUnless result OutOfMemory
never_refused R xs (Ok value) each h = tt
never_refused R xs (Err error) each (inl memory) = memory
never_refused R xs (Err error) each (inr h) = let made = each h.1.0 in absurd (h.1.2 made.0 made.1)
