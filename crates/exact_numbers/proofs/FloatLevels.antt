-- Floats other than NaNs as levels.
use Rattle.std.proofs.Common.{◌≡◌, ◌∙◌, ℕ, ◌<◌, inl, inr, ℤ, pos, Bool, true, false, nat_lt, refl, ap, sym, subst, arith, lt-ltb, le-ltb, eq-eqb, ne_eqb, eq-or-lt_of_le}
use Rattle.std.proofs.lemmas.Bool.{cases_lt}
use Rattle.std.proofs.lemmas.Int.{ints}
use Rattle.float_bits.specs.CommonSizes.{one_size, unit_size}
use Rattle.float_bits.specs.Format.{infinity, magnitude, sign_bit}
use Rattle.float_bits.specs.Number.{number, size, with_sign, IsNan}
use Rattle.float_bits.specs.declared.formats.FloatFormat.{FloatFormat}
use Rattle.float_bits.proofs.FormatSizes.{infinity_some, own_magnitude}
use Rattle.float_bits.proofs.Magnitudes.{nan_past_infinity, within_infinity}
use Rattle.float_bits.proofs.Sizes.{same_size, smaller_size}
use Rattle.exact_numbers.specs.Exact.{exact_float, Fraction, Infinite, NotANumber}
use Rattle.exact_numbers.proofs.Fractions.{signed_times}
use Rattle.exact_numbers.proofs.Levels.{exact_at, number_at, At, Highest, IsInside, Level, Lowest}

-- the number of the infinity
abbrev pub top_of : FloatFormat → ℕ
top_of f = size f (infinity f)

pub top_some : (f : FloatFormat) → 0 < top_of f
top_some f =
    let none = own_magnitude f 0 (omega arith) in
    let all = own_magnitude f (infinity f) (omega arith) in
    let some = infinity_some f in
    let less : magnitude f 0 < magnitude f (infinity f) = subst (λ (n : ℕ). n < magnitude f (infinity f)) (sym none) (subst (λ (n : ℕ). 0 < n) (sym all) some) in
    let more = smaller_size f 0 (infinity f) less in
    omega arith

-- the level of a float
pub record IsLevel (f : FloatFormat) (bits : ℕ) (l : Level) : Type 0 where
  pub exact : exact_float f bits ≡ exact_at (unit_size f) l
  pub number_is : number f bits ≡ number_at (top_of f) l
  pub inside : IsInside (top_of f) l

pub exact_of_nan : (f : FloatFormat) (bits : ℕ) → IsNan f bits → exact_float f bits ≡ NotANumber
exact_of_nan f bits nan = rw (lt-ltb (infinity f) (magnitude f bits) ((nan_past_infinity f bits).0 nan)) refl

signed_inside : (s : Bool) (n top : ℕ) → n < top → IsInside top (At (with_sign s n))
signed_inside true n top h = (omega (arith, ints), omega (arith, ints))
signed_inside false n top h = (omega (arith, ints), omega (arith, ints))

finite_level : (f : FloatFormat) (bits : ℕ) → magnitude f bits < infinity f → IsLevel f bits (At (number f bits))
finite_level f bits h =
    let s = nat_lt bits (sign_bit f) in
    let all = own_magnitude f (infinity f) (omega arith) in
    let small : size f bits < top_of f = smaller_size f bits (infinity f) (subst (λ (n : ℕ). magnitude f bits < n) (sym all) h) in
    record {
      exact = rw (le-ltb (infinity f) (magnitude f bits) (omega arith), ne_eqb (magnitude f bits) (infinity f) (λ e. omega arith))
          (ap (λ (z : ℤ). Fraction z one_size) (sym (signed_times s (size f bits) (unit_size f))));
      number_is = refl;
      inside = signed_inside s (size f bits) (top_of f) small;
    }

pub infinite_exact : (f : FloatFormat) (bits : ℕ) → magnitude f bits ≡ infinity f → exact_float f bits ≡ Infinite (nat_lt bits (sign_bit f))
infinite_exact f bits h = rw (le-ltb (infinity f) (magnitude f bits) (omega arith), eq-eqb (magnitude f bits) (infinity f) h) refl

infinite_size : (f : FloatFormat) (bits : ℕ) → magnitude f bits ≡ infinity f → size f bits ≡ top_of f
infinite_size f bits h = same_size f bits (infinity f) (h ∙ sym (own_magnitude f (infinity f) (omega arith)))

infinite_level : (f : FloatFormat) (bits : ℕ) → magnitude f bits ≡ infinity f → (l : Level) × IsLevel f bits l
infinite_level f bits h = elim (cases_lt bits (sign_bit f)) [
  | inl plus ↦
      let is = lt-ltb bits (sign_bit f) plus in (
        Highest,
        record {
          exact = infinite_exact f bits h ∙ ap (λ (b : Bool). Infinite b) is;
          number_is = ap (λ (b : Bool). with_sign b (size f bits)) is ∙ ap (λ (n : ℕ). pos n) (infinite_size f bits h);
          inside = tt;
        },
      )
  | inr minus ↦
      let is = le-ltb bits (sign_bit f) minus in (
        Lowest,
        record {
          exact = infinite_exact f bits h ∙ ap (λ (b : Bool). Infinite b) is;
          number_is = ap (λ (b : Bool). with_sign b (size f bits)) is ∙ ap (λ (n : ℕ). with_sign false n) (infinite_size f bits h);
          inside = tt;
        },
      )
]

pub level_of : (f : FloatFormat) (bits : ℕ) → ¬ IsNan f bits → (l : Level) × IsLevel f bits l
level_of f bits known = elim (eq-or-lt_of_le (within_infinity f bits known)) [
  | inl same ↦ infinite_level f bits same
  | inr less ↦ (At (number f bits), finite_level f bits less)
]
