-- The same time in another unit: at most one number counts it.
use Rattle.std.proofs.Common.{◌≡◌, ◌≢◌, ◌∙◌, ◌*◌, ◌+◌, ◌<◌, ◌≤◌, ◌^◌, ℕ, ℤ, pos, negsuc, Option, None, Some, ap, ap₂, sym, subst, lit<, FitsSigned, of_z, to_z, to_z-of_z, w64, arith}
use Rattle.std.specs.Int.{w128}
use Rattle.std.specs.Prelude.{◌*ℤ◌, MatchOption, SomeIff, unsigned_abs}
use Rattle.std.proofs.lemmas.Int.{fits_signed_mul, ints}
use Rattle.std.proofs.lemmas.Nat.{same_from_place}
use borrow.Author.Differences.{product_is, up, down}
use Rattle.column_base.specs.Types.{HasNumber}
use Rattle.logical_types.specs.declared.types.TimeUnit.{TimeUnit}
use Rattle.logical_types.specs.declared.types.TimeUnit.TheVariants.{Second, Millisecond, Microsecond, Nanosecond}
use Rattle.logical_types.specs.declared.types.DateUnit.TheVariants as dates
use Rattle.logical_types.specs.declared.types.LogicalType.{LogicalType}
use Rattle.logical_types.specs.declared.types.LogicalType.TheVariants.{Integer, Float, Date, TimeOfDay, Timestamp, Duration, Decimal}
use Rattle.logical_types.specs.declared.units.TimeKind.{TimeKind}
use Rattle.logical_types.specs.Units.{IsSameTime, counted_type, kind_of, nanoseconds, unit_nanoseconds}

same_number : (a b : ℤ) → up a ≡ up b → down a ≡ down b → a ≡ b
same_number (pos m) (pos n) e f = ap pos e
same_number (pos m) (negsuc n) e f = absurd (omega arith)
same_number (negsuc m) (pos n) e f = absurd (omega arith)
same_number (negsuc m) (negsuc n) e f = let same : m ≡ n = omega arith in ap negsuc same

cancelled : (a b : ℕ) (n : ℕ) → 0 < n → a * n ≡ b * n → a ≡ b
cancelled a b n some same =
    let padded : a * n + 0 ≡ b * n + 0 = omega arith in (same_from_place a 0 b 0 n some some padded).0

pub same_factor : (a b : ℤ) (n : ℕ) → 0 < n → a *ℤ pos n ≡ b *ℤ pos n → a ≡ b
same_factor a b n some same =
    let left = product_is a (pos n) in
    let right = product_is b (pos n) in
    let ups : up a * n ≡ up b * n = let e = ap up same in omega (arith, left, right, e) in
    let downs : down a * n ≡ down b * n = let e = ap down same in omega (arith, left, right, e) in
    same_number a b (cancelled (up a) (up b) n some ups) (cancelled (down a) (down b) n some downs)

unit_some : (u : TimeUnit) → 0 < unit_nanoseconds u
unit_some Second = omega arith
unit_some Millisecond = omega arith
unit_some Microsecond = omega arith
unit_some Nanosecond = omega arith

pub some_time : (t : LogicalType) → 0 < nanoseconds t
some_time (Integer t) = omega arith
some_time (Float t) = omega arith
some_time (Date dates.Day) = omega arith
some_time (Date dates.Millisecond) = omega arith
some_time (TimeOfDay u) = unit_some u
some_time (Timestamp u) = unit_some u
some_time (Duration u) = unit_some u
some_time (Decimal d w) = omega arith

-- ---- Numbers of 64 and 128 bits, as the code has them

abbrev narrow : ℤ → ℤ
narrow z = to_z w64 (of_z w64 z)

abbrev wide : ℤ → ℤ
wide z = to_z w128 (of_z w128 z)

size_of_narrow : (z : ℤ) → FitsSigned w64 z → unsigned_abs z ≤ 2 ^ 63
size_of_narrow (pos n) fits = omega (arith, ints)
size_of_narrow (negsuc n) fits = omega (arith, ints)

widened : (z : ℤ) → FitsSigned w64 z → FitsSigned w128 z
widened (pos n) fits = omega (arith, ints)
widened (negsuc n) fits = omega (arith, ints)

product_fits : (a b : ℤ) → FitsSigned w64 a → FitsSigned w64 b → FitsSigned w128 (a *ℤ b)
product_fits a b p q = fits_signed_mul w128 a b (2 ^ 63) (2 ^ 63) (size_of_narrow a p) (size_of_narrow b q) (lit< tt)

same_answers : (result : Option ℤ) (p q d e : ℤ) → p ≡ q → d ≡ e → MatchOption result ((a : ℤ) → a *ℤ d ≢ p) (λ a. a *ℤ d ≡ p) → MatchOption result ((a : ℤ) → a *ℤ e ≢ q) (λ a. a *ℤ e ≡ q)
same_answers result p q d e same others h =
    let P : ℤ → Type 0 = λ n. MatchOption result ((a : ℤ) → a *ℤ d ≢ n) (λ a. a *ℤ d ≡ n) in
    let Q : ℤ → Type 0 = λ n. MatchOption result ((a : ℤ) → a *ℤ n ≢ q) (λ a. a *ℤ n ≡ q) in
    subst Q others (subst P same h)

module _ (value from to : ℤ) (value_fits : FitsSigned w64 value) (from_fits : FitsSigned w64 from) (to_fits : FitsSigned w64 to) (value_wide from_wide to_wide : ℤ) (value_is : value_wide ≡ narrow value) (from_is : from_wide ≡ narrow from) (to_is : to_wide ≡ narrow to) where
  value_same : wide value_wide ≡ value
  value_same = ap wide (value_is ∙ to_z-of_z value_fits) ∙ to_z-of_z (widened value value_fits)

  from_same : wide from_wide ≡ from
  from_same = ap wide (from_is ∙ to_z-of_z from_fits) ∙ to_z-of_z (widened from from_fits)

  to_same : wide to_wide ≡ to
  to_same = ap wide (to_is ∙ to_z-of_z to_fits) ∙ to_z-of_z (widened to to_fits)

  product_same : wide (wide value_wide *ℤ wide from_wide) ≡ value *ℤ from
  product_same = ap wide (ap₂ (λ a b. a *ℤ b) value_same from_same) ∙ to_z-of_z (product_fits value from value_fits from_fits)

  pub in_64_bits : (result : Option ℤ) → MatchOption result ((a : ℤ) → a *ℤ wide to_wide ≢ wide (wide value_wide *ℤ wide from_wide)) (λ a. a *ℤ wide to_wide ≡ wide (wide value_wide *ℤ wide from_wide)) → MatchOption result ((a : ℤ) → a *ℤ to ≢ value *ℤ from) (λ a. a *ℤ to ≡ value *ℤ from)
  in_64_bits result h = same_answers result _ _ _ _ product_same to_same h

-- ---- Ticks

unit_fits : (u : TimeUnit) → FitsSigned w64 (pos (unit_nanoseconds u))
unit_fits Second = omega (arith, ints)
unit_fits Millisecond = omega (arith, ints)
unit_fits Microsecond = omega (arith, ints)
unit_fits Nanosecond = omega (arith, ints)

tick_fits : (t : LogicalType) → FitsSigned w64 (pos (nanoseconds t))
tick_fits (Integer t) = omega (arith, ints)
tick_fits (Float t) = omega (arith, ints)
tick_fits (Date dates.Day) = omega (arith, ints)
tick_fits (Date dates.Millisecond) = omega (arith, ints)
tick_fits (TimeOfDay u) = unit_fits u
tick_fits (Timestamp u) = unit_fits u
tick_fits (Duration u) = unit_fits u
tick_fits (Decimal d w) = omega (arith, ints)

module _ (from to : LogicalType) (value unit other_unit : ℤ) (value_fits : FitsSigned w64 value) (first_unit : unit ≡ pos (nanoseconds from)) (second_unit : other_unit ≡ pos (nanoseconds to)) where
  unit_is : narrow unit ≡ pos (nanoseconds from)
  unit_is = ap narrow first_unit ∙ to_z-of_z (tick_fits from)

  other_is : narrow other_unit ≡ pos (nanoseconds to)
  other_is = ap narrow second_unit ∙ to_z-of_z (tick_fits to)

  time_is : narrow value *ℤ narrow unit ≡ value *ℤ pos (nanoseconds from)
  time_is = ap₂ (λ a b. a *ℤ b) (to_z-of_z value_fits) unit_is

  pub uncounted : (result : Option ℤ) → result ≡ None → ((answer : ℤ) → answer *ℤ narrow other_unit ≢ narrow value *ℤ narrow unit) → MatchOption result ((answer : ℤ) → IsSameTime from to value answer → ⊥) (λ answer. IsSameTime from to value answer)
  uncounted result none unmade = rw none (λ answer s. unmade answer (ap (λ n. answer *ℤ n) other_is ∙ s.time ∙ sym time_is))

  module _ (kind : TimeKind) (first : kind_of from ≡ Some kind) (second : kind_of to ≡ Some kind) (answer : ℤ) (made : answer *ℤ narrow other_unit ≡ narrow value *ℤ narrow unit) where
    time : answer *ℤ pos (nanoseconds to) ≡ value *ℤ pos (nanoseconds from)
    time = ap (λ n. answer *ℤ n) (sym other_is) ∙ made ∙ time_is

    fitting : (result : Option ℤ) → SomeIff result (HasNumber (counted_type to) answer) answer → MatchOption result ((other : ℤ) → IsSameTime from to value other → ⊥) (λ other. IsSameTime from to value other)
    fitting None unfit = λ other s.
        let same : other ≡ answer = same_factor other answer (nanoseconds to) (some_time to) (s.time ∙ sym time) in
        let P : ℤ → Type 0 = λ n. HasNumber (counted_type to) n in
        unfit (subst P same s.fits)
    fitting (Some n) (fits, same) =
        let P : ℤ → Type 0 = λ m. IsSameTime from to value m in
        subst P (sym same) (record { kind = kind; from_kind = first; to_kind = second; time = time; fits = fits })

    pub counted : (result : Option ℤ) → FitsSigned w128 answer → SomeIff result (HasNumber (counted_type to) (wide answer)) (wide answer) → MatchOption result ((other : ℤ) → IsSameTime from to value other → ⊥) (λ other. IsSameTime from to value other)
    counted result fits h =
        let P : ℤ → Type 0 = λ n. SomeIff result (HasNumber (counted_type to) n) n in
        fitting result (subst P (to_z-of_z fits) h)
