-- Floats in order with a number that is a float or above it, and below all greater ones.
use Rattle.std.proofs.Common.{◌≡◌, ◌∙◌, ℕ, ◌+◌, ◌*◌, ◌<◌, ◌≤◌, ◌⊎◌, inl, inr, ℤ, ◌<ℤ◌, ◌≤ℤ◌, Bool, true, false, true≢false, Option, Some, None, refl, ap, sym, subst, arith, le-ltb}
use Rattle.std.specs.Cmp.{int_ranks}
use Rattle.std.specs.Ordering.{int_cmp, MatchOrdering}
use Rattle.std.specs.declared.cmp.Ordering.{Ordering}
use Rattle.std.specs.declared.cmp.Ordering.TheVariants.{Less, Equal, Greater}
use Rattle.std.proofs.lemmas.Bool.{cases_lt}
use Rattle.std.proofs.lemmas.Int.{ints}
use Rattle.float_bits.specs.CommonSizes.{unit_size}
use Rattle.float_bits.specs.Format.{infinity, sign_bit, IsPattern}
use Rattle.float_bits.specs.Number.{number, IsNan}
use Rattle.float_bits.specs.declared.formats.FloatFormat.{FloatFormat}
use Rattle.float_bits.specs.declared.formats.FloatFormat.TheVariants.{F64}
use Rattle.float_bits.proofs.FormatSizes.{fields_of, unit_pos}
use Rattle.float_bits.proofs.Magnitudes.{nan_or_not, negative_magnitude}
use Rattle.exact_numbers.specs.Exact.{exact_cmp, exact_float, exact_of, Exact, Fraction, Infinite, NotANumber}
use Rattle.exact_numbers.specs.FloatDecisions.{float_at, is_at_most, IsGreatestFloat}
use Rattle.exact_numbers.specs.declared.numbers.ExactNumber.{ExactNumber}
use Rattle.exact_numbers.specs.declared.numbers.ExactNumber.TheVariants.{Decimal, Double}
use Rattle.exact_numbers.proofs.Among.{one_some, unit_some}
use Rattle.exact_numbers.proofs.FloatLevels.{exact_of_nan, infinite_exact, level_of, top_of, top_some}
use Rattle.exact_numbers.proofs.FloatPlaces.{first_is, in_place_order, place_of, placed, IsPlaced}
use Rattle.exact_numbers.proofs.Levels.{above, below, exact_at, not_from_lowest, number_at, same, At, Highest, IsProper, Level, Lowest}

-- numbers of any type are counted in parts of something
proper_level : (unit : ℕ) (l : Level) → IsProper (exact_at unit l)
proper_level unit Lowest = tt
proper_level unit (At n) = one_some
proper_level unit Highest = tt

proper_float : (f : FloatFormat) (bits : ℕ) → IsProper (exact_float f bits)
proper_float f bits = elim (nan_or_not f bits) [
  | inl nan ↦ subst (λ (x : Exact). IsProper x) (sym (exact_of_nan f bits nan)) tt
  | inr known ↦ let l = level_of f bits known in subst (λ (x : Exact). IsProper x) (sym l.1.exact) (proper_level (unit_size f) l.0)
]

pub proper_number : (n : ExactNumber) → IsProper (exact_of n)
proper_number (Decimal digits scale) = unit_some
proper_number (Double bits) = proper_float F64 bits

-- nothing is in order with what is not a number
pub none_right : (y : Exact) → exact_cmp y NotANumber ≡ None
none_right NotANumber = refl
none_right (Infinite a) = refl
none_right (Fraction n d) = refl

pub some_number : (y x : Exact) → is_at_most (exact_cmp y x) ≡ true → ¬ (x ≡ NotANumber)
some_number y x is none = absurd (true≢false (sym is ∙ ap (λ (z : Exact). is_at_most (exact_cmp y z)) none ∙ ap (λ (o : Option Ordering). is_at_most o) (none_right y)))

-- a float below one that a number is at least is below the number
pub below_float : (f : FloatFormat) (row bits : ℕ) (x : Exact) → IsProper x → ¬ IsNan f row → ¬ IsNan f bits → number f row <ℤ number f bits → is_at_most (exact_cmp (exact_float f bits) x) ≡ true →
    exact_cmp (exact_float f row) x ≡ Some Less
below_float f row bits x proper left right h is =
    let l = level_of f row left in
    let m = level_of f bits right in
    let moved : is_at_most (exact_cmp (exact_at (unit_size f) m.0) x) ≡ true = subst (λ (y : Exact). is_at_most (exact_cmp y x) ≡ true) m.1.exact is in
    let less : number_at (top_of f) l.0 <ℤ number_at (top_of f) m.0 =
    subst (λ (n : ℤ). n <ℤ number_at (top_of f) m.0) l.1.number_is (subst (λ (n : ℤ). number f row <ℤ n) m.1.number_is h) in
    ap (λ (y : Exact). exact_cmp y x) l.1.exact ∙ below (top_of f) (unit_size f) l.0 m.0 x (unit_pos f) l.1.inside m.1.inside proper less moved

pub same_float : (f : FloatFormat) (row bits : ℕ) → ¬ IsNan f row → ¬ IsNan f bits → number f row ≡ number f bits → exact_float f row ≡ exact_float f bits
same_float f row bits left right h =
    let l = level_of f row left in
    let m = level_of f bits right in
    l.1.exact ∙ same (top_of f) (unit_size f) l.0 m.0 (top_some f) l.1.inside m.1.inside (sym l.1.number_is ∙ h ∙ m.1.number_is) ∙ sym m.1.exact

pub above_float : (f : FloatFormat) (row : ℕ) (x : Exact) → ¬ IsNan f row → ¬ (x ≡ NotANumber) → is_at_most (exact_cmp (exact_float f row) x) ≡ false → exact_cmp (exact_float f row) x ≡ Some Greater
above_float f row x known some is =
    let l = level_of f row known in
    ap (λ (y : Exact). exact_cmp y x) l.1.exact ∙ above (unit_size f) l.0 x some (subst (λ (y : Exact). is_at_most (exact_cmp y x) ≡ false) l.1.exact is)

-- so a float that is not above a number makes all before it so
pub at_most_before : (f : FloatFormat) (row bits : ℕ) (x : Exact) → IsProper x → ¬ IsNan f row → ¬ IsNan f bits → number f row ≤ℤ number f bits → is_at_most (exact_cmp (exact_float f bits) x) ≡ true →
    is_at_most (exact_cmp (exact_float f row) x) ≡ true
at_most_before f row bits x proper left right h is = by_rank (int_cmp (number f row) (number f bits)) (int_ranks (number f row) (number f bits)) where
  by_rank : (o : Ordering) → MatchOrdering o (number f row <ℤ number f bits) (number f row ≡ number f bits) (number f bits <ℤ number f row) → is_at_most (exact_cmp (exact_float f row) x) ≡ true
  by_rank Less less = ap (λ (o : Option Ordering). is_at_most o) (below_float f row bits x proper left right less is)
  by_rank Equal e = ap (λ (y : Exact). is_at_most (exact_cmp y x)) (same_float f row bits left right e) ∙ is
  by_rank Greater more = absurd (omega (arith, ints))

false_of_not_true : (b : Bool) → ¬ (b ≡ true) → b ≡ false
false_of_not_true true not = absurd (not refl)
false_of_not_true false not = refl

-- the last place at which floats are not above a number
pub greatest_float : (f : FloatFormat) (x : Exact) (low high : ℕ) → IsProper x → low < 2 * infinity f + 2 → high ≤ low + 1 → is_at_most (exact_cmp (exact_float f (float_at f low)) x) ≡ true →
    (2 * infinity f + 2 ≤ high) ⊎ ((high < 2 * infinity f + 2) × (is_at_most (exact_cmp (exact_float f (float_at f high)) x) ≡ false)) → IsGreatestFloat f x (float_at f low)
greatest_float f x low high proper most next is past =
    let here = placed f low most in
    record { pattern = here.pattern; known = here.known; at_most = is; above = λ other all known more. beyond other all known more past } where
      beyond : (other : ℕ) → IsPattern f other → ¬ IsNan f other → number f (float_at f low) <ℤ number f other →
          (2 * infinity f + 2 ≤ high) ⊎ ((high < 2 * infinity f + 2) × (is_at_most (exact_cmp (exact_float f (float_at f high)) x) ≡ false)) → is_at_most (exact_cmp (exact_float f other) x) ≡ false
      beyond other all known more past =
          let own = place_of f other all known in
          let there = subst (λ (b : ℕ). IsPlaced f own.place b) own.is (placed f own.place own.most) in
          let after : low < own.place = elim (cases_lt low own.place) [
            | inl ahead ↦ ahead
            | inr behind ↦ let order = in_place_order f own.place low other (float_at f low) there (placed f low most) behind in absurd (omega (arith, ints))
          ] in
          elim past [
            | inl none ↦ let bound = own.most in absurd (omega arith)
            | inr some ↦ false_of_not_true (is_at_most (exact_cmp (exact_float f other) x)) (λ most_too.
                let ahead = placed f high some.0 in
                let order = in_place_order f high own.place (float_at f high) other ahead there (omega arith) in
                true≢false (sym (at_most_before f (float_at f high) other x proper ahead.known known order most_too) ∙ some.1))
          ]

-- the first place is that of the negative infinity, which is not above any number
lowest_exact : (f : FloatFormat) → exact_float f (float_at f 0) ≡ Infinite false
lowest_exact f =
    let few = (fields_of f).infinity_few in
    let bits = sign_bit f + infinity f in
    let minus : sign_bit f ≤ bits = omega arith in
    let own = negative_magnitude f bits (omega arith) minus in
    ap (λ (b : ℕ). exact_float f b) (first_is f) ∙ infinite_exact f bits (omega arith) ∙ ap (λ (b : Bool). Infinite b) (le-ltb bits (sign_bit f) minus)

pub nowhere : (f : FloatFormat) (x : Exact) → is_at_most (exact_cmp (exact_float f (float_at f 0)) x) ≡ false → x ≡ NotANumber
nowhere f x is = not_from_lowest (unit_size f) x (subst (λ (y : Exact). is_at_most (exact_cmp y x) ≡ false) (lowest_exact f) is)
