-- Floats other than NaNs as levels: an infinity, or an integer of units, and how they are in order with numbers.
use Rattle.std.proofs.Common.{◌≡◌, ℕ, ◌<◌, ℤ, pos, neg_ℤ, ◌*ℤ◌, ◌<ℤ◌, ◌≤ℤ◌, true, false, Some, None, refl, ap, sym, arith, true≢false}
use Rattle.std.specs.Ordering.{int_cmp, MatchOrdering}
use Rattle.std.specs.declared.cmp.Ordering.{Ordering}
use Rattle.std.specs.declared.cmp.Ordering.TheVariants.{Less, Equal, Greater}
use Rattle.std.proofs.lemmas.Cmp.{int_ranked}
use Rattle.std.proofs.lemmas.Int.{ints}
use Rattle.float_bits.specs.CommonSizes.{one_size}
use Rattle.exact_numbers.specs.Exact.{exact_cmp, Exact, Fraction, Infinite, NotANumber}
use Rattle.exact_numbers.specs.FloatDecisions.{is_at_most}
use Rattle.exact_numbers.proofs.Products.{cmp_less, times_below}

pub data Level : Type 0 where
  Lowest : Level
  At : ℤ → Level
  Highest : Level

-- what it is, where the units are so long
abbrev pub exact_at : ℕ → Level → Exact
exact_at unit Lowest = Infinite false
exact_at unit (At n) = Fraction (n *ℤ pos unit) one_size
exact_at unit Highest = Infinite true

-- its number, where infinities have the first one past all others
abbrev pub number_at : ℕ → Level → ℤ
number_at top Lowest = neg_ℤ (pos top)
number_at top (At n) = n
number_at top Highest = pos top

abbrev pub IsInside : ℕ → Level → Type 0
IsInside top Lowest = Unit {0}
IsInside top (At n) = (neg_ℤ (pos top) <ℤ n) × (n <ℤ pos top)
IsInside top Highest = Unit {0}

-- a number that is counted in parts of something
abbrev pub IsProper : Exact → Type 0
IsProper NotANumber = Unit {0}
IsProper (Infinite a) = Unit {0}
IsProper (Fraction n d) = 0 < d

-- what an answer of `at most` says, and what it takes
at_most_by : (x y : ℤ) (o : Ordering) → MatchOrdering o (x <ℤ y) (x ≡ y) (y <ℤ x) → is_at_most (Some o) ≡ true → x ≤ℤ y
at_most_by x y Less h is = omega (arith, ints)
at_most_by x y Equal h is = omega (arith, ints)
at_most_by x y Greater h is = absurd (true≢false (sym is))

at_most_of : (x y : ℤ) → is_at_most (Some (int_cmp x y)) ≡ true → x ≤ℤ y
at_most_of x y is = at_most_by x y (int_cmp x y) (int_ranked x y (int_cmp x y) refl) is

never : {P : Type 0} → is_at_most (Some Greater) ≡ true → P
never is = absurd (true≢false (sym is))

none : {P : Type 0} → is_at_most None ≡ true → P
none is = absurd (true≢false (sym is))

-- what is below a level that a number is at least is below the number
pub below : (top unit : ℕ) (l m : Level) (x : Exact) → 0 < unit → IsInside top l → IsInside top m → IsProper x → number_at top l <ℤ number_at top m → is_at_most (exact_cmp (exact_at unit m) x) ≡ true →
    exact_cmp (exact_at unit l) x ≡ Some Less
below top unit Highest Lowest x some a b p h is = absurd (omega (arith, ints))
below top unit Highest (At n) x some a b p h is = let bound = b.1 in absurd (omega (arith, ints))
below top unit Highest Highest x some a b p h is = absurd (omega (arith, ints))
below top unit (At n) Lowest x some a b p h is = let bound = a.0 in absurd (omega (arith, ints))
below top unit Lowest Lowest x some a b p h is = absurd (omega (arith, ints))
below top unit Lowest (At n) NotANumber some a b p h is = none is
below top unit Lowest (At n) (Infinite true) some a b p h is = refl
below top unit Lowest (At n) (Infinite false) some a b p h is = never is
below top unit Lowest (At n) (Fraction k d) some a b p h is = refl
below top unit Lowest Highest NotANumber some a b p h is = none is
below top unit Lowest Highest (Infinite true) some a b p h is = refl
below top unit Lowest Highest (Infinite false) some a b p h is = never is
below top unit Lowest Highest (Fraction k d) some a b p h is = refl
below top unit (At n) (At m) NotANumber some a b p h is = none is
below top unit (At n) (At m) (Infinite true) some a b p h is = refl
below top unit (At n) (At m) (Infinite false) some a b p h is = never is
below top unit (At n) (At m) (Fraction k d) some a b p h is =
    let least = times_below (n *ℤ pos unit) (m *ℤ pos unit) d p (times_below n m unit some h) in
    let most = at_most_of ((m *ℤ pos unit) *ℤ pos d) (k *ℤ pos one_size) is in
    ap (λ (o : Ordering). Some o) (cmp_less ((n *ℤ pos unit) *ℤ pos d) (k *ℤ pos one_size) (omega (arith, ints, least, most)))
below top unit (At n) Highest NotANumber some a b p h is = none is
below top unit (At n) Highest (Infinite true) some a b p h is = refl
below top unit (At n) Highest (Infinite false) some a b p h is = never is
below top unit (At n) Highest (Fraction k d) some a b p h is = never is

-- levels with one number are one
pub same : (top unit : ℕ) (l m : Level) → 0 < top → IsInside top l → IsInside top m → number_at top l ≡ number_at top m → exact_at unit l ≡ exact_at unit m
same top unit Lowest Lowest some a b e = refl
same top unit Lowest (At m) some a b e = let bound = b.0 in absurd (omega (arith, ints))
same top unit Lowest Highest some a b e = absurd (omega (arith, ints))
same top unit (At n) Lowest some a b e = let bound = a.0 in absurd (omega (arith, ints))
same top unit (At n) (At m) some a b e = ap (λ (k : ℤ). Fraction (k *ℤ pos unit) one_size) e
same top unit (At n) Highest some a b e = let bound = a.1 in absurd (omega (arith, ints))
same top unit Highest Lowest some a b e = absurd (omega (arith, ints))
same top unit Highest (At m) some a b e = let bound = b.1 in absurd (omega (arith, ints))
same top unit Highest Highest some a b e = refl

-- where the lowest one is not at most a number, it is none
pub not_from_lowest : (unit : ℕ) (x : Exact) → is_at_most (exact_cmp (exact_at unit Lowest) x) ≡ false → x ≡ NotANumber
not_from_lowest unit NotANumber is = refl
not_from_lowest unit (Infinite true) is = absurd (true≢false is)
not_from_lowest unit (Infinite false) is = absurd (true≢false is)
not_from_lowest unit (Fraction n d) is = absurd (true≢false is)

-- a level is in no order with what is not a number only
pub above : (unit : ℕ) (l : Level) (x : Exact) → ¬ (x ≡ NotANumber) → is_at_most (exact_cmp (exact_at unit l) x) ≡ false → exact_cmp (exact_at unit l) x ≡ Some Greater
above unit l NotANumber some is = absurd (some refl)
above unit Lowest (Infinite true) some is = absurd (true≢false is)
above unit Lowest (Infinite false) some is = absurd (true≢false is)
above unit Lowest (Fraction n d) some is = absurd (true≢false is)
above unit (At k) (Infinite true) some is = absurd (true≢false is)
above unit (At k) (Infinite false) some is = refl
above unit (At k) (Fraction n d) some is = greater (int_cmp ((k *ℤ pos unit) *ℤ pos d) (n *ℤ pos one_size)) is where
  greater : (o : Ordering) → is_at_most (Some o) ≡ false → Some o ≡ Some Greater
  greater Less is = absurd (true≢false is)
  greater Equal is = absurd (true≢false is)
  greater Greater is = refl
above unit Highest (Infinite true) some is = absurd (true≢false is)
above unit Highest (Infinite false) some is = refl
above unit Highest (Fraction n d) some is = refl
