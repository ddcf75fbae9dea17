-- A size rounded by the digits that are kept of it, and by those that are cut off.
use Rattle.std.proofs.Common.{◌≡◌, ℕ, suc, ◌+◌, ◌-◌, ◌*◌, ◌/◌, ◌%◌, ◌^◌, ◌<◌, ◌≤◌, inl, inr, Bool, true, false, refl, arith, ap, ◌∙◌, sym, subst, mul-le-mul_left, mul-le-mul_right, pow_mono, pow_pos, le_trans, eqb-true, eq-eqb, eq-zero-or-pos, true≢false}
use Rattle.std.proofs.lemmas.Bool.{cases_lt}
use Rattle.std.proofs.lemmas.Nat.{leading_top, mod_below, pow-add, shr_split}
use lib.Count.{count_leading_zeros}
use lib.Dec.{eqb}
use Rattle.float_bits.specs.declared.formats.FloatFormat.{FloatFormat}
use Rattle.float_bits.specs.CommonSizes.{common_size, unit_doublings, unit_size}
use Rattle.float_bits.specs.Format.{exponent_unit, greatest_steps, infinity, precision}
use Rattle.float_bits.specs.Nearest.{IsNearestIn, IsExactly}
use Rattle.float_bits.proofs.Cuts.{halved}
use Rattle.float_bits.proofs.FormatSizes.{common_after_digits, common_ascends, common_of_digits, common_of_infinity, common_of_one, common_of_zero, fields_of, infinity_some, unit_is}
use Rattle.float_bits.proofs.Neighbours.{IsBetween, nearest_even, nearest_infinity, nearest_itself, nearest_lower, nearest_upper, no_finite_size, no_size}

-- the size n, of which 2 ^ 63 times is `kept` times 2 ^ 63 times u, and `lost` times w: u is what 1 in the kept digits
-- counts for, and w what 1 in the lost ones does, of which 2 * half are one of the others
pub record IsKept (f : FloatFormat) (n w u steps kept lost half : ℕ) : Type 0 where
  pub number : n * 2 ^ 63 ≡ 2 ^ 63 * (kept * u) + lost * w
  pub scale : 2 * (half * w) ≡ 2 ^ 63 * u
  pub lost_below : lost < 2 * half
  pub some : 0 < w
  pub low : common_size f (steps * exponent_unit f + kept) ≡ kept * u
  pub high : common_size f (steps * exponent_unit f + kept + 1) ≡ (kept + 1) * u
  pub finite : steps * exponent_unit f + kept < infinity f
  pub kept_few : kept < 2 ^ 53
  pub bits_few : steps * exponent_unit f + kept + 1 < 2 ^ 63

-- by numbers only
from_kept : (n w u kept lost : ℕ) → n * 2 ^ 63 ≡ 2 ^ 63 * (kept * u) + lost * w → kept * u ≤ n
from_kept n w u kept lost e = omega arith

before_next : (n w u kept lost half : ℕ) → n * 2 ^ 63 ≡ 2 ^ 63 * (kept * u) + lost * w → 2 * (half * w) ≡ 2 ^ 63 * u → lost < 2 * half → 0 < w → n < (kept + 1) * u
before_next n w u kept lost half e s h p =
    let most : (lost + 1) * w ≤ 2 * half * w = mul-le-mul_right w (omega arith) in
    omega arith

before_middle : (n w u kept lost half : ℕ) → n * 2 ^ 63 ≡ 2 ^ 63 * (kept * u) + lost * w → 2 * (half * w) ≡ 2 ^ 63 * u → lost < half → 0 < w → 2 * n < kept * u + (kept + 1) * u
before_middle n w u kept lost half e s h p =
    let most : (lost + 1) * w ≤ half * w = mul-le-mul_right w (omega arith) in
    omega arith

after_middle : (n w u kept lost half : ℕ) → n * 2 ^ 63 ≡ 2 ^ 63 * (kept * u) + lost * w → 2 * (half * w) ≡ 2 ^ 63 * u → half < lost → 0 < w → kept * u + (kept + 1) * u < 2 * n
after_middle n w u kept lost half e s h p =
    let least : (half + 1) * w ≤ lost * w = mul-le-mul_right w (omega arith) in
    omega arith

at_middle : (n w u kept lost half : ℕ) → n * 2 ^ 63 ≡ 2 ^ 63 * (kept * u) + lost * w → 2 * (half * w) ≡ 2 ^ 63 * u → lost ≡ half → 2 * n ≡ kept * u + (kept + 1) * u
at_middle n w u kept lost half e s h =
    let same : lost * w ≡ half * w = ap (λ z. z * w) h in
    omega arith

nothing_lost : (n w u kept lost : ℕ) → n * 2 ^ 63 ≡ 2 ^ 63 * (kept * u) + lost * w → lost ≡ 0 → kept * u ≡ n
nothing_lost n w u kept lost e h =
    let none : lost * w ≡ 0 * w = ap (λ z. z * w) h in
    omega arith

some_lost : (n w u kept lost : ℕ) → n * 2 ^ 63 ≡ 2 ^ 63 * (kept * u) + lost * w → 0 < lost → 0 < w → kept * u < n
some_lost n w u kept lost e h p =
    let least : 1 * w ≤ lost * w = mul-le-mul_right w h in
    omega arith

between : (f : FloatFormat) (n w u steps kept lost half : ℕ) → IsKept f n w u steps kept lost half → IsBetween (common_size f) (infinity f) n (steps * exponent_unit f + kept)
between f n w u steps kept lost half k = record {
  finite = k.finite;
  low = subst (λ x. x ≤ n) (sym k.low) (from_kept n w u kept lost k.number);
  high = subst (λ x. n < x) (sym k.high) (before_next n w u kept lost half k.number k.scale k.lost_below k.some);
}

pub cut_down : (f : FloatFormat) (n w u steps kept lost half : ℕ) → IsKept f n w u steps kept lost half → lost < half → IsNearestIn f n (steps * exponent_unit f + kept)
cut_down f n w u steps kept lost half k h =
    nearest_lower _ _ (common_ascends f) _ _ (between f n w u steps kept lost half k)
    (rw (k.low, k.high) (before_middle n w u kept lost half k.number k.scale h k.some))

pub cut_up : (f : FloatFormat) (n w u steps kept lost half : ℕ) → IsKept f n w u steps kept lost half → half < lost → IsNearestIn f n (steps * exponent_unit f + kept + 1)
cut_up f n w u steps kept lost half k h =
    nearest_upper _ _ (common_ascends f) _ _ (between f n w u steps kept lost half k)
    (rw (k.low, k.high) (after_middle n w u kept lost half k.number k.scale h k.some))

even_unit : (f : FloatFormat) → exponent_unit f % 2 ≡ 0
even_unit f = let w = fields_of f in w.unit_even

same_parity : (s e k : ℕ) → e % 2 ≡ 0 → (s * e + k) % 2 ≡ k % 2
same_parity s e k h =
    let parts : e ≡ 2 * (e / 2) = omega arith in
    let product : s * e ≡ s * (2 * (e / 2)) = ap (λ z. s * z) parts in
    omega arith

pub cut_even : (f : FloatFormat) (n w u steps kept lost half : ℕ) → IsKept f n w u steps kept lost half → lost ≡ half → IsNearestIn f n (steps * exponent_unit f + kept + kept % 2)
cut_even f n w u steps kept lost half k h =
    subst (λ x. IsNearestIn f n (steps * exponent_unit f + kept + x)) (same_parity steps (exponent_unit f) kept (even_unit f))
    (nearest_even _ _ (common_ascends f) _ _ (between f n w u steps kept lost half k) (rw (k.low, k.high) (at_middle n w u kept lost half k.number k.scale h)))

pub cut_exactly : (f : FloatFormat) (n w u steps kept lost half : ℕ) → IsKept f n w u steps kept lost half → lost ≡ 0 → IsExactly f n (steps * exponent_unit f + kept) true
cut_exactly f n w u steps kept lost half k h = (k.finite, k.low ∙ nothing_lost n w u kept lost k.number h)

pub cut_inexactly : (f : FloatFormat) (n w u steps kept lost half bits : ℕ) → IsKept f n w u steps kept lost half → 0 < lost → IsExactly f n bits false
cut_inexactly f n w u steps kept lost half bits k h = λ q l.
    no_size _ _ (common_ascends f) n (steps * exponent_unit f + kept) (between f n w u steps kept lost half k)
    (subst (λ x. x < n) (sym k.low) (some_lost n w u kept lost k.number h k.some)) q (omega arith)

turned : (a b : ℕ) → a * b * 2 ^ 63 ≡ 2 ^ 63 * (b * a)
turned a b = omega arith

doubled_product : (half s w : ℕ) → 2 * half ≡ s → 2 * (half * w) ≡ s * w
doubled_product half s w e = let product : 2 * half * w ≡ s * w = ap (λ z. z * w) e in omega arith

-- what 1 in the kept digits counts for
scaled_up : (f : FloatFormat) (doublings steps shift : ℕ) → shift + doublings ≡ steps + unit_doublings f + 63 → 2 ^ shift * 2 ^ doublings ≡ 2 ^ 63 * (unit_size f * 2 ^ steps)
scaled_up f doublings steps shift e =
    sym (pow-add 2 shift doublings) ∙ ap (λ z. 2 ^ z) e ∙ pow-add 2 (steps + unit_doublings f) 63
    ∙ ap (λ z. z * 2 ^ 63) (pow-add 2 steps (unit_doublings f) ∙ ap (λ z. 2 ^ steps * z) (sym (unit_is f)))
    ∙ turned (2 ^ steps) (unit_size f)

split_number : (digits w s u kept lost : ℕ) → kept * s + lost ≡ digits * 2 ^ 63 → s * w ≡ 2 ^ 63 * u → digits * w * 2 ^ 63 ≡ 2 ^ 63 * (kept * u) + lost * w
split_number digits w s u kept lost e g =
    let whole : (kept * s + lost) * w ≡ digits * 2 ^ 63 * w = ap (λ z. z * w) e in
    let product : kept * (s * w) ≡ kept * (2 ^ 63 * u) = ap (λ z. kept * z) g in
    omega arith

fewer : (kept unit u n : ℕ) → kept * u ≤ n → n < unit * u → kept < unit
fewer kept unit u n a b = elim (cases_lt kept unit) [
  | inl h ↦ h
  | inr h ↦ let most : unit * u ≤ kept * u = mul-le-mul_right u h in absurd (omega arith)
]

as_many : (kept unit u n : ℕ) → unit * u ≤ n → n < (kept + 1) * u → unit ≤ kept
as_many kept unit u n a b = elim (cases_lt kept unit) [
  | inr h ↦ h
  | inl h ↦ let most : (kept + 1) * u ≤ unit * u = mul-le-mul_right u (omega arith) in absurd (omega arith)
]

below_infinity : (f : FloatFormat) (steps kept : ℕ) → kept < 2 * exponent_unit f → steps ≤ greatest_steps f → steps * exponent_unit f + kept < infinity f
below_infinity f steps kept h m =
    let w = fields_of f in
    let most : steps * exponent_unit f ≤ greatest_steps f * exponent_unit f = mul-le-mul_right (exponent_unit f) m in
    let last = w.infinity_is in
    omega arith

pub kept_of : (f : FloatFormat) (digits doublings steps shift : ℕ) →
    digits * 2 ^ doublings < 2 * exponent_unit f * (unit_size f * 2 ^ steps) →
    (0 < steps → exponent_unit f * (unit_size f * 2 ^ steps) ≤ digits * 2 ^ doublings) →
    steps ≤ greatest_steps f → shift + doublings ≡ steps + unit_doublings f + 63 → 0 < shift →
    IsKept f (digits * 2 ^ doublings) (2 ^ doublings) (unit_size f * 2 ^ steps) steps (digits * 2 ^ 63 / 2 ^ shift) (digits * 2 ^ 63 % 2 ^ shift) (2 ^ shift / 2)
kept_of f digits doublings steps shift high low most e some =
    let w = fields_of f in
    let u = unit_size f * 2 ^ steps in
    let kept = digits * 2 ^ 63 / 2 ^ shift in
    let lost = digits * 2 ^ 63 % 2 ^ shift in
    let one = scaled_up f doublings steps shift e in
    let number = split_number digits (2 ^ doublings) (2 ^ shift) u kept lost (shr_split (digits * 2 ^ 63) shift) one in
    let both = halved shift some in
    let scale : 2 * (2 ^ shift / 2 * 2 ^ doublings) ≡ 2 ^ 63 * u = doubled_product (2 ^ shift / 2) (2 ^ shift) (2 ^ doublings) both ∙ one in
    let below : lost < 2 * (2 ^ shift / 2) = subst (λ x. lost < x) (sym both) (mod_below (digits * 2 ^ 63) (2 ^ shift) (pow_pos shift)) in
    let many : 0 < 2 ^ doublings = pow_pos doublings in
    let few : kept < 2 * exponent_unit f = fewer kept (2 * exponent_unit f) u _ (from_kept _ _ u kept lost number) high in
    let leading : 0 < steps → exponent_unit f ≤ kept = λ p. as_many kept (exponent_unit f) u _ (low p) (before_next _ _ u kept lost (2 ^ shift / 2) number scale below many) in
    record {
      number = number;
      scale = scale;
      lost_below = below;
      some = many;
      low = common_of_digits f steps kept leading few (omega arith);
      high = common_after_digits f steps kept leading few most;
      finite = below_infinity f steps kept few most;
      kept_few = let most_digits = w.unit_few in omega arith;
      bits_few = let last = below_infinity f steps kept few most in let plus = w.infinity_few in let sign = w.sign_few in omega arith;
    }

-- a size past the finite floats
past_infinity : (f : FloatFormat) (n steps : ℕ) → greatest_steps f < steps → exponent_unit f * (unit_size f * 2 ^ steps) ≤ n → common_size f (infinity f) ≤ n
past_infinity f n steps h l =
    let past : greatest_steps f + 1 ≤ steps = omega arith in
    let doubled : 2 ^ (greatest_steps f + 1) ≤ 2 ^ steps = pow_mono past in
    let of_unit : unit_size f * 2 ^ (greatest_steps f + 1) ≤ unit_size f * 2 ^ steps = mul-le-mul_left (unit_size f) doubled in
    let of_all : exponent_unit f * (unit_size f * 2 ^ (greatest_steps f + 1)) ≤ exponent_unit f * (unit_size f * 2 ^ steps) = mul-le-mul_left (exponent_unit f) of_unit in
    subst (λ x. x ≤ n) (sym (common_of_infinity f)) (le_trans of_all l)

pub cut_to_infinity : (f : FloatFormat) (n steps : ℕ) → greatest_steps f < steps → exponent_unit f * (unit_size f * 2 ^ steps) ≤ n → IsNearestIn f n (infinity f)
cut_to_infinity f n steps h l = nearest_infinity _ _ (common_ascends f) n (past_infinity f n steps h l)

pub infinity_inexactly : (f : FloatFormat) (n bits steps : ℕ) → greatest_steps f < steps → exponent_unit f * (unit_size f * 2 ^ steps) ≤ n → IsExactly f n bits false
infinity_inexactly f n bits steps h l = λ q m. no_finite_size _ _ (common_ascends f) n (past_infinity f n steps h l) q m

-- a size of less than half of the smallest number
pub record IsTiny (f : FloatFormat) (n : ℕ) : Type 0 where
  pub some : 0 < n
  pub few : 2 * n < unit_size f

tiny_number : (digits w u s : ℕ) → digits < 2 ^ 64 → s * w ≡ 2 ^ 63 * u → 2 ^ 128 ≤ s → 0 < w → 2 * (digits * w) < u
tiny_number digits w u s h e m p =
    let least : 2 ^ 128 * w ≤ s * w = mul-le-mul_right w m in
    let most : (digits + 1) * w ≤ 2 ^ 64 * w = mul-le-mul_right w (omega arith) in
    omega arith

pub tiny_of : (f : FloatFormat) (digits doublings steps shift : ℕ) → 0 < digits → digits < 2 ^ 64 →
    (0 < steps → exponent_unit f * (unit_size f * 2 ^ steps) ≤ digits * 2 ^ doublings) →
    shift + doublings ≡ steps + unit_doublings f + 63 → 127 < shift → IsTiny f (digits * 2 ^ doublings)
tiny_of f digits doublings steps shift p few low e h =
    let w = fields_of f in
    let many : 0 < 2 ^ doublings = pow_pos doublings in
    let past : 128 ≤ shift = omega arith in
    let large : 2 ^ 128 ≤ 2 ^ shift = pow_mono past in
    let small : 2 * (digits * 2 ^ doublings) < unit_size f * 2 ^ steps = tiny_number digits (2 ^ doublings) (unit_size f * 2 ^ steps) (2 ^ shift) few (scaled_up f doublings steps shift e) large many in
    let none : steps ≡ 0 = elim (cases_lt 0 steps) [
      | inr z ↦ omega arith
      | inl q ↦
          let least = low q in
          let unit : 1 * (unit_size f * 2 ^ steps) ≤ exponent_unit f * (unit_size f * 2 ^ steps) = mul-le-mul_right (unit_size f * 2 ^ steps) w.unit_some in
          absurd (omega arith)
    ] in
    let one : unit_size f * 2 ^ steps ≡ unit_size f * 1 = ap (λ z. unit_size f * 2 ^ z) none in
    let at_least_one : 1 * 2 ^ doublings ≤ digits * 2 ^ doublings = mul-le-mul_right (2 ^ doublings) p in
    record { some = omega arith; few = omega arith }

between_tiny : (f : FloatFormat) (n : ℕ) → IsTiny f n → IsBetween (common_size f) (infinity f) n 0
between_tiny f n t =
    let w = fields_of f in
    let zero_is = common_of_zero f in
    let one_is = common_of_one f in
    let few = t.few in
    record { finite = infinity_some f; low = omega arith; high = subst (λ x. n < x) (sym one_is) (omega arith) }

pub cut_to_zero : (f : FloatFormat) (n : ℕ) → IsTiny f n → IsNearestIn f n 0
cut_to_zero f n t =
    let few = t.few in
    nearest_lower _ _ (common_ascends f) n 0 (between_tiny f n t) (rw (common_of_zero f, common_of_one f) (omega arith))

pub zero_inexactly : (f : FloatFormat) (n bits : ℕ) → IsTiny f n → IsExactly f n bits false
zero_inexactly f n bits t = λ q m.
    let some = t.some in
    no_size _ _ (common_ascends f) n 0 (between_tiny f n t) (subst (λ x. x < n) (sym (common_of_zero f)) some) q (omega arith)

pub zero_exactly : (f : FloatFormat) (n : ℕ) → n ≡ 0 → IsExactly f n 0 true
zero_exactly f n e = (infinity_some f, common_of_zero f ∙ sym e)

pub nearest_zero : (f : FloatFormat) (n : ℕ) → n ≡ 0 → IsNearestIn f n 0
nearest_zero f n e = subst (λ x. IsNearestIn f x 0) (common_of_zero f ∙ sym e) (nearest_itself _ _ (common_ascends f) 0 (omega arith))

-- how many steps there are, by the zeros before the first digit
pub record AreSteps (f : FloatFormat) (digits doublings leading : ℕ) : Type 0 where
  pub places : ℕ
  pub sum : leading + places ≡ 64
  pub some : 0 < places
  pub high : digits < 2 ^ places
  pub low : 2 ^ (places - 1) ≤ digits

steps_at : (f : FloatFormat) (digits doublings leading j : ℕ) → leading + suc j ≡ 64 → 2 ^ j ≤ digits → digits < 2 ^ suc j → AreSteps f digits doublings leading
steps_at f digits doublings leading j e l h =
    let less : suc j - 1 ≡ j = omega arith in
    record {
      places = suc j;
      sum = e;
      some = omega arith;
      high = h;
      low = subst (λ x. 2 ^ x ≤ digits) (sym less) l;
    }

pub steps_of : (f : FloatFormat) (digits doublings : ℕ) → 0 < digits → digits < 2 ^ 64 → AreSteps f digits doublings (count_leading_zeros 64 digits)
steps_of f digits doublings p h = let t = leading_top 64 digits p h in steps_at f digits doublings (count_leading_zeros 64 digits) t.0 t.1 t.2 t.3

grouped : (a b c : ℕ) → a * (b * c) ≡ a * b * c
grouped a b c = omega arith

unit_product : (f : FloatFormat) (steps : ℕ) → 2 * exponent_unit f * (unit_size f * 2 ^ steps) ≡ 2 ^ (precision f + unit_doublings f + steps)
unit_product f steps =
    let w = fields_of f in
    ap (λ z. z * (unit_size f * 2 ^ steps)) w.digits ∙ ap (λ z. 2 ^ precision f * (z * 2 ^ steps)) (unit_is f)
    ∙ grouped (2 ^ precision f) (2 ^ unit_doublings f) (2 ^ steps)
    ∙ ap (λ z. z * 2 ^ steps) (sym (pow-add 2 (precision f) (unit_doublings f))) ∙ sym (pow-add 2 (precision f + unit_doublings f) steps)

pub steps_high : (f : FloatFormat) (digits doublings places steps : ℕ) → digits < 2 ^ places → places + doublings ≤ precision f + unit_doublings f + steps →
    digits * 2 ^ doublings < 2 * exponent_unit f * (unit_size f * 2 ^ steps)
steps_high f digits doublings places steps h l =
    let product : 2 ^ (places + doublings) ≡ 2 ^ places * 2 ^ doublings = pow-add 2 places doublings in
    let more : (digits + 1) * 2 ^ doublings ≤ 2 ^ places * 2 ^ doublings = mul-le-mul_right (2 ^ doublings) (omega arith) in
    let some : 0 < 2 ^ doublings = pow_pos doublings in
    let most : 2 ^ (places + doublings) ≤ 2 ^ (precision f + unit_doublings f + steps) = pow_mono l in
    subst (λ x. digits * 2 ^ doublings < x) (sym (unit_product f steps)) (omega arith)

pub steps_low : (f : FloatFormat) (digits doublings places steps : ℕ) → 0 < places → 2 ^ (places - 1) ≤ digits → places + doublings ≡ precision f + unit_doublings f + steps →
    exponent_unit f * (unit_size f * 2 ^ steps) ≤ digits * 2 ^ doublings
steps_low f digits doublings places steps p h e =
    let least : 2 ^ (places - 1) * 2 ^ doublings ≤ digits * 2 ^ doublings = mul-le-mul_right (2 ^ doublings) h in
    let one : places ≡ 1 + (places - 1) = omega arith in
    let twice : 2 ^ places ≡ 2 * 2 ^ (places - 1) = ap (λ z. 2 ^ z) one ∙ pow-add 2 1 (places - 1) in
    let all : 2 ^ places * 2 ^ doublings ≡ 2 * 2 ^ (places - 1) * 2 ^ doublings = ap (λ z. z * 2 ^ doublings) twice in
    let product : 2 ^ (places + doublings) ≡ 2 ^ places * 2 ^ doublings = pow-add 2 places doublings in
    let same : 2 ^ (places + doublings) ≡ 2 ^ (precision f + unit_doublings f + steps) = ap (λ z. 2 ^ z) e in
    let unit = unit_product f steps in
    omega arith

-- exact where nothing is lost
exactly_by : (f : FloatFormat) (n bits : ℕ) (t : Bool) → (t ≡ true → IsExactly f n bits true) → (t ≡ false → IsExactly f n bits false) → IsExactly f n bits t
exactly_by f n bits true a b = a refl
exactly_by f n bits false a b = b refl

pub exactly_tested : (f : FloatFormat) (n bits lost : ℕ) → (lost ≡ 0 → IsExactly f n bits true) → (0 < lost → IsExactly f n bits false) → IsExactly f n bits (eqb lost 0)
exactly_tested f n bits lost a b = exactly_by f n bits (eqb lost 0) (λ e. a (eqb-true _ _ e)) (λ e. elim (eq-zero-or-pos lost) [
  | inl z ↦ absurd (true≢false (sym (eq-eqb _ _ z) ∙ e))
  | inr p ↦ b p
])
