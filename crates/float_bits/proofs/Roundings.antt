-- A number rounded by its 53 highest binary digits, those that follow them in a window, and the places below.
use Rattle.std.proofs.Common.{◌≡◌, ℕ, ◌+◌, ◌*◌, ◌%◌, ◌^◌, ◌<◌, ◌≤◌, ◌⊎◌, inl, inr, arith, ap, ◌∙◌, sym, subst, mul-le-mul_right, le_refl, le_trans, pow_mono}
use Rattle.std.proofs.lemmas.Nat.{pow-add, mul-le}
use Rattle.float_bits.specs.declared.formats.FloatFormat.TheVariants.{F64}
use Rattle.float_bits.specs.Format.{infinity}
use Rattle.float_bits.specs.Number.{size}
use Rattle.float_bits.specs.Nearest.{IsNearest}
use Rattle.float_bits.specs.Places.{base}
use Rattle.float_bits.specs.Window.{IsCut}
use Rattle.float_bits.proofs.Neighbours.{IsBetween, nearest_even, nearest_infinity, nearest_itself, nearest_lower, nearest_upper}
use Rattle.float_bits.proofs.PlaceValues.{base_is_two}
use Rattle.float_bits.proofs.PatternSizes.{doubles_ascend, size_after, size_of_doubled, size_of_small}

-- what 1 in the kept digits counts for
unit_of : (places digits half : ℕ) → 2 * half ≡ 2 ^ digits → 2 ^ (32 * places + digits) ≡ base ^ places * (2 * half)
unit_of places digits half e = pow-add 2 (32 * places) digits ∙ ap (λ z. z * 2 ^ digits) (sym (base_is_two places)) ∙ ap (λ z. base ^ places * z) (sym e)

from_kept : (kept lost u p rest : ℕ) → kept * (p * u) ≤ (kept * u + lost) * p + rest
from_kept kept lost u p rest = omega arith

before_next : (kept lost u p rest : ℕ) → lost < u → rest < p → (kept * u + lost) * p + rest < (kept + 1) * (p * u)
before_next kept lost u p rest a b =
    let most : (lost + 1) * p ≤ u * p = mul-le-mul_right p (omega arith) in
    omega arith

-- relative to the middle of both
before_middle : (kept lost half p rest : ℕ) → lost < half → rest < p → 2 * ((kept * (2 * half) + lost) * p + rest) < kept * (p * (2 * half)) + (kept + 1) * (p * (2 * half))
before_middle kept lost half p rest a b =
    let most : (lost + 1) * p ≤ half * p = mul-le-mul_right p (omega arith) in
    omega arith

after_middle : (kept lost half p rest : ℕ) → 0 < p → (half < lost) ⊎ ((half ≡ lost) × (0 < rest)) → kept * (p * (2 * half)) + (kept + 1) * (p * (2 * half)) < 2 * ((kept * (2 * half) + lost) * p + rest)
after_middle kept lost half p rest q (inl h) =
    let least : (half + 1) * p ≤ lost * p = mul-le-mul_right p (omega arith) in
    omega arith
after_middle kept lost half p rest q (inr h) =
    let same : half * p ≡ lost * p = ap (λ z. z * p) h.0 in
    let some = h.1 in
    omega arith

at_middle : (kept lost half p rest : ℕ) → half ≡ lost → rest ≡ 0 → 2 * ((kept * (2 * half) + lost) * p + rest) ≡ kept * (p * (2 * half)) + (kept + 1) * (p * (2 * half))
at_middle kept lost half p rest e f =
    let same : half * p ≡ lost * p = ap (λ z. z * p) e in
    omega arith

-- the neighbours of such a number
pub record AreNeighbours (window kept digits lost half places rest : ℕ) : Type 0 where
  pub low : size F64 ((32 * places + digits) * 0x10_0000_0000_0000 + kept) ≡ kept * (base ^ places * (2 * half))
  pub high : size F64 ((32 * places + digits) * 0x10_0000_0000_0000 + kept + 1) ≡ (kept + 1) * (base ^ places * (2 * half))
  pub number : window * base ^ places + rest ≡ (kept * (2 * half) + lost) * base ^ places + rest
  pub between : IsBetween (size F64) (infinity F64) (window * base ^ places + rest) ((32 * places + digits) * 0x10_0000_0000_0000 + kept)

pub neighbours : (window kept digits lost half places rest : ℕ) → IsCut window kept digits lost half → rest < base ^ places → 32 * places + digits ≤ 2045 → AreNeighbours window kept digits lost half places rest
neighbours window kept digits lost half places rest c h b =
    let u = unit_of places digits half c.unit in
    let low = size_of_doubled (32 * places + digits) kept c.kept_low c.kept_high (omega arith) ∙ ap (λ z. kept * z) u in
    let high = size_after (32 * places + digits) kept c.kept_low c.kept_high b ∙ ap (λ z. (kept + 1) * z) u in
    let number : window * base ^ places + rest ≡ (kept * (2 * half) + lost) * base ^ places + rest = ap (λ z. z * base ^ places + rest) c.whole in
    let k = c.kept_high in
    record {
      low = low;
      high = high;
      number = number;
      between = record {
        finite = omega arith;
        low = rw (low, number) (from_kept kept lost (2 * half) (base ^ places) rest);
        high = rw (high, number) (before_next kept lost (2 * half) (base ^ places) rest c.lost_below h);
      };
    }

pub rounds_down : (window kept digits lost half places rest : ℕ) → IsCut window kept digits lost half → rest < base ^ places → 32 * places + digits ≤ 2045 →
    lost < half → IsNearest (window * base ^ places + rest) ((32 * places + digits) * 0x10_0000_0000_0000 + kept)
rounds_down window kept digits lost half places rest c h b l =
    let w = neighbours window kept digits lost half places rest c h b in
    nearest_lower _ _ doubles_ascend _ _ w.between (rw (w.low, w.high, w.number) (before_middle kept lost half (base ^ places) rest l h))

pub rounds_up : (window kept digits lost half places rest : ℕ) → IsCut window kept digits lost half → rest < base ^ places → 32 * places + digits ≤ 2045 →
    (half < lost) ⊎ ((half ≡ lost) × (0 < rest)) → IsNearest (window * base ^ places + rest) ((32 * places + digits) * 0x10_0000_0000_0000 + kept + 1)
rounds_up window kept digits lost half places rest c h b m =
    let w = neighbours window kept digits lost half places rest c h b in
    nearest_upper _ _ doubles_ascend _ _ w.between (rw (w.low, w.high, w.number) (after_middle kept lost half (base ^ places) rest (omega arith) m))

pub rounds_to_even : (window kept digits lost half places rest : ℕ) → IsCut window kept digits lost half → rest < base ^ places → 32 * places + digits ≤ 2045 →
    half ≡ lost → rest ≡ 0 → IsNearest (window * base ^ places + rest) ((32 * places + digits) * 0x10_0000_0000_0000 + kept + kept % 2)
rounds_to_even window kept digits lost half places rest c h b m z =
    let w = neighbours window kept digits lost half places rest c h b in
    let parity : ((32 * places + digits) * 0x10_0000_0000_0000 + kept) % 2 ≡ kept % 2 = omega arith in
    subst (λ x. IsNearest (window * base ^ places + rest) ((32 * places + digits) * 0x10_0000_0000_0000 + kept + x)) parity
    (nearest_even _ _ doubles_ascend _ _ w.between (rw (w.low, w.high, w.number) (at_middle kept lost half (base ^ places) rest m z)))

pub rounds_to_infinity : (window kept digits lost half places rest : ℕ) → IsCut window kept digits lost half → 2045 < 32 * places + digits → IsNearest (window * base ^ places + rest) (infinity F64)
rounds_to_infinity window kept digits lost half places rest c b =
    let u = unit_of places digits half c.unit in
    let past : 2046 ≤ 32 * places + digits = omega arith in
    let first : size F64 (infinity F64) ≡ 2 ^ 52 * 2 ^ 2046 = size_of_doubled 2046 (2 ^ 52) (le_refl _) (omega arith) (omega arith) in
    let most : 2 ^ 52 * 2 ^ 2046 ≤ kept * 2 ^ (32 * places + digits) = mul-le (2 ^ 52) (2 ^ 2046) kept (2 ^ (32 * places + digits)) c.kept_low (pow_mono past) in
    let number : window * base ^ places + rest ≡ (kept * (2 * half) + lost) * base ^ places + rest = ap (λ z. z * base ^ places + rest) c.whole in
    nearest_infinity _ _ doubles_ascend _ (subst (λ x. x ≤ window * base ^ places + rest) (sym first) (le_trans most (rw (u, number) (from_kept kept lost (2 * half) (base ^ places) rest))))

-- a window that fits, with nothing below it
pub rounds_to_itself : (window places rest : ℕ) → window < 2 ^ 53 → places ≡ 0 → rest < base ^ places → IsNearest (window * base ^ places + rest) window
rounds_to_itself window places rest h e b =
    let unit : base ^ places ≡ 1 = ap (λ z. base ^ z) e in
    let product : window * base ^ places ≡ window * 1 = ap (λ z. window * z) unit in
    let is : size F64 window ≡ window * base ^ places + rest = size_of_small window h ∙ omega arith in
    subst (λ x. IsNearest x window) is (nearest_itself _ _ doubles_ascend window (omega arith))
