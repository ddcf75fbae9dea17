-- Where decimals and floats are among the integers of a scale.
use Rattle.std.proofs.Common.{◌≡◌, ◌∙◌, ℕ, ◌-◌, ◌*◌, ◌^◌, ◌<◌, ◌≤◌, ◌⊎◌, ℤ, pos, ◌*ℤ◌, Bool, false, true, not, int_lt, unsigned_abs, Some, FitsSigned, refl, ap, sym, subst}
use Rattle.std.specs.Int.{w128}
use Rattle.std.specs.Ordering.{int_cmp}
use Rattle.std.specs.declared.cmp.Ordering.{Ordering}
use Rattle.std.proofs.lemmas.Nat.{pow_pos}
use Rattle.float_bits.specs.CommonSizes.{one_size}
use Rattle.float_bits.specs.Number.{with_sign}
use Rattle.float_bits.specs.Places.{base}
use Rattle.float_bits.proofs.SameValues.{one_is}
use Rattle.exact_numbers.specs.Exact.{decimal_unit, exact_cmp, exact_decimal, zeros_after, Fraction}
use Rattle.exact_numbers.specs.Positions.{order_at, IsAmongWide}
use Rattle.exact_numbers.specs.Quotients.{dividend_of, divisor_of, IsRoomFor}
use Rattle.exact_numbers.specs.declared.positions.Position.{Position}
use Rattle.exact_numbers.specs.declared.quotients.Ratio.{Ratio}
use Rattle.exact_numbers.proofs.Fractions.{decimals_in_order, float_in_order, product_some, room_for_decimal, room_for_float, ten_some}

pub unit_ten : decimal_unit ≡ 10 ^ 127
unfolding decimal_unit
unit_ten = refl

pub unit_some : 0 < decimal_unit
unit_some = subst (λ (u : ℕ). 0 < u) (sym unit_ten) (ten_some 127)

-- the parts of a ratio
pub record AreParts (r : Ratio) (digits tens doublings tenths halvings : ℕ) : Type 0 where
  pub digits_are : r.digits ≡ digits
  pub tens_are : r.tens ≡ tens
  pub doublings_are : r.doublings ≡ doublings
  pub tenths_are : r.tenths ≡ tenths
  pub halvings_are : r.halvings ≡ halvings

dividend_is : (r : Ratio) (n t d u h : ℕ) → AreParts r n t d u h → dividend_of r ≡ n * 10 ^ t * 2 ^ d
dividend_is r n t d u h p =
    ap (λ (k : ℕ). k * 10 ^ r.tens * 2 ^ r.doublings) p.digits_are ∙ ap (λ (k : ℕ). n * 10 ^ k * 2 ^ r.doublings) p.tens_are ∙ ap (λ (k : ℕ). n * 10 ^ t * 2 ^ k) p.doublings_are

divisor_is : (r : Ratio) (n t d u h : ℕ) → AreParts r n t d u h → divisor_of r ≡ 2 ^ h * 10 ^ u
divisor_is r n t d u h p =
    ap (λ (k : ℕ). 2 ^ k * 10 ^ r.tenths) p.halvings_are ∙ ap (λ (k : ℕ). 2 ^ h * 10 ^ k) p.tenths_are

pub divisor_some : (r : Ratio) → 0 < divisor_of r
divisor_some r = product_some (2 ^ r.halvings) (10 ^ r.tenths) (pow_pos r.halvings) (ten_some r.tenths)

room_by_parts : (r : Ratio) (n t d u h : ℕ) → AreParts r n t d u h → (n * 10 ^ t * 2 ^ d < base ^ 20) ⊎ (2 ^ 128 * (2 ^ h * 10 ^ u) ≤ base ^ 20) → IsRoomFor r
room_by_parts r n t d u h p room =
    subst (λ (x : ℕ). (x < base ^ 20) ⊎ (2 ^ 128 * divisor_of r ≤ base ^ 20)) (sym (dividend_is r n t d u h p))
    (subst (λ (x : ℕ). (n * 10 ^ t * 2 ^ d < base ^ 20) ⊎ (2 ^ 128 * x ≤ base ^ 20)) (sym (divisor_is r n t d u h p)) room)

pub decimal_room : (r : Ratio) (n w z : ℕ) → AreParts r n (z - w) 0 (w - z) 0 → n < 2 ^ 128 → IsRoomFor r
decimal_room r n w z p small = room_by_parts r n (z - w) 0 (w - z) 0 p (room_for_decimal n w z small)

pub float_room : (r : Ratio) (m k w : ℕ) → AreParts r m (127 - w) (k - 1074) (w - 127) (1074 - k) → m < 2 ^ 53 → w ≤ 255 → IsRoomFor r
float_room r m k w p small few = room_by_parts r m (127 - w) (k - 1074) (w - 127) (1074 - k) p (room_for_float m k w small few)

-- a decimal among those of a scale
pub decimal_among : (r : Ratio) (scale own digits : ℤ) (w z : ℕ) (negative : Bool) (position : Position) → w ≡ zeros_after scale → z ≡ zeros_after own →
    AreParts r (unsigned_abs digits) (z - w) 0 (w - z) 0 → negative ≡ int_lt digits (pos 0) → IsAmongWide negative (dividend_of r) (divisor_of r) position →
    (row : ℤ) → FitsSigned w128 row → exact_cmp (exact_decimal scale row) (exact_decimal own digits) ≡ order_at position row
decimal_among r scale own digits w z negative position e f p sign among row fits =
    let n = unsigned_abs digits in
    let scales : exact_cmp (exact_decimal scale row) (exact_decimal own digits) ≡ Some (int_cmp ((row *ℤ pos (10 ^ w)) *ℤ pos decimal_unit) ((digits *ℤ pos (10 ^ z)) *ℤ pos decimal_unit)) =
    ap (λ (k : ℕ). Some (int_cmp ((row *ℤ pos (10 ^ k)) *ℤ pos decimal_unit) ((digits *ℤ pos (10 ^ zeros_after own)) *ℤ pos decimal_unit))) (sym e) ∙ ap (λ (k : ℕ). Some (int_cmp ((row *ℤ pos (10 ^ w)) *ℤ pos decimal_unit) ((digits *ℤ pos (10 ^ k)) *ℤ pos decimal_unit))) (sym f) in
    let reduced = ap (λ (o : Ordering). Some o) (decimals_in_order row digits w z decimal_unit unit_some) in
    let parts : int_cmp (row *ℤ pos (2 ^ 0 * 10 ^ (w - z))) (with_sign (not (int_lt digits (pos 0))) (n * 10 ^ (z - w) * 2 ^ 0)) ≡ int_cmp (row *ℤ pos (divisor_of r)) (with_sign (not negative) (dividend_of r)) =
    ap (λ (k : ℕ). int_cmp (row *ℤ pos k) (with_sign (not (int_lt digits (pos 0))) (n * 10 ^ (z - w) * 2 ^ 0))) (sym (divisor_is r n (z - w) 0 (w - z) 0 p))
    ∙ ap (λ (k : ℕ). int_cmp (row *ℤ pos (divisor_of r)) (with_sign (not (int_lt digits (pos 0))) k)) (sym (dividend_is r n (z - w) 0 (w - z) 0 p))
    ∙ ap (λ (b : Bool). int_cmp (row *ℤ pos (divisor_of r)) (with_sign (not b) (dividend_of r))) (sym sign) in
    scales ∙ reduced ∙ ap (λ (o : Ordering). Some o) parts ∙ among row fits

pub not_twice : (b : Bool) → not (not b) ≡ b
not_twice true = refl
not_twice false = refl

-- a finite float, which is m * 2 ^ k units of 2 ^ -1074, among the decimals of a scale
pub float_among : (r : Ratio) (scale : ℤ) (s : Bool) (w m k : ℕ) (negative : Bool) (position : Position) → w ≡ zeros_after scale → AreParts r m (127 - w) (k - 1074) (w - 127) (1074 - k) → not negative ≡ s
    → IsAmongWide negative (dividend_of r) (divisor_of r) position → (row : ℤ) → FitsSigned w128 row → exact_cmp (exact_decimal scale row) (Fraction (with_sign s (m * 2 ^ k)) one_size) ≡ order_at position row
float_among r scale s w m k negative position e p sign among row fits =
    let scales = ap (λ (j : ℕ). Some (int_cmp ((row *ℤ pos (10 ^ j)) *ℤ pos one_size) (with_sign s (m * 2 ^ k) *ℤ pos decimal_unit))) (sym e) in
    let reduced = ap (λ (o : Ordering). Some o) (float_in_order row s w m k (m * 2 ^ k) one_size decimal_unit refl one_is unit_ten) in
    let n = m * 10 ^ (127 - w) * 2 ^ (k - 1074) in
    let parts : int_cmp (row *ℤ pos (2 ^ (1074 - k) * 10 ^ (w - 127))) (with_sign s n) ≡ int_cmp (row *ℤ pos (divisor_of r)) (with_sign (not negative) (dividend_of r)) =
    ap (λ (j : ℕ). int_cmp (row *ℤ pos j) (with_sign s n)) (sym (divisor_is r m (127 - w) (k - 1074) (w - 127) (1074 - k) p))
    ∙ ap (λ (j : ℕ). int_cmp (row *ℤ pos (divisor_of r)) (with_sign s j)) (sym (dividend_is r m (127 - w) (k - 1074) (w - 127) (1074 - k) p))
    ∙ ap (λ (b : Bool). int_cmp (row *ℤ pos (divisor_of r)) (with_sign b (dividend_of r))) (sym sign) in
    scales ∙ reduced ∙ ap (λ (o : Ordering). Some o) parts ∙ among row fits

pub one_some : 0 < one_size
one_some = subst (λ (u : ℕ). 0 < u) (sym one_is) (pow_pos 1074)
