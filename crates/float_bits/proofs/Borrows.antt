-- Digits subtracted from digits.
use Rattle.std.proofs.Common.{◌≡◌, ℕ, zero, suc, ◌+◌, ◌*◌, ◌^◌, ◌<◌, ◌≤◌, List, length, get_or, set, take, arith, refl, ap}
use Rattle.float_bits.specs.Nearest.{distance}
use Rattle.float_bits.specs.Places.{base, value}
use Rattle.float_bits.proofs.PlaceValues.{base_next, value_of_next, value_of_set}

-- a place that leaves y, where b was borrowed and d is
pub value_of_borrow : (xs ys : List ℕ) (i y b d : ℕ) → i < length xs → i < length ys → y + get_or ys i 0 + b ≡ get_or xs i 0 + d * base →
    (old : ℕ) → value xs + value (take i ys) ≡ old + b * base ^ i →
    value (set xs i y) + value (take (i + 1) ys) ≡ old + d * base ^ (i + 1)
value_of_borrow xs ys i y b d h k e old before =
    let scaled : (y + get_or ys i 0 + b) * base ^ i ≡ (get_or xs i 0 + d * base) * base ^ i = ap (λ z. z * base ^ i) e in
    let up : d * base ^ (i + 1) ≡ d * (base ^ i * base) = ap (λ z. d * z) (base_next i) in
    omega (arith, value_of_set xs i y h, value_of_next ys i k, scaled, up)

-- what the last place borrows says which number is larger
pub larger_of_borrow : (left plus minus b p : ℕ) → left + minus ≡ plus + b * p → left < p → b ≤ 1 → (b ≡ 0 → ⊥) → plus < minus
larger_of_borrow left plus minus zero p e l h n = absurd (n refl)
larger_of_borrow left plus minus (suc zero) p e l h n = omega arith
larger_of_borrow left plus minus (suc (suc b)) p e l h n = absurd (omega arith)

pub distance_of_more : (left plus minus b p : ℕ) → left + minus ≡ plus + b * p → left < p → b ≤ 1 → minus < plus → left ≡ distance minus plus
distance_of_more left plus minus zero p e l h n = omega arith
distance_of_more left plus minus (suc zero) p e l h n = absurd (omega arith)
distance_of_more left plus minus (suc (suc b)) p e l h n = absurd (omega arith)

-- and where nothing is borrowed, what is left is the distance
pub distance_of_rest : (left plus minus b p : ℕ) → left + minus ≡ plus + b * p → b ≡ 0 → left ≡ distance plus minus
distance_of_rest left plus minus b p e z = let none : b * p ≡ 0 * p = ap (λ n. n * p) z in omega arith

pub not_less_of_rest : (left plus minus b p : ℕ) → left + minus ≡ plus + b * p → b ≡ 0 → minus ≤ plus
not_less_of_rest left plus minus b p e z = let none : b * p ≡ 0 * p = ap (λ n. n * p) z in omega arith
