-- What a step at one place does to a number by its digits.
use Rattle.std.proofs.Common.{◌≡◌, ◌∙◌, ℕ, zero, suc, ◌+◌, ◌*◌, ◌/◌, ◌%◌, ◌^◌, ◌<◌, ◌≤◌, List, [], ◌∷◌, length, get_or, set, take, arith, refl, ap, get_or-set_same, mul-le-mul_left, mul-le-mul_right}
use Rattle.std.proofs.lemmas.Nat.{div_below}
use Rattle.float_bits.specs.Places.{base, value}
use Rattle.float_bits.proofs.PlaceValues.{base_next, base_pos, value_of_next, value_of_set}

-- places before the one that is written stay
pub take_set : (xs : List ℕ) (i y : ℕ) → take i (set xs i y) ≡ take i xs
take_set [] zero y = refl
take_set [] (suc i) y = refl
take_set (x ∷ xs) zero y = refl
take_set (x ∷ xs) (suc i) y = ap (λ zs. x ∷ zs) (take_set xs i y)

pub length_set : (xs : List ℕ) (i y : ℕ) → length (set xs i y) ≡ length xs
length_set [] zero y = refl
length_set [] (suc i) y = refl
length_set (x ∷ xs) zero y = refl
length_set (x ∷ xs) (suc i) y = ap suc (length_set xs i y)

-- the places up to the one that is written
pub value_of_written : (xs : List ℕ) (i y : ℕ) → i < length xs → value (take (i + 1) (set xs i y)) ≡ value (take i xs) + y * base ^ i
value_of_written xs i y h =
    let within : i < length (set xs i y) = omega (arith, length_set xs i y) in
    let is : get_or (set xs i y) i 0 ≡ y = rw get_or-set_same refl in
    let next = value_of_next (set xs i y) i within in
    let before : value (take i (set xs i y)) ≡ value (take i xs) = ap value (take_set xs i y) in
    let digit : get_or (set xs i y) i 0 * base ^ i ≡ y * base ^ i = ap (λ z. z * base ^ i) is in
    omega arith

-- a place times a digit, and what it carries
pub value_of_product : (xs olds : List ℕ) (i f c : ℕ) → i < length xs → i < length olds → get_or xs i 0 ≡ get_or olds i 0 →
    value (take i xs) + c * base ^ i ≡ value (take i olds) * f →
    value (take (i + 1) (set xs i ((get_or xs i 0 * f + c) % base))) + (get_or xs i 0 * f + c) / base * base ^ (i + 1) ≡ value (take (i + 1) olds) * f
value_of_product xs olds i f c h k same e =
    let s = get_or xs i 0 * f + c in
    let parts : s / base * base + s % base ≡ s = omega arith in
    let scaled : (s / base * base + s % base) * base ^ i ≡ s * base ^ i = ap (λ z. z * base ^ i) parts in
    let up : s / base * base ^ (i + 1) ≡ s / base * (base ^ i * base) = ap (λ z. s / base * z) (base_next i) in
    let written = value_of_written xs i (s % base) h in
    let old : value (take (i + 1) olds) * f ≡ (value (take i olds) + get_or olds i 0 * base ^ i) * f = ap (λ z. z * f) (value_of_next olds i k) in
    let digit : get_or xs i 0 * f * base ^ i ≡ get_or olds i 0 * f * base ^ i = ap (λ z. z * f * base ^ i) same in
    omega arith

-- a place divided by a digit, with the rest of the places above it
pub value_of_divided : (xs : List ℕ) (p i d rest old : ℕ) → p ≡ i + 1 → i < length xs →
    old + value (take p xs) * d ≡ value (take p xs) + value xs * d + rest * base ^ p →
    old + value (take i (set xs i ((rest * base + get_or xs i 0) / d))) * d ≡ value (take i (set xs i ((rest * base + get_or xs i 0) / d))) + value (set xs i ((rest * base + get_or xs i 0) / d)) * d + (rest * base + get_or xs i 0) % d * base ^ i
value_of_divided xs p i d rest old is h e =
    let x = get_or xs i 0 in
    let n = rest * base + x in
    let y = n / d in
    let b = base ^ i in
    let parts : y * d + n % d ≡ n = omega arith in
    let scaled : (y * d + n % d) * b ≡ n * b = ap (λ z. z * b) parts in
    let up : rest * base ^ p ≡ rest * (b * base) = ap (λ z. rest * base ^ z) is ∙ ap (λ z. rest * z) (base_next i) in
    let next : value (take p xs) ≡ value (take i xs) + x * b = ap (λ z. value (take z xs)) is ∙ value_of_next xs i h in
    let next_times : value (take p xs) * d ≡ (value (take i xs) + x * b) * d = ap (λ z. z * d) next in
    let same : value (take i (set xs i y)) ≡ value (take i xs) = ap value (take_set xs i y) in
    let same_times : value (take i (set xs i y)) * d ≡ value (take i xs) * d = ap (λ z. z * d) same in
    let written : (value (set xs i y) + x * b) * d ≡ (value xs + y * b) * d = ap (λ z. z * d) (value_of_set xs i y h) in
    omega arith

-- a quotient of two digits of which the higher is a rest is one digit
pub quotient_is_digit : (rest x d : ℕ) → rest < d → x < base → (rest * base + x) / d < base
quotient_is_digit rest x d h k =
    let most : (rest + 1) * base ≤ d * base = mul-le-mul_right base (omega arith) in
    div_below (rest * base + x) d base (omega arith) (omega arith)

-- one place less, of a number that is read from its highest place on
pub value_of_read : (xs : List ℕ) (p i n : ℕ) → p ≡ i + 1 → i < length xs → value xs ≡ value (take p xs) + n * base ^ p →
    value xs ≡ value (take i xs) + (n * base + get_or xs i 0) * base ^ i
value_of_read xs p i n is h e =
    let next : value (take p xs) ≡ value (take i xs) + get_or xs i 0 * base ^ i = ap (λ z. value (take z xs)) is ∙ value_of_next xs i h in
    let up : n * base ^ p ≡ n * (base ^ i * base) = ap (λ z. n * base ^ z) is ∙ ap (λ z. n * z) (base_next i) in
    omega arith

-- what is past 96 bits is past 128 with a place more
pub past_with_next : (p i n rest v : ℕ) → p ≡ i + 1 → 2 ^ 96 ≤ n → v ≡ rest + n * base ^ p → 2 ^ 128 ≤ v
past_with_next p i n rest v is h e =
    let one = base_pos i in
    let unit : 1 * base ≤ base ^ i * base = mul-le-mul_right {m = 1} base (omega arith) in
    let up : n * base ^ p ≡ n * (base ^ i * base) = ap (λ z. n * base ^ z) is ∙ ap (λ z. n * z) (base_next i) in
    let least : n * base ≤ n * (base ^ i * base) = mul-le-mul_left n (omega arith) in
    omega arith
