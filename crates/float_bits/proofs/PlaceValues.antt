-- What a write to one place does to a number.
use Rattle.std.proofs.Common.{◌≡◌, ℕ, zero, suc, ◌+◌, ◌-◌, ◌*◌, ◌/◌, ◌%◌, ◌^◌, ◌<◌, ◌≤◌, ◌≢◌, ◌⊎◌, inl, inr, List, [], ◌∷◌, length, get_or, set, take, arith, refl, ap, sym, ◌∙◌, add-one, get_or-set_other, get_or-set_same, below_more, le_refl, mul-le-mul_left, mul-le-mul_right}
use Rattle.std.proofs.lemmas.Nat.{pow-add, pow_pos}
use Rattle.std.proofs.Math.Nat.{pow-suc}
use Rattle.float_bits.specs.Places.{AreBelow, base, value}

-- the number with another bin at a place
pub value_of_set : (xs : List ℕ) (i y : ℕ) → i < length xs → value (set xs i y) + get_or xs i 0 * base ^ i ≡ value xs + y * base ^ i
value_of_set [] i y h = absurd (omega arith)
value_of_set (x ∷ xs) zero y h = omega arith
value_of_set (x ∷ xs) (suc i) y h =
    let rest = ap (λ z. base * z) (value_of_set xs i y (omega arith)) in
    rw (pow-suc base i) (omega (arith, rest))

pub value_of_add : (xs : List ℕ) (i y : ℕ) → i < length xs → value (set xs i (get_or xs i 0 + y)) ≡ value xs + y * base ^ i
value_of_add xs i y h = omega (arith, value_of_set xs i (get_or xs i 0 + y) h)

-- one place more
next_place : (xs : List ℕ) (i : ℕ) → i < length xs → value (take (suc i) xs) ≡ value (take i xs) + get_or xs i 0 * base ^ i
next_place [] i h = absurd (omega arith)
next_place (x ∷ xs) zero h = omega arith
next_place (x ∷ xs) (suc i) h =
    let rest = ap (λ z. base * z) (next_place xs i (omega arith)) in
    rw (pow-suc base i) (omega (arith, rest))

pub value_of_next : (xs : List ℕ) (i : ℕ) → i < length xs → value (take (i + 1) xs) ≡ value (take i xs) + get_or xs i 0 * base ^ i
value_of_next xs i h = rw (add-one i) (next_place xs i h)

pub value_of_all : (xs : List ℕ) (n : ℕ) → length xs ≤ n → value (take n xs) ≡ value xs
value_of_all [] zero h = refl
value_of_all [] (suc n) h = refl
value_of_all (x ∷ xs) zero h = absurd (omega arith)
value_of_all (x ∷ xs) (suc n) h = ap (λ z. x + base * z) (value_of_all xs n (omega arith))

pub base_next : (i : ℕ) → base ^ (i + 1) ≡ base ^ i * base
base_next i = pow-add base i 1

pub base_is_two : (i : ℕ) → base ^ i ≡ 2 ^ (32 * i)
base_is_two zero = refl
base_is_two (suc i) =
    let e : 32 * suc i ≡ 32 * i + 32 = omega arith in
    pow-suc base i ∙ ap (λ z. z * base) (base_is_two i) ∙ sym (pow-add 2 (32 * i) 32) ∙ ap (λ z. 2 ^ z) (sym e)

pub base_pos : (i : ℕ) → 0 < base ^ i
base_pos i = rw (base_is_two i) (pow_pos (32 * i))

-- digits count for less than 1 at the next place does
pub digits_below : (xs : List ℕ) (i : ℕ) → AreBelow base xs → value (take i xs) < base ^ i
digits_below [] zero h = omega arith
digits_below [] (suc i) h = base_pos (suc i)
digits_below (x ∷ xs) zero h = omega arith
digits_below (x ∷ xs) (suc i) h =
    let rest = digits_below xs i (λ k. h (suc k)) in
    let digit : x < base = h 0 in
    let most : base * (value (take i xs) + 1) ≤ base * base ^ i = mul-le-mul_left base (omega arith) in
    rw (pow-suc base i) (omega arith)

pub all_digits_below : (xs : List ℕ) → AreBelow base xs → value xs < base ^ length xs
all_digits_below xs h =
    let all = value_of_all xs (length xs) (le_refl _) in
    let below = digits_below xs (length xs) h in
    omega arith

-- bins of the number 0 are 0
pub bins_of_zero : (xs : List ℕ) → value xs ≡ 0 → (k : ℕ) → get_or xs k 0 ≡ 0
bins_of_zero [] e k = refl
bins_of_zero (x ∷ xs) e zero = omega arith
bins_of_zero (x ∷ xs) e (suc k) = bins_of_zero xs (omega arith) k

-- bins below a limit, with another bin at a place
pub below_of_set : (n : ℕ) (xs : List ℕ) (i y : ℕ) → ((k : ℕ) → get_or xs k 0 < n) → y < n → (k : ℕ) → get_or (set xs i y) k 0 < n
below_of_set n [] i y h l k = h k
below_of_set n (x ∷ xs) zero y h l zero = l
below_of_set n (x ∷ xs) zero y h l (suc k) = h (suc k)
below_of_set n (x ∷ xs) (suc i) y h l zero = h zero
below_of_set n (x ∷ xs) (suc i) y h l (suc k) = below_of_set n xs i y (λ j. h (suc j)) l k

pub below_of_next : (n : ℕ) (xs : List ℕ) (i y : ℕ) → i < length xs → ((k : ℕ) → k < i → get_or xs k 0 < n) → y < n → (k : ℕ) → k < i + 1 → get_or (set xs i y) k 0 < n
below_of_next n xs i y lt h l =
    below_more (λ k. get_or (set xs i y) k 0 < n) i
    (λ k m. let other : k ≢ i = omega arith in rw get_or-set_other (h k m))
    (rw get_or-set_same l)

pub unchanged_after : (xs : List ℕ) (i y k : ℕ) → i + 1 ≤ k → get_or (set xs i y) k 0 ≡ get_or xs k 0
unchanged_after xs i y k h = let other : k ≢ i = omega arith in rw get_or-set_other refl

-- a bin is the one that was written, or unchanged
pub written_or_not : (xs : List ℕ) (i y k : ℕ) → ((k ≡ i) × (get_or (set xs i y) k 0 ≡ y)) ⊎ (get_or (set xs i y) k 0 ≡ get_or xs k 0)
written_or_not [] i y k = inr refl
written_or_not (x ∷ xs) zero y zero = inl (refl, refl)
written_or_not (x ∷ xs) zero y (suc k) = inr refl
written_or_not (x ∷ xs) (suc i) y zero = inr refl
written_or_not (x ∷ xs) (suc i) y (suc k) = elim (written_or_not xs i y k) [ inl h ↦ inl (ap suc h.0, h.1) | inr h ↦ inr h ]

-- where two bins grow by less than m each, each bin does
pub two_grow : (xs : List ℕ) (i j a b m : ℕ) → i < j → a < m → b < m → (k : ℕ) →
    get_or (set (set xs i (get_or xs i 0 + a)) j (get_or (set xs i (get_or xs i 0 + a)) j 0 + b)) k 0 < get_or xs k 0 + m
two_grow xs i j a b m lt p q k =
    let ys = set xs i (get_or xs i 0 + a) in
    let kept : get_or ys j 0 ≡ get_or xs j 0 = unchanged_after xs i _ j (omega arith) in
    elim (written_or_not ys j (get_or ys j 0 + b) k) [
      | inl w ↦ let at = w.0 in let is = w.1 in let same : get_or xs k 0 ≡ get_or xs j 0 = ap (λ z. get_or xs z 0) at in omega arith
      | inr n ↦ elim (written_or_not xs i (get_or xs i 0 + a) k) [
        | inl w ↦ let at = w.0 in let is = w.1 in let same : get_or xs k 0 ≡ get_or xs i 0 = ap (λ z. get_or xs z 0) at in omega arith
        | inr o ↦ omega arith
      ]
    ]

-- bin by bin
pub value_of_both : (xs ys : List ℕ) (i : ℕ) → i < length xs → i < length ys → (old : ℕ) → value xs ≡ old + value (take i ys) →
    value (set xs i (get_or xs i 0 + get_or ys i 0)) ≡ old + value (take (i + 1) ys)
value_of_both xs ys i h k old e = omega (arith, value_of_add xs i (get_or ys i 0) h, value_of_next ys i k)

-- a place that carries
pub value_of_carry : (xs : List ℕ) (i c : ℕ) → i < length xs →
    value (set xs i ((get_or xs i 0 + c) % base)) + (get_or xs i 0 + c) / base * base ^ (i + 1) ≡ value xs + c * base ^ i
value_of_carry xs i c h =
    let s = get_or xs i 0 + c in
    let parts : s / base * base + s % base ≡ s = omega arith in
    let scaled : (s / base * base + s % base) * base ^ i ≡ s * base ^ i = ap (λ z. z * base ^ i) parts in
    let up : s / base * base ^ (i + 1) ≡ s / base * (base ^ i * base) = ap (λ z. s / base * z) (base_next i) in
    omega (arith, value_of_set xs i (s % base) h, scaled, up)

-- nothing is carried past the last place of a number that has room
pub carries_nothing : (new old carried p : ℕ) → new + carried * p ≡ old → old < p → new ≡ old
carries_nothing new old zero p e h = omega arith
carries_nothing new old (suc carried) p e h =
    let some : suc carried * p ≡ carried * p + p = omega arith in
    absurd (omega arith)

-- three places after others
pub value_of_three : (xs : List ℕ) (i : ℕ) → i + 2 < length xs →
    value (take (i + 3) xs) ≡ (get_or xs i 0 + base * (get_or xs (i + 1) 0 + base * get_or xs (i + 2) 0)) * base ^ i + value (take i xs)
value_of_three xs i h =
    let a = value_of_next xs i (omega arith) in
    let b = value_of_next xs (i + 1) (omega arith) in
    let c = value_of_next xs (i + 2) h in
    let two : value (take (i + 1 + 1) xs) ≡ value (take (i + 2) xs) = ap (λ z. value (take z xs)) (omega arith) in
    let three : value (take (i + 2 + 1) xs) ≡ value (take (i + 3) xs) = ap (λ z. value (take z xs)) (omega arith) in
    let m : get_or xs (i + 1) 0 * base ^ (i + 1) ≡ get_or xs (i + 1) 0 * (base ^ i * base) = ap (λ z. get_or xs (i + 1) 0 * z) (base_next i) in
    let n : get_or xs (i + 2) 0 * base ^ (i + 2) ≡ get_or xs (i + 2) 0 * (base ^ i * (base * base)) = ap (λ z. get_or xs (i + 2) 0 * z) (pow-add base i 2) in
    omega arith

-- a highest place with 0 counts for nothing
pub without_top : (xs : List ℕ) (i : ℕ) → 0 < i → i + 2 < length xs → get_or xs (i + 2) 0 ≡ 0 → value (take (i + 3) xs) ≡ value (take (i - 1 + 3) xs)
without_top xs i p h z =
    let next = value_of_next xs (i + 2) h in
    let three : value (take (i + 2 + 1) xs) ≡ value (take (i + 3) xs) = ap (λ n. value (take n xs)) (omega arith) in
    let less : value (take (i - 1 + 3) xs) ≡ value (take (i + 2) xs) = ap (λ n. value (take n xs)) (omega arith) in
    let none : get_or xs (i + 2) 0 * base ^ (i + 2) ≡ 0 * base ^ (i + 2) = ap (λ n. n * base ^ (i + 2)) z in
    omega arith

-- a further place that is not 0, and one that is
pub some_at_next : (xs : List ℕ) (i : ℕ) → i < length xs → 0 < get_or xs i 0 → 0 < value (take (i + 1) xs)
some_at_next xs i h p =
    let next = value_of_next xs i h in
    let some : 1 * base ^ i ≤ get_or xs i 0 * base ^ i = mul-le-mul_right (base ^ i) (omega arith) in
    let unit = base_pos i in
    omega arith

pub none_at_next : (xs : List ℕ) (i : ℕ) → i < length xs → get_or xs i 0 ≡ 0 → value (take (i + 1) xs) ≡ value (take i xs)
none_at_next xs i h z =
    let next = value_of_next xs i h in
    let none : get_or xs i 0 * base ^ i ≡ 0 * base ^ i = ap (λ n. n * base ^ i) z in
    omega arith
