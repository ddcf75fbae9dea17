-- The number of binary digits is the least power of two above, and a half has one digit fewer.
use Rattle.std.proofs.Common.{◌≡◌, ℕ, zero, suc, ◌+◌, ◌<◌, ◌≤◌, ◌/◌, ◌^◌, add-one, arith}
use Rattle.column_core.specs.Digits.{IsDigits, halvings, digits}

-- a smaller number takes no more halvings
halvings-mono : (f g m n : ℕ) → m ≤ n → n ≤ g → halvings f m ≤ halvings g n
halvings-mono zero g m n h k = omega arith
halvings-mono (suc f) g zero n h k = omega arith
halvings-mono (suc f) zero (suc m) n h k = omega arith
halvings-mono (suc f) (suc g) (suc m) zero h k = omega arith
halvings-mono (suc f) (suc g) (suc m) (suc n) h k =
    let order : suc m / 2 ≤ suc n / 2 = omega arith in
    let within : suc n / 2 ≤ g = omega arith in
    let rest : halvings f (suc m / 2) ≤ halvings g (suc n / 2) = halvings-mono f g (suc m / 2) (suc n / 2) order within in omega arith

-- a number below 2 ^ k takes at most k halvings
halvings-least : (f n k : ℕ) → n < 2 ^ k → halvings f n ≤ k
halvings-least zero n k h = omega arith
halvings-least (suc f) zero k h = omega arith
halvings-least (suc f) (suc n) zero h = omega arith
halvings-least (suc f) (suc n) (suc k) h =
    let half : suc n / 2 < 2 ^ k = omega arith in
    let rest : halvings f (suc n / 2) ≤ k = halvings-least f (suc n / 2) k half in omega arith

-- and a number that takes k halvings is below 2 ^ k
halvings-enough : (f n : ℕ) → n ≤ f → n < 2 ^ halvings f n
halvings-enough zero n h = omega arith
halvings-enough (suc f) zero h = omega arith
halvings-enough (suc f) (suc n) h =
    let within : suc n / 2 ≤ f = omega arith in
    let rest : suc n / 2 < 2 ^ halvings f (suc n / 2) = halvings-enough f (suc n / 2) within in rw add-one (omega arith)

-- it is the least k with n < 2 ^ k
pub IsDigits-digits : (n : ℕ) → IsDigits n (digits n)
unfolding digits
IsDigits-digits n = record { enough = halvings-enough n n (omega arith); least = λ j h. halvings-least n n j h }

-- no other number is
pub digits_is : (n k : ℕ) → IsDigits n k → digits n ≡ k
digits_is n k is =
    let own = IsDigits-digits n in
    let below : digits n ≤ k = own.least k is.enough in
    let above : k ≤ digits n = is.least (digits n) own.enough in omega arith

pub digits-least : (n k : ℕ) → n < 2 ^ k → digits n ≤ k
digits-least n k h = (IsDigits-digits n).least k h

-- a number of at most the half has one digit fewer
pub digits-half : (m n : ℕ) → 0 < n → m ≤ n / 2 → digits m + 1 ≤ digits n
unfolding digits
digits-half m zero p h = omega arith
digits-half m (suc n) p h =
    let within : suc n / 2 ≤ n = omega arith in
    let rest : halvings m m ≤ halvings n (suc n / 2) = halvings-mono m n m (suc n / 2) h within in omega arith
