-- Run lengths of one byte or two.
use Rattle.std.proofs.Common.{◌≡◌, ℕ, suc, ◌+◌, ◌-◌, ◌*◌, ◌/◌, ◌%◌, ◌^◌, ◌<◌, ◌≤◌, List, [], ◌∷◌, ◌++◌, length, refl, sym, ap, ◌∙◌, arith, inl, inr}
use Rattle.std.proofs.lemmas.Bool.{cases_lt, le-leb, le-ltb, lt-leb, lt-ltb}
use Rattle.std.proofs.Math.Dec.{leb}
use Rattle.std.specs.Int.{from_bool}
use Rattle.column_fields.specs.Varint.{varint, varint_within}

within_one : (k n : ℕ) → n < 128 → varint_within (suc k) n ≡ n ∷ []
unfolding varint_within
within_one k n lt = rw (lt-ltb n 128 lt) refl

within_more : (k n : ℕ) → 128 ≤ n → varint_within (suc k) n ≡ (n % 128 + 128) ∷ varint_within k (n / 128)
unfolding varint_within
within_more k n ge = rw (le-ltb n 128 ge) refl

pub varint_one : (n : ℕ) → n < 128 → varint n ≡ n ∷ []
unfolding varint
varint_one n lt = within_one 9 n lt

pub varint_two : (n : ℕ) → 128 ≤ n → n / 128 < 128 → varint n ≡ (n % 128 + 128) ∷ (n / 128) ∷ []
unfolding varint
varint_two n ge lt = within_more 9 n ge ∙ ap (λ (t : List ℕ). (n % 128 + 128) ∷ t) (within_one 8 (n / 128) lt)

pub one_byte : (n : ℕ) (bytes rest : List ℕ) → n < 128 → bytes ≡ n ∷ rest → bytes ≡ varint n ++ rest
one_byte n bytes rest lt e = e ∙ ap (λ (t : List ℕ). t ++ rest) (sym (varint_one n lt))

pub two_bytes : (low high n : ℕ) (bytes after rest : List ℕ) → 128 ≤ low → low < 256 → 0 < high → high < 128 → n ≡ low - 128 + high * 128 → bytes ≡ low ∷ after → after ≡ high ∷ rest → bytes ≡ varint n ++ rest
two_bytes low high n bytes after rest ge lt some few is b a =
    let digit : n % 128 + 128 ≡ low = omega (arith, is) in
    let upper : n / 128 ≡ high = omega (arith, is) in
    let form : varint n ≡ low ∷ high ∷ [] = varint_two n (omega (arith, is)) (omega (arith, upper)) ∙ ap (λ (x : ℕ). x ∷ (n / 128) ∷ []) digit ∙ ap (λ (x : ℕ). low ∷ x ∷ []) upper in
    b ∙ ap (λ (t : List ℕ). low ∷ t) a ∙ ap (λ (t : List ℕ). t ++ rest) (sym form)

-- ---- one byte, and one more for each power of 128 that the number reaches

long_one : (k n : ℕ) → n < 128 → length (varint_within (suc k) n) ≡ 1
long_one k n lt = ap length (within_one k n lt)

long_more : (k n : ℕ) → 128 ≤ n → length (varint_within (suc k) n) ≡ 1 + length (varint_within k (n / 128))
long_more k n ge = omega (arith, ap length (within_more k n ge))

long_two : (k n : ℕ) → 128 ≤ n → n < 16384 → length (varint_within (suc (suc k)) n) ≡ 2
long_two k n ge lt = omega (arith, long_more (suc k) n ge, long_one k (n / 128) (omega arith))

long_three : (k n : ℕ) → 16384 ≤ n → n < 2097152 → length (varint_within (suc (suc (suc k))) n) ≡ 3
long_three k n ge lt = omega (arith, long_more (suc (suc k)) n (omega arith), long_two k (n / 128) (omega arith) (omega arith))

long_four : (k n : ℕ) → 2097152 ≤ n → n < 268435456 → length (varint_within (suc (suc (suc (suc k)))) n) ≡ 4
long_four k n ge lt = omega (arith, long_more (suc (suc (suc k))) n (omega arith), long_three k (n / 128) (omega arith) (omega arith))

long_five : (k n : ℕ) → 268435456 ≤ n → n < 2 ^ 32 → length (varint_within (suc (suc (suc (suc (suc k))))) n) ≡ 5
long_five k n ge lt = omega (arith, long_more (suc (suc (suc (suc k)))) n (omega arith), long_four k (n / 128) (omega arith) (omega arith))

unset : (power n flag : ℕ) → flag ≡ from_bool (leb power n) → n < power → flag ≡ 0
unset power n flag is lt = is ∙ ap from_bool (lt-leb power n lt)

set : (power n flag : ℕ) → flag ≡ from_bool (leb power n) → power ≤ n → flag ≡ 1
set power n flag is ge = is ∙ ap from_bool (le-leb power n ge)

pub long_u8 : (n a : ℕ) → n < 2 ^ 8 → a ≡ from_bool (leb 128 n) → 1 + a ≡ length (varint n)
unfolding varint
long_u8 n a lt p =
    elim (cases_lt n 128) [
      | inl below ↦ omega (arith, long_one 9 n below, unset 128 n a p below)
      | inr above ↦ omega (arith, long_two 8 n above (omega arith), set 128 n a p above)
    ]

pub long_u16 : (n a b : ℕ) → n < 2 ^ 16 → a ≡ from_bool (leb 128 n) → b ≡ from_bool (leb 16384 n) → 1 + (a + b) ≡ length (varint n)
unfolding varint
long_u16 n a b lt p q =
    elim (cases_lt n 128) [
      | inl below ↦ omega (arith, long_one 9 n below, unset 128 n a p below, unset 16384 n b q (omega arith))
      | inr above ↦ elim (cases_lt n 16384) [
        | inl below ↦ omega (arith, long_two 8 n above below, set 128 n a p above, unset 16384 n b q below)
        | inr higher ↦ omega (arith, long_three 7 n higher (omega arith), set 128 n a p above, set 16384 n b q higher)
      ]
    ]

pub long_u32 : (n a b c d : ℕ) → n < 2 ^ 32 → a ≡ from_bool (leb 128 n) → b ≡ from_bool (leb 16384 n) → c ≡ from_bool (leb 2097152 n) → d ≡ from_bool (leb 268435456 n) → 1 + (a + b + c + d) ≡ length (varint n)
unfolding varint
long_u32 n a b c d lt p q r s =
    elim (cases_lt n 128) [
      | inl below ↦ omega (arith, long_one 9 n below, unset 128 n a p below, unset 16384 n b q (omega arith), unset 2097152 n c r (omega arith), unset 268435456 n d s (omega arith))
      | inr one ↦ elim (cases_lt n 16384) [
        | inl below ↦ omega (arith, long_two 8 n one below, set 128 n a p one, unset 16384 n b q below, unset 2097152 n c r (omega arith), unset 268435456 n d s (omega arith))
        | inr two ↦ elim (cases_lt n 2097152) [
          | inl below ↦ omega (arith, long_three 7 n two below, set 128 n a p one, set 16384 n b q two, unset 2097152 n c r below, unset 268435456 n d s (omega arith))
          | inr three ↦ elim (cases_lt n 268435456) [
            | inl below ↦ omega (arith, long_four 6 n three below, set 128 n a p one, set 16384 n b q two, set 2097152 n c r three, unset 268435456 n d s below)
            | inr four ↦ omega (arith, long_five 5 n four lt, set 128 n a p one, set 16384 n b q two, set 2097152 n c r three, set 268435456 n d s four)
          ]
        ]
      ]
    ]
