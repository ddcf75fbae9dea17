-- How many of a run of digits are 1.
use Rattle.std.proofs.Common.{◌≡◌, ◌≢◌, ◌+◌, ◌-◌, ◌*◌, ◌/◌, ◌%◌, ◌^◌, ◌<◌, ◌≤◌, ◌∙◌, ◌∷◌, [], ℕ, List, Bool, false, length, refl, sym, ap, arith, get_or, zero, suc, take, drop, Fits, w64, length-take, length-drop, slice_range, count_by, add-one, zero-add, add-zero, ⊎_elim}
use Rattle.std.specs.Int.{bit_at}
use Rattle.std.proofs.lemmas.Bool.{cases_lt}
use Rattle.std.proofs.lemmas.List.{get_or_past, get_or-drop, get_or-take}
use Rattle.std.specs.List.{sum_by}
use Rattle.std.specs.Int.Count.{ones, ones_step}
use Rattle.std.specs.Prelude.{count_ones}
use Rattle.std.proofs.lemmas.List.Edits.{length-between, get_or-between}
use Rattle.std.proofs.lemmas.List.Sums.{sum_by-cons, count_by-le-length}
use Rattle.std.proofs.lemmas.Nat.{shr_below, mod_below, pow_pos}
use Rattle.std.proofs.lemmas.Nat.Bits.{bit_at-suc, bit_at_lowest}
use Rattle.column_base.specs.Words.{digit_at, one_if, Packs}
use Rattle.column_base.proofs.WordDigits.{Holds, digit_in_word, digit_part, digit_at-le, one_if_past}
use Rattle.column_base.proofs.WordMasks.{bit_at-shifted, bit_at-cut}

-- the sum of f over the n numbers from a on
pub sum_from : (ℕ → ℕ) → ℕ → ℕ → ℕ
sum_from f a zero = 0
sum_from f a (suc n) = f a + sum_from f (suc a) n

-- equal items, sums in two parts, sums of 0s and 1s
pub sum_from-same : (f g : ℕ → ℕ) (a b n : ℕ) → ((i : ℕ) → i < n → f (a + i) ≡ g (b + i)) → sum_from f a n ≡ sum_from g b n
unfolding sum_from
sum_from-same f g a b zero same = refl
sum_from-same f g a b (suc n) same =
    let first : f a ≡ g b = simp add-zero at (same 0 (omega arith)) in
    let rest : sum_from f (suc a) n ≡ sum_from g (suc b) n = sum_from-same f g (suc a) (suc b) n (λ i h.
    let left : suc a + i ≡ a + suc i = omega arith in
    let right : suc b + i ≡ b + suc i = omega arith in
    rw (left, right) (same (suc i) (omega arith))) in
    rw (first, rest) refl

pub sum_from-split : (f : ℕ → ℕ) (a m n : ℕ) → sum_from f a (m + n) ≡ sum_from f a m + sum_from f (a + m) n
unfolding sum_from
sum_from-split f a zero n = rw (add-zero, zero-add, zero-add) refl
sum_from-split f a (suc m) n =
    let here : suc m + n ≡ suc (m + n) = omega arith in
    let there : a + suc m ≡ suc a + m = omega arith in
    rw (here, there) (omega (arith, sum_from-split f (suc a) m n))

pub sum_from-le : (f : ℕ → ℕ) (a n : ℕ) → ((i : ℕ) → f i ≤ 1) → sum_from f a n ≤ n
unfolding sum_from
sum_from-le f a zero small = omega arith
sum_from-le f a (suc n) small = omega (arith, small a, sum_from-le f (suc a) n small)

sum_from-none : (f : ℕ → ℕ) (a n : ℕ) → ((i : ℕ) → a ≤ i → f i ≡ 0) → sum_from f a n ≡ 0
unfolding sum_from
sum_from-none f a zero none = refl
sum_from-none f a (suc n) none = rw (none a (omega arith), sum_from-none f (suc a) n (λ i h. none i (omega arith))) refl

-- the 1s of a number
pub count_ones-sum : (k w : ℕ) → w < 2 ^ k → count_ones w ≡ sum_from (bit_at w) 0 k
unfolding sum_from count_ones
count_ones-sum zero w small =
    let none : w ≡ 0 = omega arith in
    rw none refl
count_ones-sum (suc k) w small =
    let half : w / 2 < 2 ^ k = shr_below w k 1 (rw (add-one k) small) in
    let rest : sum_from (bit_at (w / 2)) 0 k ≡ sum_from (bit_at w) 1 k = sum_from-same (bit_at (w / 2)) (bit_at w) 0 1 k (λ i h.
    let left : 0 + i ≡ i = omega arith in
    let right : 1 + i ≡ suc i = omega arith in
    rw (left, right) (sym (bit_at-suc w i))) in
    ones_step w ∙ rw (bit_at_lowest w) (ap (λ r. w % 2 + r) (count_ones-sum k (w / 2) half ∙ rest))

-- the digits of words
digit_first : (w : ℕ) (words : List ℕ) (i : ℕ) → i < 64 → digit_at (w ∷ words) i ≡ bit_at w i
unfolding digit_at
digit_first w words i h =
    let word : i / 64 ≡ 0 = omega arith in
    let place : i % 64 ≡ i = omega arith in
    rw (word, place) refl

digit_rest : (w : ℕ) (words : List ℕ) (i : ℕ) → digit_at (w ∷ words) (64 + i) ≡ digit_at words i
unfolding digit_at
digit_rest w words i =
    let word : (64 + i) / 64 ≡ suc (i / 64) = omega arith in
    let place : (64 + i) % 64 ≡ i % 64 = omega arith in
    rw (word, place) refl

-- the 1s of words
pub count_of_words : (words : List ℕ) → ((i : ℕ) → get_or words i 0 < 2 ^ 64) → sum_by count_ones words ≡ sum_from (digit_at words) 0 (length words * 64)
unfolding sum_from
count_of_words [] fits = refl
count_of_words (w ∷ words) fits =
    let size : length (w ∷ words) * 64 ≡ 64 + length words * 64 = omega arith in
    let here : sum_from (bit_at w) 0 64 ≡ sum_from (digit_at (w ∷ words)) 0 64 = sum_from-same (bit_at w) (digit_at (w ∷ words)) 0 0 64 (λ i h. rw (zero-add i) (sym (digit_first w words i h))) in
    let rest : sum_from (digit_at words) 0 (length words * 64) ≡ sum_from (digit_at (w ∷ words)) (0 + 64) (length words * 64) =
    sum_from-same (digit_at words) (digit_at (w ∷ words)) 0 (0 + 64) (length words * 64) (λ i h. rw (zero-add i) (sym (digit_rest w words i))) in
    rw size
    (sum_by-cons count_ones w words
    ∙ rw (count_ones-sum 64 w (fits 0), count_of_words words (λ i. fits (suc i)), here, rest) (sym (sum_from-split (digit_at (w ∷ words)) 0 64 (length words * 64))))

-- the true bits of a list
one_if-rest : (b : Bool) (bits : List Bool) (i : ℕ) → one_if (get_or (b ∷ bits) (1 + i) false) ≡ one_if (get_or bits i false)
one_if-rest b bits i = let next : 1 + i ≡ suc i = omega arith in rw next refl

pub count_by-sum : (bits : List Bool) → count_by (λ b. b) bits ≡ sum_from (λ i. one_if (get_or bits i false)) 0 (length bits)
unfolding sum_from
count_by-sum [] = refl
count_by-sum (b ∷ bits) =
    let rest = sum_from-same (λ i. one_if (get_or bits i false)) (λ i. one_if (get_or (b ∷ bits) i false)) 0 1 (length bits) (λ i h. rw (zero-add i) (sym (one_if-rest b bits i))) in
    sum_by-cons one_if b bits ∙ ap (λ r. one_if b + r) (count_by-sum bits ∙ rest)

-- the true bits of a range, by digits
pub count_of_range : (words : List ℕ) (bits : List Bool) (a b : ℕ) → Packs words bits → a ≤ b → b ≤ length bits
    → count_by (λ b. b) (slice_range bits a b) ≡ sum_from (digit_at words) a (b - a)
count_of_range words bits a b packs ordered within =
    count_by-sum (slice_range bits a b)
    ∙ rw (length-between bits a b within)
    (sum_from-same (λ i. one_if (get_or (slice_range bits a b) i false)) (digit_at words) 0 a (b - a)
    (λ i h. rw (zero-add i) (ap one_if (get_or-between bits a b i false (omega arith)) ∙ sym (packs.digit (a + i)))))

-- the 1s of a range in one word
pub count_in_word : (words : List ℕ) (k low n : ℕ) → low + n ≤ 64 → count_ones (get_or words k 0 / 2 ^ low % 2 ^ n) ≡ sum_from (digit_at words) (k * 64 + low) n
count_in_word words k low n within =
    let w = get_or words k 0 in
    count_ones-sum n (w / 2 ^ low % 2 ^ n) (mod_below (w / 2 ^ low) (2 ^ n) (pow_pos n))
    ∙ sum_from-same (bit_at (w / 2 ^ low % 2 ^ n)) (digit_at words) 0 (k * 64 + low) n
    (λ i h.
    let place : (k * 64 + low + i) % 64 ≡ low + i = omega arith in
    rw (zero-add i) (bit_at-cut (w / 2 ^ low) n i h ∙ bit_at-shifted w low i ∙ sym (digit_in_word words k (k * 64 + low + i) (omega arith) ∙ ap (bit_at w) place)))

-- the 1s of some of the words
pub count_of_part : (words : List ℕ) (m n : ℕ) → m + n ≤ length words → ((i : ℕ) → get_or (take n (drop m words)) i 0 < 2 ^ 64)
    → sum_by count_ones (take n (drop m words)) ≡ sum_from (digit_at words) (m * 64) (n * 64)
count_of_part words m n within fits =
    let size : length (take n (drop m words)) ≡ n = omega (arith, length-take n (drop m words), length-drop m words) in
    count_of_words (take n (drop m words)) fits
    ∙ rw size (sum_from-same (digit_at (take n (drop m words))) (digit_at words) 0 (m * 64) (n * 64) (λ i h. rw (zero-add i) (digit_part words m n i h)))

-- some of the words are words
pub part_fits : (words : List ℕ) (m n : ℕ) → ((i : ℕ) → Fits w64 (get_or words i 0)) → (i : ℕ) → get_or (take n (drop m words)) i 0 < 2 ^ 64
part_fits words m n fits i = ⊎_elim
    (λ (h : i < n). rw (get_or-take n (drop m words) i 0 h, get_or-drop m words i 0) (fits (m + i)).fits)
    (λ (h : n ≤ i). let size = length-take n (drop m words) in rw (get_or_past (take n (drop m words)) i 0 (omega arith)) (omega arith))
    (cases_lt i n)

-- of n digits at most n are 1
sum_of_digits-le : (words : List ℕ) (a n : ℕ) → sum_from (digit_at words) a n ≤ n
sum_of_digits-le words a n = sum_from-le (digit_at words) a n (digit_at-le words)

-- the 1s of all words are the true bits, since there is none after the last bit; the count fits a word
pub true_count_of : {n : ℕ} {words : List ℕ} {bits : List Bool} (items : List ℕ) → Holds n words bits → items ≡ words → ((i : ℕ) → Fits w64 (get_or items i 0))
    → sum_by count_ones items ≡ count_by (λ b. b) bits
true_count_of {n} {words} {bits} items holds same fits =
    let packs = holds.packs in
    let least : length items ≡ (length bits + 63) / 64 = ap length same ∙ packs.least in
    let digit : (i : ℕ) → digit_at items i ≡ one_if (get_or bits i false) = λ i. ap (λ ws. digit_at ws i) same ∙ packs.digit i in
    let rest = length items * 64 - length bits in
    let whole : length items * 64 ≡ length bits + rest = omega arith in
    let counted : sum_by count_ones items ≡ sum_from (digit_at items) 0 (length items * 64) = count_of_words items (λ i. (fits i).fits) in
    let split : sum_from (digit_at items) 0 (length items * 64) ≡ sum_from (digit_at items) 0 (length bits) + sum_from (digit_at items) (0 + length bits) rest = ap (sum_from (digit_at items) 0) whole ∙ sum_from-split (digit_at items) 0 (length bits) rest in
    let none : sum_from (digit_at items) (0 + length bits) rest ≡ 0 = sum_from-none (digit_at items) (0 + length bits) rest (λ i h. digit i ∙ one_if_past bits i (omega arith)) in
    let front : sum_from (digit_at items) 0 (length bits) ≡ count_by (λ b. b) bits = sum_from-same (digit_at items) (λ i. one_if (get_or bits i false)) 0 0 (length bits) (λ i h. digit (0 + i)) ∙ sym (count_by-sum bits) in
    omega arith

pub true_count_fits : {n : ℕ} {words : List ℕ} {bits : List Bool} (items : List ℕ) → Holds n words bits → n < 2 ^ 64 → items ≡ words → ((i : ℕ) → Fits w64 (get_or items i 0))
    → sum_by count_ones items < 2 ^ 64
true_count_fits {n} {words} {bits} items holds small same fits =
    omega (arith, true_count_of items holds same fits, count_by-le-length (λ (b : Bool). b) bits, holds.len)

-- a range has no more true bits than bits
pub range_le : (bits : List Bool) (a b : ℕ) → b ≤ length bits → count_by (λ b. b) (slice_range bits a b) ≤ b - a
range_le bits a b within = omega (arith, count_by-le-length (λ (b : Bool). b) (slice_range bits a b), length-between bits a b within)

-- the whole words in the middle of a range
pub middle_fits : (items : List ℕ) (m n stop : ℕ) → m + n ≤ length items → n * 64 ≤ stop → stop < 2 ^ 64 → ((i : ℕ) → Fits w64 (get_or items i 0))
    → sum_by count_ones (take n (drop m items)) < 2 ^ 64
middle_fits items m n stop within low small fits =
    omega (arith, count_of_part items m n within (part_fits items m n fits), sum_of_digits-le items (m * 64) (n * 64))

-- a range in one word
pub range_in_word : {n : ℕ} {words : List ℕ} {bits : List Bool} (items : List ℕ) (start stop : ℕ) → Holds n words bits → items ≡ words → start ≤ stop → stop ≤ length bits
    → start / 64 ≡ stop / 64
    → count_ones (get_or items (start / 64) 0 / 2 ^ (start % 64) % 2 ^ (stop % 64 - start % 64)) ≡ count_by (λ b. b) (slice_range bits start stop)
range_in_word {n} {words} {bits} items start stop holds same ordered within one =
    let place : start / 64 * 64 + start % 64 ≡ start = omega arith in
    let size : stop % 64 - start % 64 ≡ stop - start = omega arith in
    rw same (count_in_word words (start / 64) (start % 64) (stop % 64 - start % 64) (omega arith) ∙ rw (place, size) (sym (count_of_range words bits start stop holds.packs ordered within)))

-- a range in several words
pub range_in_words : {n : ℕ} {words : List ℕ} {bits : List Bool} (items : List ℕ) (start stop : ℕ) → Holds n words bits → items ≡ words → start ≤ stop → stop ≤ length bits
    → start / 64 ≢ stop / 64
    → ((i : ℕ) → get_or (take (stop / 64 - (start / 64 + 1)) (drop (start / 64 + 1) items)) i 0 < 2 ^ 64)
    → count_ones (get_or items (start / 64) 0 / 2 ^ (start % 64) % 2 ^ (64 - start % 64))
    + sum_by count_ones (take (stop / 64 - (start / 64 + 1)) (drop (start / 64 + 1) items))
    + sum_from (digit_at items) (stop / 64 * 64 + 0) (stop % 64 - 0)
    ≡ count_by (λ b. b) (slice_range bits start stop)
range_in_words {n} {words} {bits} items start stop holds same ordered within several fits =
    let packs = holds.packs in
    let least : length items ≡ (length bits + 63) / 64 = ap length same ∙ packs.least in
    let count : ℕ = stop / 64 - (start / 64 + 1) in
    let f = digit_at items in
    let front = count_in_word items (start / 64) (start % 64) (64 - start % 64) (omega arith) in
    let middle = count_of_part items (start / 64 + 1) count (omega arith) fits in
    let place : start / 64 * 64 + start % 64 ≡ start = omega arith in
    let next : start + (64 - start % 64) ≡ (start / 64 + 1) * 64 = omega arith in
    let last : (start / 64 + 1) * 64 + count * 64 ≡ stop / 64 * 64 + 0 = omega arith in
    let size : stop - start ≡ 64 - start % 64 + (count * 64 + (stop % 64 - 0)) = omega arith in
    let whole : sum_from f start (stop - start) ≡ sum_from f start (64 - start % 64) + (sum_from f ((start / 64 + 1) * 64) (count * 64) + sum_from f (stop / 64 * 64 + 0) (stop % 64 - 0)) =
    rw (size, sum_from-split f start (64 - start % 64) (count * 64 + (stop % 64 - 0)), next, sum_from-split f ((start / 64 + 1) * 64) (count * 64) (stop % 64 - 0), last) refl in
    let range : count_by (λ b. b) (slice_range bits start stop) ≡ sum_from f start (stop - start) =
    count_of_range words bits start stop holds.packs ordered within ∙ ap (λ ws. sum_from (digit_at ws) start (stop - start)) (sym same) in
    rw (front, middle, place) (omega (arith, whole, range))
