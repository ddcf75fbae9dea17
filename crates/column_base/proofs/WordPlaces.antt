-- Which digits of words are 1.
use Rattle.std.proofs.Common.{◌≡◌, ◌+◌, ◌-◌, ◌*◌, ◌/◌, ◌%◌, ◌^◌, ◌<◌, ◌≤◌, ◌∙◌, ℕ, zero, suc, List, [], ◌∷◌, ◌++◌, Bool, true, false, cond, eqb, length, refl, sym, ap, arith, get_or, bit_and, w64, ⊎_elim, append-nil, filter}
use Rattle.std.specs.Int.{bit_at, trailing_zeros}
use Rattle.std.specs.List.{range_with_len}
use Rattle.std.specs.Int.Bits.{and_self}
use Rattle.std.proofs.lemmas.Bool.{cases_lt}
use Rattle.std.proofs.lemmas.Nat.{shr_split, and_block, pow_pos, mod_below}
use Rattle.std.proofs.lemmas.Nat.Bits.{bit_at-zero, bit_at_lowest, bit_at_cat_low, bit_at_cat_high, bit_at-trailing_zeros, same_from_bits_below}
use Rattle.column_base.specs.Bits.{set_indices_of}
use Rattle.column_base.specs.Words.{digit_at, one_if, ones_from, places_left}
use Rattle.column_base.proofs.WordDigits.{digit_in_word, one_if_past, one_if-test, Holds}
use Rattle.column_base.proofs.WordMasks.{bit_at-cut}

-- no digits, and one digit in front
ones_from-zero : (f : ℕ → ℕ) (a : ℕ) → ones_from f a 0 ≡ []
unfolding ones_from
ones_from-zero f a = refl

ones_from-step : (f : ℕ → ℕ) (a n : ℕ) → ones_from f a (suc n) ≡ cond (eqb (f a) 1) (a ∷ ones_from f (a + 1) n) (ones_from f (a + 1) n)
unfolding ones_from
ones_from-step f a n = refl

ones_from-first : (f : ℕ → ℕ) (a n : ℕ) → f a ≡ 1 → ones_from f a (suc n) ≡ a ∷ ones_from f (a + 1) n
ones_from-first f a n one = ones_from-step f a n ∙ rw one refl

-- equal digits
ones_from-same : (f g : ℕ → ℕ) (a n : ℕ) → ((i : ℕ) → a ≤ i → i < a + n → f i ≡ g i) → ones_from f a n ≡ ones_from g a n
ones_from-same f g a zero same = ones_from-zero f a ∙ sym (ones_from-zero g a)
ones_from-same f g a (suc n) same =
    ones_from-step f a n
    ∙ rw (same a (omega arith) (omega arith), ones_from-same f g (a + 1) n (λ i p q. same i (omega arith) (omega arith))) (sym (ones_from-step g a n))

-- digits that are all 0
ones_from-none : (f : ℕ → ℕ) (a n : ℕ) → ((i : ℕ) → a ≤ i → i < a + n → f i ≡ 0) → ones_from f a n ≡ []
ones_from-none f a zero none = ones_from-zero f a
ones_from-none f a (suc n) none =
    ones_from-step f a n ∙ rw (none a (omega arith) (omega arith)) (ones_from-none f (a + 1) n (λ i p q. none i (omega arith) (omega arith)))

-- digits in two parts
cond_append : (b : Bool) (a : ℕ) (xs ys : List ℕ) → cond b (a ∷ (xs ++ ys)) (xs ++ ys) ≡ cond b (a ∷ xs) xs ++ ys
cond_append true a xs ys = refl
cond_append false a xs ys = refl

ones_from-split : (f : ℕ → ℕ) (a m n : ℕ) → ones_from f a (m + n) ≡ ones_from f a m ++ ones_from f (a + m) n
ones_from-split f a zero n =
    let none : zero + n ≡ n = omega arith in
    let here : a + 0 ≡ a = omega arith in
    rw (none, here, ones_from-zero f a) refl
ones_from-split f a (suc m) n =
    let next : suc m + n ≡ suc (m + n) = omega arith in
    let there : a + suc m ≡ a + 1 + m = omega arith in
    rw (next, there, ones_from-step f a (m + n), ones_from-step f a m, ones_from-split f (a + 1) m n)
    (cond_append (eqb (f a) 1) a (ones_from f (a + 1) m) (ones_from f (a + 1 + m) n))

-- the places of true bits
ones_of_bits : (bits : List Bool) (a n : ℕ) → filter (λ i. get_or bits i false) (range_with_len a n) ≡ ones_from (λ i. one_if (get_or bits i false)) a n
ones_of_bits bits a zero = sym (ones_from-zero (λ i. one_if (get_or bits i false)) a)
ones_of_bits bits a (suc n) =
    rw (ones_of_bits bits (a + 1) n)
    (ap (λ b. cond b (a ∷ ones_from (λ i. one_if (get_or bits i false)) (a + 1) n) (ones_from (λ i. one_if (get_or bits i false)) (a + 1) n)) (one_if-test (get_or bits a false))
    ∙ sym (ones_from-step (λ i. one_if (get_or bits i false)) a n))

-- a word w with its lowest 1 at t
lowest : (w t : ℕ) → bit_at w t ≡ 1 → ((i : ℕ) → i < t → bit_at w i ≡ 0) → w ≡ (w / 2 ^ t / 2 * 2 + 1) * 2 ^ t + 0
lowest w t one none =
    let low : w % 2 ^ t ≡ 0 = same_from_bits_below t (w % 2 ^ t) 0 (mod_below w (2 ^ t) (pow_pos t)) (pow_pos t) (λ i h. bit_at-cut w t i h ∙ none i h ∙ sym (bit_at-zero i)) in
    let odd : w / 2 ^ t ≡ w / 2 ^ t / 2 * 2 + 1 = omega arith in
    sym (shr_split w t) ∙ rw low (ap (λ q. q * 2 ^ t + 0) odd)

odd_and_even : (q : ℕ) → bit_and (q * 2 + 1) (q * 2 + 0) ≡ q * 2 + 0
odd_and_even q = and_block 1 q q 1 0 (omega arith) (omega arith) ∙ ap (λ r. r * 2 + 0) (and_self q)

-- and without it
without_lowest : (w t : ℕ) → bit_at w t ≡ 1 → ((i : ℕ) → i < t → bit_at w i ≡ 0) → bit_and w (w - 1) ≡ (w / 2 ^ t / 2 * 2 + 0) * 2 ^ t + 0
without_lowest w t one none =
    let q = w / 2 ^ t / 2 in
    let whole : w ≡ (q * 2 + 1) * 2 ^ t + 0 = lowest w t one none in
    let less : w - 1 ≡ (q * 2 + 0) * 2 ^ t + (2 ^ t - 1) = omega (arith, whole, pow_pos t) in
    ap (λ x. bit_and x (w - 1)) whole
    ∙ ap (bit_and ((q * 2 + 1) * 2 ^ t + 0)) less
    ∙ and_block t (q * 2 + 1) (q * 2 + 0) 0 (2 ^ t - 1) (pow_pos t) (omega (arith, pow_pos t))
    ∙ ap (λ r. r * 2 ^ t + 0) (odd_and_even q)

-- without its lowest 1, the digits of w are 0 up to there, and those of w after it
without_lowest-none : (w t i : ℕ) → bit_at w t ≡ 1 → ((j : ℕ) → j < t → bit_at w j ≡ 0) → i < suc t → bit_at (bit_and w (w - 1)) i ≡ 0
without_lowest-none w t i one none h =
    let q = w / 2 ^ t / 2 in
    rw (without_lowest w t one none)
    (⊎_elim
    (λ (p : i < t). bit_at_cat_low (q * 2 + 0) t 0 i p ∙ bit_at-zero i)
    (λ (p : t ≤ i).
    let lowest_place : i - t ≡ 0 = omega arith in
    bit_at_cat_high (q * 2 + 0) t 0 i (pow_pos t) p ∙ rw lowest_place (bit_at_lowest (q * 2 + 0) ∙ omega arith))
    (cases_lt i t))

without_lowest-same : (w t i : ℕ) → bit_at w t ≡ 1 → ((j : ℕ) → j < t → bit_at w j ≡ 0) → t < i → bit_at w i ≡ bit_at (bit_and w (w - 1)) i
without_lowest-same w t i one none h =
    let q = w / 2 ^ t / 2 in
    ap (λ x. bit_at x i) (lowest w t one none)
    ∙ bit_at_cat_high (q * 2 + 1) t 0 i (pow_pos t) (omega arith)
    ∙ bit_at_cat_high q 1 1 (i - t) (omega arith) (omega arith)
    ∙ sym (ap (λ x. bit_at x i) (without_lowest w t one none)
    ∙ bit_at_cat_high (q * 2 + 0) t 0 i (pow_pos t) (omega arith)
    ∙ bit_at_cat_high q 1 0 (i - t) (omega arith) (omega arith))

-- the places of a word begin with that of its lowest 1, and the others are those of the word without it
ones_of_word : (w a : ℕ) → 0 < w → w < 2 ^ 64 → ones_from (λ i. bit_at w (i - a)) a 64 ≡ (a + trailing_zeros w64 w) ∷ ones_from (λ i. bit_at (bit_and w (w - 1)) (i - a)) a 64
ones_of_word w a some small =
    let t = trailing_zeros w64 w in
    let f : ℕ → ℕ = λ i. bit_at w (i - a) in
    let g : ℕ → ℕ = λ i. bit_at (bit_and w (w - 1)) (i - a) in
    let found = bit_at-trailing_zeros w64 w some small in
    let inside : t < 64 = found.0 in
    let size : 64 ≡ t + suc (63 - t) = omega arith in
    let other : 64 ≡ suc t + (63 - t) = omega arith in
    let place : a + t - a ≡ t = omega arith in
    let label : a + suc t ≡ a + t + 1 = omega arith in
    let front : ones_from f a t ≡ [] = ones_from-none f a t (λ i p q. found.2 (i - a) (omega arith)) in
    let first : ones_from f (a + t) (suc (63 - t)) ≡ (a + t) ∷ ones_from f (a + t + 1) (63 - t) = ones_from-first f (a + t) (63 - t) (rw place found.1) in
    let back : ones_from g a (suc t) ≡ [] = ones_from-none g a (suc t) (λ i p q. without_lowest-none w t (i - a) found.1 found.2 (omega arith)) in
    let rest : ones_from f (a + t + 1) (63 - t) ≡ ones_from g (a + suc t) (63 - t) =
    rw label (ones_from-same f g (a + t + 1) (63 - t) (λ i p q. without_lowest-same w t (i - a) found.1 found.2 (omega arith))) in
    ap (ones_from f a) size ∙ ones_from-split f a t (suc (63 - t)) ∙ ap (λ xs. xs ++ ones_from f (a + t) (suc (63 - t))) front ∙ first
    ∙ ap (λ xs. (a + t) ∷ xs) (rest ∙ sym (ap (ones_from g a) other ∙ ones_from-split g a (suc t) (63 - t) ∙ ap (λ xs. xs ++ ones_from g (a + suc t) (63 - t)) back))

-- what is left of the words, where the word at hand has a 1
pub left_next : (words : List ℕ) (current index : ℕ) → (current ≡ 0 → ⊥) → current < 2 ^ 64
    → places_left words current index ≡ (index * 64 + trailing_zeros w64 current) ∷ places_left words (bit_and current (current - 1)) index
unfolding places_left
left_next words current index some small =
    ap (λ xs. xs ++ ones_from (digit_at words) (index * 64 + 64) (length words * 64 - (index * 64 + 64))) (ones_of_word current (index * 64) (omega arith) small)

-- the digits of a word of 0s, and those of a word in its place
nothing_left : (index : ℕ) → ones_from (λ i. bit_at 0 (i - index * 64)) (index * 64) 64 ≡ []
nothing_left index = ones_from-none (λ i. bit_at 0 (i - index * 64)) (index * 64) 64 (λ i p q. bit_at-zero (i - index * 64))

ones_in_place : (words : List ℕ) (k : ℕ) → ones_from (λ i. bit_at (get_or words k 0) (i - k * 64)) (k * 64) 64 ≡ ones_from (digit_at words) (k * 64) 64
ones_in_place words k =
    ones_from-same (λ i. bit_at (get_or words k 0) (i - k * 64)) (digit_at words) (k * 64) 64
    (λ i p q.
    let place : i % 64 ≡ i - k * 64 = omega arith in
    sym (digit_in_word words k i (omega arith) ∙ ap (bit_at (get_or words k 0)) place))

-- where it has none, and there is a word after it
pub left_skip : (words : List ℕ) (current index : ℕ) → current ≡ 0 → index + 1 < length words → places_left words (get_or words (index + 1) 0) (index + 1) ≡ places_left words current index
unfolding places_left
left_skip words current index none more =
    let f = digit_at words in
    let rest = length words * 64 - ((index + 1) * 64 + 64) in
    let start : index * 64 + 64 ≡ (index + 1) * 64 = omega arith in
    let size : length words * 64 - (index + 1) * 64 ≡ 64 + rest = omega arith in
    rw (none, nothing_left index, start, ones_in_place words (index + 1)) (sym (ap (ones_from f ((index + 1) * 64)) size ∙ ones_from-split f ((index + 1) * 64) 64 rest))

-- where it has none, and is the last
pub left_end : (words : List ℕ) (current index : ℕ) → current ≡ 0 → length words ≤ index + 1 → places_left words current index ≡ []
unfolding places_left
left_end words current index none all =
    rw (none, nothing_left index) (ones_from-none (digit_at words) (index * 64 + 64) (length words * 64 - (index * 64 + 64)) (λ i p q. absurd (omega arith)))

-- at the start all places of true bits are left
pub left_start : {n : ℕ} {words : List ℕ} {bits : List Bool} (items : List ℕ) → Holds n words bits → items ≡ words → places_left items (get_or items 0 0) 0 ≡ set_indices_of bits
unfolding places_left
left_start {n} {words} {bits} items holds same =
    let f = digit_at items in
    let least : length items ≡ (length bits + 63) / 64 = ap length same ∙ holds.packs.least in
    let digit : (i : ℕ) → f i ≡ one_if (get_or bits i false) = λ i. ap (λ ws. digit_at ws i) same ∙ holds.packs.digit i in
    let rest = length items * 64 - 64 in
    let past = 64 + rest - length bits in
    let size : 64 + rest ≡ length bits + past = omega arith in
    let none : ones_from f (0 + length bits) past ≡ [] = ones_from-none f (0 + length bits) past (λ i p q. digit i ∙ one_if_past bits i (omega arith)) in
    let front : ones_from f 0 (length bits) ≡ set_indices_of bits =
    ones_from-same f (λ i. one_if (get_or bits i false)) 0 (length bits) (λ i p q. digit i) ∙ sym (ones_of_bits bits 0 (length bits)) in
    ap (λ xs. xs ++ ones_from f 64 rest) (ones_in_place items 0)
    ∙ sym (ones_from-split f 0 64 rest)
    ∙ ap (ones_from f 0) size
    ∙ ones_from-split f 0 (length bits) past
    ∙ ap (λ xs. ones_from f 0 (length bits) ++ xs) none
    ∙ append-nil (ones_from f 0 (length bits))
    ∙ front
