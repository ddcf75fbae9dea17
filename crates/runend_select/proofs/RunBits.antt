-- Bits that are set where runs end, and what their counts say.
use Rattle.std.proofs.Common.{◌≡◌, ◌≢◌, ◌∙◌, ℕ, zero, suc, ◌+◌, ◌-◌, ◌*◌, ◌/◌, ◌%◌, ◌^◌, ◌<◌, ◌≤◌, List, [], ◌∷◌, Bool, length, get_or, set, replicate, min, false, bit_or, slice_index, inl, inr, refl, sym, ap, subst, arith, zero-add, add-zero, cond, eqb, true}
use Rattle.std.specs.Prelude.{count_ones}
use Rattle.std.specs.Int.{bit_at}
use Rattle.std.specs.List.Sorted.{IsStrictlyIncreasing}
use Rattle.std.proofs.lemmas.Bool.{cases_lt, cases_eq, eq-eqb, ne_eqb}
use Rattle.std.specs.Int.Count.{ones_step}
use Rattle.std.proofs.Math.Nat.{add-mul, mul_assoc, pow-suc}
use Rattle.std.proofs.lemmas.Nat.{div-add-mod', mod-mul-add, mod_below, pow-add, pow_pos, shl_below}
use Rattle.std.proofs.lemmas.List.{length-replicate, length-set}
use Rattle.std.proofs.lemmas.List.Sums.{count_by-le-length, sum_by-cons}
use Rattle.std.proofs.lemmas.List.Kept.{AllPairs-from_increasing}
use Rattle.std.proofs.lemmas.List.FromFn.{get_or-map-range_with_len, length-map-range_with_len}
use Rattle.column_base.specs.Words.{digit_at, first_bits, one_if}
use Rattle.column_base.proofs.WordDigits.{digit_in_word, digit_of_bit, digit_set_same, digit_set_other, digit_replicate, digit_past, length-first_bits}
use Rattle.std.proofs.lemmas.Nat.Bits.{bit_at-zero}
use Rattle.column_base.proofs.WordGrowth.{shifted_bit-same, shifted_bit-other}
use Rattle.column_base.proofs.WordMasks.{set_digit}
use Rattle.column_base.proofs.WordCounts.{count_by-sum, count_in_word, sum_from, sum_from-same, sum_from-split}
use Rattle.runend_windows.specs.Window.{IsWindow, run_at}
use Rattle.runend_windows.proofs.RunAt.{ended_before, ends_past, run_at_is, run_of_row_within, runs_of_rows}
use Rattle.runend_select.specs.Ranks.{AreCounted, AreMarked, ones_before}

-- from a run that no earlier one follows, the run of a position is that run, or the next where it ends there
pub run_more : (ends : List ℕ) (p r d : ℕ) → IsStrictlyIncreasing ends → r < length ends → ((k : ℕ) → k < r → slice_index ends k < p) → p ≤ slice_index ends r
    → (slice_index ends r ≡ p → d ≡ 1) → (((k : ℕ) → k < length ends → slice_index ends k ≢ p) → d ≡ 0) → run_at ends p ≡ r + d
run_more ends p r d increasing within before past ends_here none = elim (cases_eq (slice_index ends r) p) [
  | inl here ↦
      let one = ends_here here in
      run_at_is ends p (r + d) (omega arith)
      (λ k h. elim (cases_lt k r) [
        | inl earlier ↦ let b = before k earlier in omega arith
        | inr from ↦ let same : k ≡ r = omega arith in rw same (omega arith)
      ])
      (λ h. let next = AllPairs-from_increasing ends increasing r (r + d) 0 (omega arith) h in omega arith)
  | inr other ↦
      let no = none (λ k h. elim (cases_lt k r) [
        | inl earlier ↦ let b = before k earlier in λ e. absurd (omega arith)
        | inr from ↦ elim (cases_eq k r) [
          | inl same ↦ rw same other
          | inr apart ↦ let next = AllPairs-from_increasing ends increasing r k 0 (omega arith) h in λ e. absurd (omega arith)
        ]
      ]) in
      let here : r + d ≡ r = omega arith in
      rw here (run_at_is ends p r (omega arith) (λ k h. let b = before k h in omega arith) (λ h. omega arith))
]

-- the same of a row and its bit
digit_next : (ends : List ℕ) (offset count : ℕ) (words : List ℕ) (row r : ℕ) → IsWindow ends offset count → AreMarked ends offset count words → row < count → r < length ends
    → ((k : ℕ) → k < r → slice_index ends k < offset + row) → offset + row ≤ slice_index ends r → run_at ends (offset + row) ≡ r + digit_at words row
digit_next ends offset count words row r window marked within some before past =
    run_more ends (offset + row) r (digit_at words row) window.increasing some before past
    (λ here. let place : slice_index ends r - offset ≡ row = omega arith in subst (λ (i : ℕ). digit_at words i ≡ 1) place (marked.ones r some (omega arith)))
    (λ none. marked.blank row none)

-- the sum of one digit
sum_from-one : (f : ℕ → ℕ) (a : ℕ) (bit : Bool) → f a ≡ one_if bit → sum_from f a 1 ≡ f a
sum_from-one f a bit is =
    sum_from-same f (λ i. one_if (get_or (bit ∷ []) i false)) a 0 1 (λ i h. let first : i ≡ 0 = omega arith in rw first (rw add-zero is))
    ∙ sym (count_by-sum (bit ∷ [])) ∙ sum_by-cons one_if bit [] ∙ rw add-zero (sym is)

digit_sum : (words : List ℕ) (i : ℕ) → sum_from (digit_at words) i 1 ≡ digit_at words i
digit_sum words i = sum_from-one (digit_at words) i (get_or (first_bits (i + 1) words) i false) (digit_of_bit (i + 1) words i (omega arith))

-- as many bits up to a row are set as runs ended there
pub digits_to_row : (ends : List ℕ) (offset count : ℕ) (words : List ℕ) (row : ℕ) → IsWindow ends offset count → AreMarked ends offset count words → row < count
    → sum_from (digit_at words) 0 (row + 1) ≡ run_at ends (offset + row)
digits_to_row ends offset count words zero window marked within =
    let first = window.first within in
    let next = digit_next ends offset count words 0 0 window marked within (runs_of_rows ends offset count window within) (λ k h. absurd (omega arith)) (omega arith) in
    digit_sum words 0 ∙ sym (next ∙ zero-add (digit_at words 0))
digits_to_row ends offset count words (suc row) window marked within =
    let f = digit_at words in
    let earlier = digits_to_row ends offset count words row window marked (omega arith) in
    let here = run_of_row_within ends offset count row window (omega arith) in
    let past = ends_past ends (offset + row) here in
    let next = digit_next ends offset count words (suc row) (run_at ends (offset + row)) window marked within here
    (λ k h. let ended = ended_before ends (offset + row) k h in omega arith) (omega arith) in
    let size : suc row + 1 ≡ (row + 1) + 1 = omega arith in
    let place : 0 + (row + 1) ≡ suc row = omega arith in
    let split : sum_from f 0 (suc row + 1) ≡ sum_from f 0 (row + 1) + sum_from f (suc row) 1 = rw size (sum_from-split f 0 (row + 1) 1 ∙ ap (λ a. sum_from f 0 (row + 1) + sum_from f a 1) place) in
    omega (arith, split, digit_sum words (suc row), earlier, next)

-- the first bits are the first digits
pub ones_digits : (words : List ℕ) (n : ℕ) → ones_before words n ≡ sum_from (digit_at words) 0 n
ones_digits words n =
    count_by-sum (first_bits n words)
    ∙ rw (length-first_bits n words) (sum_from-same (λ i. one_if (get_or (first_bits n words) i false)) (digit_at words) 0 0 n (λ i h. rw (zero-add i) (sym (digit_of_bit n words i h))))

pub ones_none : (words : List ℕ) → ones_before words 0 ≡ 0
ones_none words = omega (arith, count_by-le-length (λ (b : Bool). b) (first_bits 0 words), length-first_bits 0 words)

-- and some digits of a word more
pub ones_more : (words : List ℕ) (k n : ℕ) → n ≤ 64 → ones_before words (k * 64 + n) ≡ ones_before words (k * 64) + count_ones (get_or words k 0 % 2 ^ n)
ones_more words k n short =
    let f = digit_at words in
    let same : get_or words k 0 / 2 ^ 0 ≡ get_or words k 0 = omega arith in
    let place : 0 + k * 64 ≡ k * 64 + 0 = omega arith in
    let word : count_ones (get_or words k 0 % 2 ^ n) ≡ sum_from f (k * 64 + 0) n = ap (λ w. count_ones (w % 2 ^ n)) (sym same) ∙ count_in_word words k 0 n (omega arith) in
    let split : sum_from f 0 (k * 64 + n) ≡ sum_from f 0 (k * 64) + sum_from f (k * 64 + 0) n = sum_from-split f 0 (k * 64) n ∙ ap (λ a. sum_from f 0 (k * 64) + sum_from f a n) place in
    omega (arith, ones_digits words (k * 64 + n), ones_digits words (k * 64), split, word)

-- a whole word more
pub ones_word : (words : List ℕ) (k : ℕ) → get_or words k 0 < 2 ^ 64 → ones_before words ((k + 1) * 64) ≡ ones_before words (k * 64) + count_ones (get_or words k 0)
ones_word words k fits =
    let size : (k + 1) * 64 ≡ k * 64 + 64 = omega arith in
    let whole : get_or words k 0 % 2 ^ 64 ≡ get_or words k 0 = omega arith in
    ap (ones_before words) size ∙ ones_more words k 64 (omega arith) ∙ ap (λ w. ones_before words (k * 64) + count_ones w) whole

-- more are set the more there are
pub ones_onward : (words : List ℕ) (m n : ℕ) → m ≤ n → ones_before words m ≤ ones_before words n
ones_onward words m n ordered =
    let f = digit_at words in
    let size : m + (n - m) ≡ n = omega arith in
    let split : sum_from f 0 n ≡ sum_from f 0 m + sum_from f (0 + m) (n - m) = subst (λ (k : ℕ). sum_from f 0 k ≡ sum_from f 0 m + sum_from f (0 + m) (n - m)) size (sum_from-split f 0 m (n - m)) in
    omega (arith, ones_digits words m, ones_digits words n, split)

-- there is a count for each word
pub length-counts : (words counts : List ℕ) → AreCounted words counts → length counts ≡ length words
length-counts words counts counted = ap length counted.before ∙ length-map-range_with_len (λ index. ones_before words (index * 64)) 0 (length words)

-- a word whose digits past a row are shifted out has its digits up to the row
kept_digits : (w s n : ℕ) → s + n ≡ 64 → w * 2 ^ s % 2 ^ 64 ≡ w % 2 ^ n * 2 ^ s
kept_digits w s n all =
    let q = w / 2 ^ n in
    let r = w % 2 ^ n in
    let size : n + s ≡ 64 = omega arith in
    let powers : 2 ^ n * 2 ^ s ≡ 2 ^ 64 = sym (pow-add 2 n s) ∙ ap (λ (k : ℕ). 2 ^ k) size in
    let parts : w ≡ q * 2 ^ n + r = sym (div-add-mod' w (2 ^ n)) in
    let whole : w * 2 ^ s ≡ q * 2 ^ 64 + r * 2 ^ s =
    ap (λ (x : ℕ). x * 2 ^ s) parts ∙ add-mul (q * 2 ^ n) r (2 ^ s) ∙ ap (λ (x : ℕ). x + r * 2 ^ s) (mul_assoc q (2 ^ n) (2 ^ s) ∙ ap (λ (x : ℕ). q * x) powers) in
    let small : r * 2 ^ s < 2 ^ 64 = subst (λ (k : ℕ). r * 2 ^ s < 2 ^ k) size (shl_below r n s (mod_below w (2 ^ n) (pow_pos n))) in
    ap (λ (x : ℕ). x % 2 ^ 64) whole ∙ mod-mul-add q (2 ^ 64) (r * 2 ^ s) small

ones_doubled : (y : ℕ) → count_ones (y * 2) ≡ count_ones y
ones_doubled y =
    let even : y * 2 % 2 ≡ 0 = omega arith in
    let half : y * 2 / 2 ≡ y = omega arith in
    ones_step (y * 2) ∙ rw (even, half) (zero-add (count_ones y))

-- and as many 1s
ones_shifted : (x s : ℕ) → count_ones (x * 2 ^ s) ≡ count_ones x
ones_shifted x zero = let same : x * 2 ^ 0 ≡ x = omega arith in ap count_ones same
ones_shifted x (suc s) = ap count_ones (ap (λ (p : ℕ). x * p) (pow-suc 2 s) ∙ sym (mul_assoc x (2 ^ s) 2)) ∙ ones_doubled (x * 2 ^ s) ∙ ones_shifted x s

-- the count before the word of a row and the bits of its word up to it are its rank
pub rank_in_words : (words counts : List ℕ) (row : ℕ) → AreCounted words counts → row < length words * 64
    → get_or counts (row / 64) 0 + count_ones (get_or words (row / 64) 0 * 2 ^ (63 - row % 64) % 2 ^ 64) ≡ ones_before words (row + 1)
rank_in_words words counts row counted within =
    let k = row / 64 in
    let n = row % 64 + 1 in
    let s = 63 - row % 64 in
    let word = get_or words k 0 in
    let size : k * 64 + n ≡ row + 1 = omega arith in
    let inside : k < length words = omega arith in
    let before : get_or counts k 0 ≡ ones_before words (k * 64) = ap (λ xs. get_or xs k 0) counted.before ∙ get_or-map-range_with_len (λ index. ones_before words (index * 64)) 0 (length words) k k 0 inside (omega arith) in
    let shifted : count_ones (word * 2 ^ s % 2 ^ 64) ≡ count_ones (word % 2 ^ n) = ap count_ones (kept_digits word s n (omega arith)) ∙ ones_shifted (word % 2 ^ n) s in
    let more = ones_more words k n (omega arith) in
    let whole : ones_before words (k * 64 + n) ≡ ones_before words (row + 1) = ap (ones_before words) size in
    omega (arith, before, shifted, more, whole)

-- a number of 64 bits counts it
pub rank_fits : (words counts : List ℕ) (row : ℕ) → AreCounted words counts → row < length words * 64 → ones_before words (row + 1) < 2 ^ 64
rank_fits words counts row counted within =
    let onward = ones_onward words (row + 1) (length words * 64) (omega arith) in
    omega (arith, onward, counted.few)

-- the rank of a row is its run
pub rank_of_row : (ends : List ℕ) (offset count : ℕ) (words : List ℕ) (row : ℕ) → IsWindow ends offset count → AreMarked ends offset count words → row < count
    → ones_before words (row + 1) ≡ run_at ends (offset + row)
rank_of_row ends offset count words row window marked within = ones_digits words (row + 1) ∙ digits_to_row ends offset count words row window marked within

-- bits past the rows are not set, so no more are than there are rows
sum_past : (f : ℕ → ℕ) (count more : ℕ) → ((i : ℕ) → count ≤ i → f i ≡ 0) → sum_from f 0 (count + more) ≡ sum_from f 0 count
sum_past f count zero none = rw add-zero refl
sum_past f count (suc more) none =
    let size : count + suc more ≡ (count + more) + 1 = omega arith in
    let place : 0 + (count + more) ≡ count + more = omega arith in
    let here = none (count + more) (omega arith) in
    let one = sum_from-one f (count + more) false here in
    let split : sum_from f 0 (count + suc more) ≡ sum_from f 0 (count + more) + sum_from f (count + more) 1 = rw size (sum_from-split f 0 (count + more) 1 ∙ ap (λ a. sum_from f 0 (count + more) + sum_from f a 1) place) in
    omega (arith, split, one, here, sum_past f count more none)

pub ones_few : (ends : List ℕ) (offset count : ℕ) (words : List ℕ) → AreMarked ends offset count words → ones_before words (length words * 64) ≤ count
ones_few ends offset count words marked =
    let f = digit_at words in
    let sized = marked.sized in
    let rest : count + (length words * 64 - count) ≡ length words * 64 = omega arith in
    let whole : sum_from f 0 (length words * 64) ≡ sum_from f 0 count = subst (λ (k : ℕ). sum_from f 0 k ≡ sum_from f 0 count) rest (sum_past f count (length words * 64 - count) marked.after) in
    omega (arith, ones_digits words (length words * 64), ones_digits words count, whole, count_by-le-length (λ (b : Bool). b) (first_bits count words), length-first_bits count words)

-- the bits of the runs before `run` are set, each inside the window, and no other
pub record AreMarkedBefore (ends : List ℕ) (offset count run : ℕ) (words : List ℕ) : Type 0 where
  pub sized : length words ≡ (count + 63) / 64
  pub inside : (k : ℕ) → k < run → slice_index ends k < offset + count
  pub ones : (k : ℕ) → k < run → digit_at words (slice_index ends k - offset) ≡ 1
  pub blank : (row : ℕ) → ((k : ℕ) → k < run → slice_index ends k ≢ offset + row) → digit_at words row ≡ 0

pub AreMarkedBefore-none : (ends : List ℕ) (offset count : ℕ) (words : List ℕ) → words ≡ replicate ((count + 63) / 64) 0 → AreMarkedBefore ends offset count 0 words
AreMarkedBefore-none ends offset count words zeros = record {
  sized = ap length zeros ∙ length-replicate ((count + 63) / 64) 0;
  inside = λ k h. absurd (omega arith);
  ones = λ k h. absurd (omega arith);
  blank = λ row none. ap (λ ws. digit_at ws row) zeros ∙ elim (cases_lt row (((count + 63) / 64) * 64)) [
    | inl within ↦ digit_replicate ((count + 63) / 64) 0 row within ∙ bit_at-zero (row % 64)
    | inr past ↦ digit_past (replicate ((count + 63) / 64) 0) row (rw length-replicate past)
  ];
}

-- a word with one bit set more
or_digit : (w p j : ℕ) → p < 64 → j < 64 → bit_at (bit_or w (1 * 2 ^ p % 2 ^ 64)) j ≡ cond (eqb j p) 1 (bit_at w j)
or_digit w p j small h = set_digit w (1 * 2 ^ p % 2 ^ 64) j (eqb j p) (elim (cases_eq j p) [
  | inl same ↦ rw same (shifted_bit-same true p small ∙ rw (eq-eqb p p refl) refl)
  | inr apart ↦ shifted_bit-other true p j small apart ∙ rw (ne_eqb j p apart) refl
])

-- one bit more is set, and all others stay
digit_marked : (words : List ℕ) (place i : ℕ) → place / 64 < length words
    → digit_at (set words (place / 64) (bit_or (get_or words (place / 64) 0) (1 * 2 ^ (place % 64) % 2 ^ 64))) i ≡ cond (eqb i place) 1 (digit_at words i)
digit_marked words place i within = elim (cases_eq (i / 64) (place / 64)) [
  | inl same ↦
      digit_set_same words (place / 64) (bit_or (get_or words (place / 64) 0) (1 * 2 ^ (place % 64) % 2 ^ 64)) i within same
      ∙ or_digit (get_or words (place / 64) 0) (place % 64) (i % 64) (omega arith) (omega arith)
      ∙ elim (cases_eq i place) [
        | inl here ↦ rw here (rw (eq-eqb place place refl, eq-eqb (place % 64) (place % 64) refl) refl)
        | inr apart ↦
            let low : i % 64 ≢ place % 64 = omega arith in
            rw (ne_eqb i place apart, ne_eqb (i % 64) (place % 64) low) (sym (digit_in_word words (place / 64) i same))
      ]
  | inr other ↦
      let apart : i ≢ place = λ e. other (ap (λ (n : ℕ). n / 64) e) in
      digit_set_other words (place / 64) (bit_or (get_or words (place / 64) 0) (1 * 2 ^ (place % 64) % 2 ^ 64)) i other ∙ rw (ne_eqb i place apart) refl
]

-- one run more is marked
pub AreMarkedBefore-more : (ends : List ℕ) (offset count run place w : ℕ) (words : List ℕ) → IsWindow ends offset count → 0 < count → run < length ends
    → place ≡ min (slice_index ends run - offset) count → place < count → w ≡ get_or words (place / 64) 0
    → AreMarkedBefore ends offset count run words → AreMarkedBefore ends offset count (run + 1) (set words (place / 64) (bit_or w (1 * 2 ^ (place % 64) % 2 ^ 64)))
AreMarkedBefore-more ends offset count run place w words window some h is below read so_far =
    let sized = so_far.sized in
    let within : place / 64 < length words = omega arith in
    let more = set words (place / 64) (bit_or w (1 * 2 ^ (place % 64) % 2 ^ 64)) in
    let first = window.first some in
    let digit : (i : ℕ) → digit_at more i ≡ cond (eqb i place) 1 (digit_at words i) = λ i. rw read (digit_marked words place i within) in
    let from : offset ≤ slice_index ends run = elim (cases_eq run 0) [
      | inl start ↦ rw start first
      | inr later ↦ let order = AllPairs-from_increasing ends window.increasing 0 run 0 (omega arith) h in omega arith
    ] in
    let at : slice_index ends run ≡ offset + place = omega arith in
    record {
      sized = length-set words (place / 64) (bit_or w (1 * 2 ^ (place % 64) % 2 ^ 64)) ∙ sized;
      inside = λ k lt. elim (cases_lt k run) [
        | inl earlier ↦ so_far.inside k earlier
        | inr same ↦ let here : k ≡ run = omega arith in rw here (omega arith)
      ];
      ones = λ k lt. digit (slice_index ends k - offset) ∙ elim (cases_lt k run) [
        | inl earlier ↦ elim (cases_eq (slice_index ends k - offset) place) [
          | inl same ↦ rw same (rw (eq-eqb place place refl) refl)
          | inr apart ↦ rw (ne_eqb (slice_index ends k - offset) place apart) (so_far.ones k earlier)
        ]
        | inr same ↦
            let here : k ≡ run = omega arith in
            let there : slice_index ends k - offset ≡ place = rw here (omega arith) in
            rw there (rw (eq-eqb place place refl) refl)
      ];
      blank = λ row none.
          let apart : row ≢ place = λ e. none run (omega arith) (at ∙ ap (λ (n : ℕ). offset + n) (sym e)) in
          digit row ∙ rw (ne_eqb row place apart) (so_far.blank row (λ k lt. none k (omega arith)));
    }

-- all runs that end inside the window are marked
pub AreMarked-all : (ends : List ℕ) (offset count run : ℕ) (words : List ℕ) → run ≤ length ends → ((k : ℕ) → run ≤ k → k < length ends → offset + count ≤ slice_index ends k)
    → AreMarkedBefore ends offset count run words → AreMarked ends offset count words
AreMarked-all ends offset count run words short stop so_far = record {
  sized = so_far.sized;
  ones = λ k h lt. elim (cases_lt k run) [
    | inl earlier ↦ so_far.ones k earlier
    | inr from ↦ let past = stop k from h in absurd (omega arith)
  ];
  blank = λ row none. so_far.blank row (λ k lt. none k (omega arith));
  after = λ row from. so_far.blank row (λ k lt. let low = so_far.inside k lt in λ e. absurd (omega arith));
}

-- from a run that ends past the window on, all do
pub stops : (ends : List ℕ) (offset count run : ℕ) → IsWindow ends offset count → run < length ends → min (slice_index ends run - offset) count ≡ count → 0 < count
    → (k : ℕ) → run ≤ k → k < length ends → offset + count ≤ slice_index ends k
stops ends offset count run window h is some k from within = elim (cases_eq k run) [
  | inl same ↦ rw same (omega arith)
  | inr later ↦ let order = AllPairs-from_increasing ends window.increasing run k 0 (omega arith) within in omega arith
]
