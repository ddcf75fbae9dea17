-- Packed bits that are copied from another place.
use Rattle.std.proofs.Common.{◌≡◌, ◌≢◌, ◌+◌, ◌-◌, ◌*◌, ◌/◌, ◌%◌, ◌<◌, ◌≤◌, ◌∙◌, ℕ, List, Bool, false, length, set, sym, ap, arith, get_or, take, drop, slice_range, cond, ltb, ⊎_elim, ◌⊎◌}
use Rattle.std.specs.Int.{bit_at}
use Rattle.std.proofs.lemmas.Bool.{cases_eq, cases_lt, lt-ltb, le-ltb}
use Rattle.std.proofs.lemmas.List.Edits.{length-between, get_or-between}
use Rattle.column_base.specs.Words.{digit_at, one_if, IsClearedFrom, HasBitsFrom}
use Rattle.column_base.proofs.WordDigits.{Holds, digit_in_word, digit_set_same, digit_set_other, digit_part, digit_past, one_if_past}

-- a word more is copied
pub copied_more : (target source : List ℕ) (first low k v : ℕ) → k < length target → low < 64
    → ((j : ℕ) → j < 64 → bit_at v j ≡ cond (ltb (low + j) 64) (bit_at (get_or source (first + k) 0) (low + j)) (bit_at (get_or source (first + k + 1) 0) (low + j - 64)))
    → HasBitsFrom target k source (first * 64 + low) → HasBitsFrom (set target k v) (k + 1) source (first * 64 + low)
copied_more target source first low k v within part digits before i h = ⊎_elim
    (λ (same : i / 64 ≡ k).
    digit_set_same target k v i within same ∙ digits (i % 64) (omega arith) ∙ ⊎_elim
    (λ (p : low + i % 64 < 64).
    let place : (first * 64 + low + i) % 64 ≡ low + i % 64 = omega arith in
    rw (lt-ltb (low + i % 64) 64 p) (sym (digit_in_word source (first + k) (first * 64 + low + i) (omega arith) ∙ ap (bit_at (get_or source (first + k) 0)) place)))
    (λ (p : 64 ≤ low + i % 64).
    let place : (first * 64 + low + i) % 64 ≡ low + i % 64 - 64 = omega arith in
    rw (le-ltb (low + i % 64) 64 p) (sym (digit_in_word source (first + k + 1) (first * 64 + low + i) (omega arith) ∙ ap (bit_at (get_or source (first + k + 1) 0)) place)))
    (cases_lt (low + i % 64) 64))
    (λ (other : i / 64 ≢ k). digit_set_other target k v i other ∙ before i (omega arith))
    (cases_eq (i / 64) k)

-- whole words are copied
pub copied_whole : (target source : List ℕ) (count start : ℕ) → start % 64 ≡ 0 → target ≡ take (start / 64 + count - start / 64) (drop (start / 64) source) → HasBitsFrom target count source start
copied_whole target source count start whole same i h =
    let place : start + i ≡ start / 64 * 64 + i = omega arith in
    rw (same, place) (digit_part source (start / 64) (start / 64 + count - start / 64) i (omega arith))

-- a part of a buffer
pub part_of : {n : ℕ} {words source target more : List ℕ} {bits : List Bool} (start stop count k : ℕ) → Holds n words bits → source ≡ words → start ≤ stop → stop ≤ length bits → count ≡ stop - start
    → length target ≡ k → k ≡ (count + 63) / 64 → HasBitsFrom target k source start → IsClearedFrom target more count
    → Holds count more (slice_range bits start stop)
part_of {n} {words} {source} {target} {more} {bits} start stop count k holds same ordered within counted long least copied cleared =
    let size : length (slice_range bits start stop) ≡ count = length-between bits start stop within ∙ sym counted in
    record {
      packs = record {
        least = cleared.len ∙ long ∙ least ∙ ap (λ c. (c + 63) / 64) (sym size);
        digit = λ i. ⊎_elim
            (λ (h : i < count).
            cleared.before i h ∙ copied i (omega arith) ∙ ap (λ ws. digit_at ws (start + i)) same ∙ holds.packs.digit (start + i)
            ∙ sym (ap one_if (get_or-between bits start stop i false (omega arith))))
            (λ (h : count ≤ i). cleared.after i h ∙ sym (one_if_past (slice_range bits start stop) i (omega arith)))
            (cases_lt i count);
      };
      len = size;
    }

-- whole words of a buffer hold the bits in them, up to the end of a word or the last bit
pub whole_words : {n : ℕ} {words : List ℕ} {bits : List Bool} (start stop : ℕ) → Holds n words bits → start ≤ stop → stop ≤ length bits → start % 64 ≡ 0 → (stop % 64 ≡ 0) ⊎ (stop ≡ length bits)
    → Holds (stop - start) (slice_range words (start / 64) ((stop + 63) / 64)) (slice_range bits start stop)
whole_words {n} {words} {bits} start stop holds ordered within aligned ends =
    let least = holds.packs.least in
    let count = (stop + 63) / 64 - start / 64 in
    let size : length (slice_range bits start stop) ≡ stop - start = length-between bits start stop within in
    let long : length (slice_range words (start / 64) ((stop + 63) / 64)) ≡ count = length-between words (start / 64) ((stop + 63) / 64) (omega arith) in
    let none_behind : (i : ℕ) → i < count * 64 → stop - start ≤ i → length bits ≤ start + i = λ i h behind. ⊎_elim (λ (whole : stop % 64 ≡ 0). absurd (omega arith)) (λ (last : stop ≡ length bits). omega arith) ends in
    let digit_here : (i : ℕ) → i < count * 64 → digit_at (slice_range words (start / 64) ((stop + 63) / 64)) i ≡ one_if (get_or bits (start + i) false) = λ i h.
    digit_part words (start / 64) count i h ∙ ap (digit_at words) (omega arith) ∙ holds.packs.digit (start + i) in
    record {
      packs = record {
        least = long ∙ omega (arith, size);
        digit = λ i. ⊎_elim
            (λ (inside : i < stop - start). digit_here i (omega arith) ∙ sym (ap one_if (get_or-between bits start stop i false (omega arith))))
            (λ (behind : stop - start ≤ i). ⊎_elim
            (λ (h : i < count * 64). digit_here i h ∙ one_if_past bits (start + i) (none_behind i h behind))
            (λ (h : count * 64 ≤ i). digit_past (slice_range words (start / 64) ((stop + 63) / 64)) i (omega (arith, long)))
            (cases_lt i (count * 64)) ∙ sym (one_if_past (slice_range bits start stop) i (omega (arith, size))))
            (cases_lt i (stop - start));
      };
      len = size;
    }
