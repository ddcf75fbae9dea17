-- How many of the first bits are true, by the words that hold them.
use Rattle.std.proofs.Common.{◌≡◌, ◌∙◌, ℕ, ◌+◌, ◌-◌, ◌*◌, ◌/◌, ◌%◌, ◌^◌, ◌<◌, ◌≤◌, List, Bool, length, take, get_or, bit_and, arith, ap, sym}
use Rattle.std.specs.Prelude.{count_ones, slice_range}
use Rattle.std.proofs.lemmas.Nat.{and_mask}
use Rattle.std.proofs.lemmas.List.{length-take}
use Rattle.std.proofs.lemmas.List.Sums.{count_by-le-length}
use Rattle.column_base.specs.Words.{Packs, digit_at}
use Rattle.column_base.proofs.WordCounts.{count_in_word, count_of_range, sum_from, sum_from-split}
use Rattle.runend_select.proofs.Selected.{set_bits, set_bits-split}

-- the first bits are the first digits
set_bits-digits : (words : List ℕ) (bits : List Bool) (n : ℕ) → Packs words bits → n ≤ length bits → set_bits (take n bits) ≡ sum_from (digit_at words) 0 (n - 0)
set_bits-digits words bits n packs within =
    let split = set_bits-split bits 0 n (omega arith) in
    let range = count_of_range words bits 0 n packs (omega arith) within in
    omega (arith, split, range)

-- and some bits of a word more
pub set_bits-more : (words : List ℕ) (bits : List Bool) (k low : ℕ) → Packs words bits → k * 64 + low ≤ length bits → low ≤ 64
    → set_bits (take (k * 64 + low) bits) ≡ set_bits (take (k * 64) bits) + count_ones (get_or words k 0 % 2 ^ low)
set_bits-more words bits k low packs within short =
    let f = digit_at words in
    let all = set_bits-digits words bits (k * 64 + low) packs within in
    let whole = set_bits-digits words bits (k * 64) packs (omega arith) in
    let size : k * 64 + low - 0 ≡ (k * 64 - 0) + low = omega arith in
    let place : 0 + (k * 64 - 0) ≡ k * 64 + 0 = omega arith in
    let split : sum_from f 0 (k * 64 + low - 0) ≡ sum_from f 0 (k * 64 - 0) + sum_from f (k * 64 + 0) low = rw size (sum_from-split f 0 (k * 64 - 0) low ∙ ap (λ a. sum_from f 0 (k * 64 - 0) + sum_from f a low) place) in
    let same : get_or words k 0 / 2 ^ 0 ≡ get_or words k 0 = omega arith in
    let word : count_ones (get_or words k 0 % 2 ^ low) ≡ sum_from f (k * 64 + 0) low = ap (λ w. count_ones (w % 2 ^ low)) (sym same) ∙ count_in_word words k 0 low (omega arith) in
    omega (arith, all, whole, split, word)

-- a whole word more
pub set_bits-word : (words : List ℕ) (bits : List Bool) (k : ℕ) → Packs words bits → (k + 1) * 64 ≤ length bits → get_or words k 0 < 2 ^ 64
    → set_bits (take ((k + 1) * 64) bits) ≡ set_bits (take (k * 64) bits) + count_ones (get_or words k 0)
set_bits-word words bits k packs within fits =
    let more = set_bits-more words bits k 64 packs (omega arith) (omega arith) in
    let size : (k + 1) * 64 ≡ k * 64 + 64 = omega arith in
    let whole : get_or words k 0 % 2 ^ 64 ≡ get_or words k 0 = omega arith in
    ap (λ n. set_bits (take n bits)) size ∙ more ∙ ap (λ w. set_bits (take (k * 64) bits) + count_ones w) whole

-- no more of the first bits are true than there are
pub set_bits-few : (bits : List Bool) (n : ℕ) → set_bits (take n bits) ≤ n
set_bits-few bits n =
    let few = count_by-le-length (λ (b : Bool). b) (take n bits) in
    let short = length-take n bits in
    omega arith

-- more of them are true the more there are
pub set_bits-onward : (bits : List Bool) (start stop : ℕ) → start ≤ stop → set_bits (take start bits) ≤ set_bits (take stop bits)
set_bits-onward bits start stop ordered = let split = set_bits-split bits start stop ordered in omega arith

-- how many are true between two places, by how many are before each
pub set_bits-between : (bits : List Bool) (start stop before total : ℕ) → start ≤ stop → before ≡ set_bits (take start bits) → total ≡ set_bits (take stop bits)
    → total - before ≡ set_bits (slice_range bits start stop)
set_bits-between bits start stop before total ordered from to = let split = set_bits-split bits start stop ordered in omega arith

-- the bits before a place are those before its word and those of its word that are lower
pub set_bits-to : (words : List ℕ) (bits : List Bool) (place before mask : ℕ) → Packs words bits → place ≤ length bits → before ≡ set_bits (take (place / 64 * 64) bits) → mask ≡ 2 ^ (place % 64) - 1
    → before + count_ones (bit_and (get_or words (place / 64) 0) mask) ≡ set_bits (take place bits)
set_bits-to words bits place before mask packs within counted is =
    let word = get_or words (place / 64) 0 in
    let all : place / 64 * 64 + place % 64 ≡ place = omega arith in
    let masked = ap (λ m. count_ones (bit_and word m)) is ∙ ap count_ones (and_mask word (place % 64)) in
    let more = set_bits-more words bits (place / 64) (place % 64) packs (omega arith) (omega arith) in
    ap (λ n. before + n) masked ∙ ap (λ n. n + count_ones (word % 2 ^ (place % 64))) counted ∙ sym more ∙ ap (λ n. set_bits (take n bits)) all
