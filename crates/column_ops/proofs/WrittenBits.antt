-- Bits that are written one after the other.
use Rattle.std.proofs.Common.{◌≡◌, ◌∙◌, ◌+◌, ◌*◌, ◌%◌, ◌^◌, ◌<◌, ◌≤◌, ◌∷◌, ◌++◌, [], ℕ, List, Bool, length, refl, sym, ap, subst, arith, bit_or, length-append}
use Rattle.std.proofs.lemmas.List.{append_assoc, append-nil}
use mir.Val.{bool_byte}
use Rattle.column_base.specs.Words.{first_bits, IsWordOf}
use Rattle.column_base.proofs.WordBits.{bits_of_digits, bits_push, IsWordOf-none, IsWordOf-push}
use Rattle.column_base.proofs.WordDigits.{length-first_bits}
use Rattle.column_ops.specs.WrittenBits.{written_bits, IsPartWord}

-- no bits
first_bits-none : (words : List ℕ) → first_bits 0 words ≡ []
first_bits-none words = bits_of_digits 0 words [] refl (λ i h. absurd (omega arith))

-- those of one word
first_bits-word : (w n : ℕ) (bits : List Bool) → length bits ≡ n → n ≤ 64 → IsWordOf w bits → first_bits n (w ∷ []) ≡ bits
first_bits-word w n bits long few of = bits_push [] w 0 n [] bits refl (omega (arith, long)) (omega (arith, long)) (first_bits-none []) of

pub IsPartWord-none : IsPartWord 0 0
IsPartWord-none = record { room = omega arith; clear = subst (λ (bits : List Bool). IsWordOf 0 bits) (sym (first_bits-none (0 ∷ []))) IsWordOf-none }

pub written_bits-none : (words : List ℕ) → words ≡ [] → written_bits words 0 0 ≡ []
written_bits-none words none = subst (λ (ws : List ℕ). written_bits ws 0 0 ≡ []) (sym none) (ap (λ bits. first_bits 0 [] ++ bits) (first_bits-none (0 ∷ [])) ∙ append-nil (first_bits 0 []) ∙ first_bits-none [])

-- one bit more
module _ (words : List ℕ) (w filled v : ℕ) (b : Bool) (old : IsPartWord w filled) (from : v ≡ bool_byte b) where
  abbrev before : List Bool
  before = first_bits filled (w ∷ [])

  abbrev pub after : ℕ
  after = bit_or w (v * 2 ^ filled % 2 ^ 64)

  long : length (before ++ b ∷ []) ≡ filled + 1
  long = omega (arith, length-append before (b ∷ []), length-first_bits filled (w ∷ []))

  of : IsWordOf after (before ++ b ∷ [])
  of = IsWordOf-push w v filled before b (sym (length-first_bits filled (w ∷ []))) old.room from old.clear

  grown : filled < 63 → first_bits (filled + 1) (after ∷ []) ≡ before ++ b ∷ []
  grown few = first_bits-word after (filled + 1) (before ++ b ∷ []) long (omega (arith, few)) of

  pub IsPartWord-push : filled < 63 → IsPartWord after (filled + 1)
  IsPartWord-push few = record { room = omega (arith, few); clear = subst (λ (bits : List Bool). IsWordOf after bits) (sym (grown few)) of }

  pub written_bits-push : filled < 63 → written_bits words after (filled + 1) ≡ written_bits words w filled ++ b ∷ []
  written_bits-push few =
      ap (λ bits. first_bits (length words * 64) words ++ bits) (grown few) ∙ sym (append_assoc (first_bits (length words * 64) words) before (b ∷ []))

  pub written_bits-full : 63 ≤ filled → written_bits (words ++ after ∷ []) 0 0 ≡ written_bits words w filled ++ b ∷ []
  written_bits-full all =
      let more = length-append words (after ∷ []) in
      let room = old.room in
      let front = first_bits (length words * 64) words in
      let told : first_bits (length (words ++ after ∷ []) * 64) (words ++ after ∷ []) ≡ front ++ (before ++ b ∷ []) =
      bits_push words after (length words) (length (words ++ after ∷ []) * 64) front (before ++ b ∷ []) refl (omega (arith, more, long, all, room)) (omega (arith, long, room)) refl of in
      ap (λ bits. first_bits (length (words ++ after ∷ []) * 64) (words ++ after ∷ []) ++ bits) (first_bits-none (0 ∷ []))
      ∙ append-nil (first_bits (length (words ++ after ∷ []) * 64) (words ++ after ∷ []))
      ∙ told ∙ sym (append_assoc front before (b ∷ []))

-- all of them, as bits of words
module _ (words : List ℕ) (w filled count : ℕ) (old : IsPartWord w filled) (all : count ≡ length (written_bits words w filled)) where
  counted : count ≡ length words * 64 + filled
  counted = omega (arith, all, length-append (first_bits (length words * 64) words) (first_bits filled (w ∷ [])), length-first_bits (length words * 64) words, length-first_bits filled (w ∷ []))

  pub within_words : count ≤ length (words ++ w ∷ []) * 64
  within_words = let room = old.room in omega (arith, counted, room, length-append words (w ∷ []))

  pub first_bits-written : first_bits count (words ++ w ∷ []) ≡ written_bits words w filled
  first_bits-written =
      let room = old.room in
      let size = length-first_bits filled (w ∷ []) in
      bits_push words w (length words) count (first_bits (length words * 64) words) (first_bits filled (w ∷ [])) refl (omega (arith, counted, size)) (omega (arith, size, room)) refl old.clear

  -- no part of a word is left to be written
  pub within_whole : filled ≡ 0 → count ≤ length words * 64
  within_whole none = omega (arith, counted, none)

  pub first_bits-whole : filled ≡ 0 → first_bits count words ≡ written_bits words w filled
  first_bits-whole none =
      let whole : count ≡ length words * 64 = omega (arith, counted, none) in
      ap (λ n. first_bits n words) whole ∙ sym (append-nil (first_bits (length words * 64) words))
      ∙ ap (λ bits. first_bits (length words * 64) words ++ bits) (sym (ap (λ n. first_bits n (w ∷ [])) none ∙ first_bits-none (w ∷ [])))
