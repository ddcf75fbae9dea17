-- Bits that are put into words, 64 to a word.
use Rattle.std.proofs.Common.{◌≡◌, ◌∙◌, ◌+◌, ◌*◌, ◌/◌, ◌%◌, ◌^◌, ◌<◌, ◌≤◌, ℕ, List, [], ◌∷◌, ◌++◌, Bool, false, length, min, take, bit_or, refl, sym, ap, subst, arith, get_or, length-append}
use Rattle.std.proofs.lemmas.List.{append_assoc, append-nil, length-take, nil_from_length, take_more}
use mir.Val.{bool_byte}
use Rattle.column_base.specs.Words.{IsWordOf, first_bits}
use Rattle.column_base.proofs.WordBits.{IsWordOf-push, bits_of_digits, bits_push}

-- the words have the bits but those of `rest`, and are full where there is a rest
pub record ArePacked (bits rest : List Bool) (words : List ℕ) : Type 0 where
  pub front : List Bool
  pub split : bits ≡ front ++ rest
  pub told : first_bits (length front) words ≡ front
  pub len : length words ≡ (length front + 63) / 64
  pub whole : 0 < length rest → length front ≡ length words * 64

-- no word, and all bits left
pub ArePacked-none : (bits rest : List Bool) (words : List ℕ) → rest ≡ bits → words ≡ [] → ArePacked bits rest words
ArePacked-none bits rest words all none = subst (λ (ws : List ℕ). ArePacked bits rest ws) (sym none) (record {
  front = [];
  split = sym all;
  told = bits_of_digits 0 [] [] refl (λ i h. absurd (omega arith));
  len = refl;
  whole = λ h. refl;
})

-- a word more
pub ArePacked-push : (bits rest chunk after : List Bool) (words more : List ℕ) (word : ℕ) → ArePacked bits rest words → rest ≡ chunk ++ after
    → length chunk ≡ min 64 (length rest) → 0 < length rest → IsWordOf word chunk → more ≡ words ++ word ∷ [] → ArePacked bits after more
ArePacked-push bits rest chunk after words more word packed cut size some of grown =
    let front = packed.front in
    let full : length front ≡ length words * 64 = packed.whole some in
    let both : length rest ≡ length chunk + length after = ap (λ (xs : List Bool). length xs) cut ∙ length-append chunk after in
    let long : length (front ++ chunk) ≡ length front + length chunk = length-append front chunk in
    let one : length (words ++ word ∷ []) ≡ length words + 1 = length-append words (word ∷ []) in
    subst (λ (ws : List ℕ). ArePacked bits after ws) (sym grown) (record {
      front = front ++ chunk;
      split = packed.split ∙ ap (λ (xs : List Bool). front ++ xs) cut ∙ sym (append_assoc front chunk after);
      told = bits_push words word (length words) (length (front ++ chunk)) front chunk refl (omega arith) (omega arith)
          (ap (λ n. first_bits n words) (sym full) ∙ packed.told) of;
      len = omega arith;
      whole = λ h. omega arith;
    })

-- nothing left
pub ArePacked-len : (bits rest : List Bool) (words : List ℕ) → ArePacked bits rest words → length rest ≡ 0 → length words ≡ (length bits + 63) / 64
ArePacked-len bits rest words packed none =
    let size : length bits ≡ length packed.front + length rest = ap (λ (xs : List Bool). length xs) packed.split ∙ length-append packed.front rest in
    packed.len ∙ ap (λ n. (n + 63) / 64) (omega arith)

pub ArePacked-all : (bits rest : List Bool) (words : List ℕ) → ArePacked bits rest words → length rest ≡ 0 → first_bits (length bits) words ≡ bits
ArePacked-all bits rest words packed none =
    let all : bits ≡ packed.front = packed.split ∙ ap (λ (xs : List Bool). packed.front ++ xs) (nil_from_length rest none) ∙ append-nil packed.front in
    subst (λ (xs : List Bool). first_bits (length xs) words ≡ xs) (sym all) packed.told

-- a bit more in a word
pub IsWordOf-next : (bits : List Bool) (k word value : ℕ) → k < length bits → length bits ≤ 64 → value ≡ bool_byte (get_or bits k false) → IsWordOf word (take k bits)
    → IsWordOf (bit_or word (value * 2 ^ k % 2 ^ 64)) (take (k + 1) bits)
IsWordOf-next bits k word value within few from of =
    let size : length (take k bits) ≡ k = omega (arith, length-take k bits) in
    let grown : take k bits ++ get_or bits k false ∷ [] ≡ take (k + 1) bits = sym (take_more bits k false within) in
    subst (IsWordOf (bit_or word (value * 2 ^ k % 2 ^ 64))) grown (IsWordOf-push word value k (take k bits) (get_or bits k false) (sym size) (omega arith) from of)
