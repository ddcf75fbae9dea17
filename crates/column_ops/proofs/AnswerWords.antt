-- Words of the answers of a test, 64 items to a word.
use Rattle.std.proofs.Common.{◌≡◌, ◌≢◌, ◌+◌, ◌-◌, ◌*◌, ◌/◌, ◌%◌, ◌^◌, ◌<◌, ◌≤◌, ◌∙◌, ◌∷◌, ◌++◌, ◌&&◌, [], ℕ, zero, suc, List, Bool, true, false, length, map, min, set, take, refl, sym, ap, subst, arith, bit_and, bit_or, get_or, length-append, ⊎_elim}
use Rattle.std.proofs.lemmas.List.{append_assoc, append-nil, map-append, map_push, nil_from_length, length-map, get_or-set_same, get_or-set_other, take_more, length-take}
use Rattle.std.proofs.lemmas.Bool.{cases_eq}
use mir.Val.{bool_byte}
use Rattle.column_base.specs.Words.{digit_at, first_bits, one_if, IsWordOf, Packs}
use Rattle.column_base.proofs.WordDigits.{digit_of_bit}
use Rattle.column_base.proofs.WordBits.{and_digit, bits_of_digits, bits_push, IsWordOf-none, IsWordOf-push}
use Rattle.column_core.specs.Optionals.{optionals}
use Rattle.column_ops.specs.Comparing.{is_held}

-- the words have a bit for each item but those of `rest`, and are full where there is a rest
pub record AreAnswered {X : Type 0} (test : X → Bool) (items rest : List X) (words : List ℕ) : Type 0 where
  pub front : List X
  pub split : items ≡ front ++ rest
  pub told : first_bits (length front) words ≡ map test front
  pub len : length words ≡ (length front + 63) / 64
  pub whole : 0 < length rest → length front ≡ length words * 64

-- no word, and all items left
pub AreAnswered-none : {X : Type 0} (test : X → Bool) (items rest : List X) (words : List ℕ) → rest ≡ items → words ≡ [] → AreAnswered test items rest words
AreAnswered-none test items rest words all none = subst (λ (ws : List ℕ). AreAnswered test items rest ws) (sym none) (record {
  front = [];
  split = sym all;
  told = bits_of_digits 0 [] [] refl (λ i h. absurd (omega arith));
  len = refl;
  whole = λ h. refl;
})

-- a word more
pub AreAnswered-push : {X : Type 0} (test : X → Bool) (items rest chunk after : List X) (words more : List ℕ) (w : ℕ) → AreAnswered test items rest words → rest ≡ chunk ++ after
    → length chunk ≡ min 64 (length rest) → 0 < length rest → IsWordOf w (map test chunk) → more ≡ words ++ w ∷ [] → AreAnswered test items after more
AreAnswered-push {X} test items rest chunk after words more w answered cut size some of grown =
    let front = answered.front in
    let full : length front ≡ length words * 64 = answered.whole some in
    let both : length rest ≡ length chunk + length after = ap (λ (xs : List X). length xs) cut ∙ length-append chunk after in
    let long : length (front ++ chunk) ≡ length front + length chunk = length-append front chunk in
    let one : length (words ++ w ∷ []) ≡ length words + 1 = length-append words (w ∷ []) in
    let bits : length (map test chunk) ≡ length chunk = length-map chunk test in
    subst (λ (ws : List ℕ). AreAnswered test items after ws) (sym grown) (record {
      front = front ++ chunk;
      split = answered.split ∙ ap (λ (xs : List X). front ++ xs) cut ∙ sym (append_assoc front chunk after);
      told = bits_push words w (length words) (length (front ++ chunk)) (map test front) (map test chunk) refl (omega arith) (omega arith)
          (ap (λ n. first_bits n words) (sym full) ∙ answered.told) of ∙ sym (map-append test front chunk);
      len = omega arith;
      whole = λ h. omega arith;
    })

-- nothing left
pub AreAnswered-len : {X : Type 0} (test : X → Bool) (items rest : List X) (words : List ℕ) → AreAnswered test items rest words → length rest ≡ 0 → length words ≡ (length items + 63) / 64
AreAnswered-len {X} test items rest words answered none =
    let size : length items ≡ length answered.front + length rest = ap (λ (xs : List X). length xs) answered.split ∙ length-append answered.front rest in
    answered.len ∙ ap (λ n. (n + 63) / 64) (omega arith)

pub AreAnswered-bits : {X : Type 0} (test : X → Bool) (items rest : List X) (words : List ℕ) → AreAnswered test items rest words → length rest ≡ 0 → first_bits (length items) words ≡ map test items
AreAnswered-bits {X} test items rest words answered none =
    let all : items ≡ answered.front = answered.split ∙ ap (λ (xs : List X). answered.front ++ xs) (nil_from_length rest none) ∙ append-nil answered.front in
    subst (λ (xs : List X). first_bits (length xs) words ≡ map test xs) (sym all) answered.told

-- an item more in a word
pub IsWordOf-next : {X : Type 0} (test : X → Bool) (items : List X) (k w v : ℕ) (x : X) (b : Bool) → k < length items → length items ≤ 64 → get_or items k x ≡ x → b ≡ test x → v ≡ bool_byte b
    → IsWordOf w (map test (take k items)) → IsWordOf (bit_or w (v * 2 ^ k % 2 ^ 64)) (map test (take (k + 1) items))
IsWordOf-next {X} test items k w v x b within few here is from of =
    let size : length (map test (take k items)) ≡ k = omega (arith, length-map (take k items) test, length-take k items) in
    let grown : map test (take k items) ++ b ∷ [] ≡ map test (take (k + 1) items) =
    ap (λ (c : Bool). map test (take k items) ++ c ∷ []) (is ∙ ap test (sym here)) ∙ sym (map_push test (take k items) (get_or items k x)) ∙ ap (map test) (sym (take_more items k x within)) in
    subst (IsWordOf (bit_or w (v * 2 ^ k % 2 ^ 64))) grown (IsWordOf-push w v k (map test (take k items)) b (sym size) (omega arith) from of)

-- a test of an optional item, by its flag
and_true : (b : Bool) → (b && true) ≡ b
and_true true = refl
and_true false = refl

and_false : (b : Bool) → (b && false) ≡ false
and_false true = refl
and_false false = refl

held_at : {X : Type 0} (test : X → Bool) (items : List X) (flags : List Bool) (i : ℕ) → length flags ≡ length items
    → get_or (map (is_held test) (optionals items flags)) i false ≡ (get_or (map test items) i false && get_or flags i false)
held_at test [] [] i same = refl
held_at test [] (b ∷ flags) i same = cc
held_at test (x ∷ items) [] i same = cc
held_at test (x ∷ items) (true ∷ flags) zero same = sym (and_true (test x))
held_at test (x ∷ items) (false ∷ flags) zero same = sym (and_false (test x))
held_at test (x ∷ items) (b ∷ flags) (suc i) same = held_at test items flags i (omega (arith, same))

length-optionals : {X : Type 0} (items : List X) (flags : List Bool) → length flags ≡ length items → length (optionals items flags) ≡ length items
length-optionals [] flags same = refl
length-optionals (x ∷ items) [] same = cc
length-optionals (x ∷ items) (b ∷ flags) same = ap suc (length-optionals items flags (omega (arith, same)))

-- the first n words are those of before without the bits that the others don't have, and all after them stay
pub record AreKept (old others now : List ℕ) (n : ℕ) : Type 0 where
  pub before : (k : ℕ) → k < n → get_or now k 0 ≡ bit_and (get_or old k 0) (get_or others k 0)
  pub after : (k : ℕ) → n ≤ k → get_or now k 0 ≡ get_or old k 0

pub AreKept-none : (old others : List ℕ) → AreKept old others old 0
AreKept-none old others = record { before = λ k h. absurd (omega arith); after = λ k h. refl }

pub AreKept-next : (old others now : List ℕ) (n : ℕ) → n < length now → AreKept old others now n → AreKept old others (set now n (bit_and (get_or now n 0) (get_or others n 0))) (n + 1)
AreKept-next old others now n within kept =
    let word = bit_and (get_or now n 0) (get_or others n 0) in
    record {
      before = λ k h. ⊎_elim
          (λ (here : k ≡ n).
          subst (λ (j : ℕ). get_or (set now n word) j 0 ≡ bit_and (get_or old j 0) (get_or others j 0)) (sym here)
          (get_or-set_same now n word 0 within ∙ ap (λ v. bit_and v (get_or others n 0)) (kept.after n (omega arith))))
          (λ (other : k ≢ n). get_or-set_other now n k word 0 other ∙ kept.before k (omega arith))
          (cases_eq k n);
      after = λ k h. get_or-set_other now n k word 0 (λ here. absurd (omega arith)) ∙ kept.after k (omega arith);
    }

-- the bits of words of which only those are left whose items are not null
pub held_bits : {X : Type 0} (test : X → Bool) (items : List X) (flags : List Bool) (n : ℕ) (words own others both : List ℕ) → length flags ≡ length items → n ≡ length items
    → length words ≡ (length items + 63) / 64 → first_bits (length items) words ≡ map test items → own ≡ words → Packs others flags
    → ((k : ℕ) → k < length own → get_or both k 0 ≡ bit_and (get_or own k 0) (get_or others k 0)) → first_bits n both ≡ map (is_held test) (optionals items flags)
held_bits {X} test items flags n words own others both same all enough told lent packs kept =
    let size : length (map (is_held test) (optionals items flags)) ≡ n = omega (arith, length-map (optionals items flags) (is_held test), length-optionals items flags same) in
    let long : length own ≡ (length items + 63) / 64 = ap (λ (ws : List ℕ). length ws) lent ∙ enough in
    bits_of_digits n both (map (is_held test) (optionals items flags)) size
    (λ i h.
    let held : digit_at own i ≡ one_if (get_or (map test items) i false) =
    ap (λ ws. digit_at ws i) lent ∙ digit_of_bit (length items) words i (omega arith) ∙ ap (λ (bs : List Bool). one_if (get_or bs i false)) told in
    and_digit own others both i (get_or (map test items) i false) (get_or flags i false) (kept (i / 64) (omega arith)) held (packs.digit i)
    ∙ ap one_if (sym (held_at test items flags i same)))
