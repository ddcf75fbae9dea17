-- Runs of packed bits that are made one bit.
use Rattle.std.proofs.Common.{◌≡◌, ◌≢◌, ◌+◌, ◌-◌, ◌*◌, ◌/◌, ◌%◌, ◌<◌, ◌≤◌, ◌∙◌, ◌++◌, ◌&&◌, ℕ, List, Bool, true, false, length, set, replicate, refl, sym, ap, arith, get_or, length-append, length-set, take, drop, length-take, length-drop, cond, leb, ltb, ⊎_elim}
use Rattle.std.specs.Int.{bit_at}
use Rattle.std.proofs.lemmas.Bool.{cases_eq, cases_lt}
use Rattle.std.proofs.lemmas.List.{get_or-replicate, length-replicate, get_or-append_right, get_or_append_left, get_or-drop, get_or-take}
use borrow.Rule.Slice.PartMut.{put_mid}
use Rattle.column_base.specs.Words.{digit_at, one_if, IsFilled}
use Rattle.column_base.proofs.WordDigits.{Holds, digit_in_word, digit_set_same, digit_set_other}
use Rattle.column_base.proofs.WordMasks.{between_in, between_below, between_above}

-- one word filled
pub IsFilled-word : (words : List ℕ) (k v low high : ℕ) (b : Bool) → k < length words → low < high → high ≤ 64
    → ((j : ℕ) → j < 64 → bit_at v j ≡ cond (leb low j && ltb j high) (one_if b) (bit_at (get_or words k 0) j))
    → IsFilled words (set words k v) (k * 64 + low) (k * 64 + high) b
IsFilled-word words k v low high b within ordered wide digits =
    let kept : (i : ℕ) → (i / 64 ≡ k → (leb low (i % 64) && ltb (i % 64) high) ≡ false) → digit_at (set words k v) i ≡ digit_at words i =
    λ i out. ⊎_elim
    (λ (same : i / 64 ≡ k). digit_set_same words k v i within same ∙ digits (i % 64) (omega arith) ∙ rw (out same) (sym (digit_in_word words k i same)))
    (λ (other : i / 64 ≢ k). digit_set_other words k v i other)
    (cases_eq (i / 64) k) in
    record {
      len = length-set words k v;
      before = λ i h. kept i (λ same. between_below low high (i % 64) (omega arith));
      inside = λ i p q.
          let same : i / 64 ≡ k = omega arith in
          let here : (leb low (i % 64) && ltb (i % 64) high) ≡ true = between_in low high (i % 64) (omega arith) (omega arith) in
          digit_set_same words k v i within same ∙ digits (i % 64) (omega arith) ∙ rw here refl;
      after = λ i h. kept i (λ same. between_above low high (i % 64) (omega arith));
    }

-- whole words filled
digit_mid_before : (words ys : List ℕ) (a k i : ℕ) → a ≤ length words → i / 64 < a → digit_at (put_mid a k words ys) i ≡ digit_at words i
unfolding digit_at
digit_mid_before words ys a k i within h =
    ap (λ w. bit_at w (i % 64)) (get_or_append_left (take a words) (ys ++ drop k (drop a words)) 0 (i / 64) (omega (arith, length-take a words)) ∙ get_or-take a words (i / 64) 0 h)

digit_mid_inside : (words ys : List ℕ) (a k w i : ℕ) → a ≤ length words → ys ≡ replicate k w → a ≤ i / 64 → i / 64 < a + k → digit_at (put_mid a k words ys) i ≡ bit_at w (i % 64)
unfolding digit_at
digit_mid_inside words ys a k w i within all low high =
    let front : length (take a words) ≡ a = omega (arith, length-take a words) in
    let size : length ys ≡ k = ap length all ∙ length-replicate k w in
    ap (λ v. bit_at v (i % 64))
    (get_or-append_right (take a words) (ys ++ drop k (drop a words)) a (i / 64) 0 front low
    ∙ get_or_append_left ys (drop k (drop a words)) 0 (i / 64 - a) (omega arith)
    ∙ rw all (get_or-replicate k (i / 64 - a) w 0 (omega arith)))

digit_mid_after : (words ys : List ℕ) (a k i : ℕ) → a ≤ length words → length ys ≡ k → a + k ≤ i / 64 → digit_at (put_mid a k words ys) i ≡ digit_at words i
unfolding digit_at
digit_mid_after words ys a k i within size high =
    let front : length (take a words) ≡ a = omega (arith, length-take a words) in
    let place : a + (k + (i / 64 - a - k)) ≡ i / 64 = omega arith in
    ap (λ v. bit_at v (i % 64))
    (get_or-append_right (take a words) (ys ++ drop k (drop a words)) a (i / 64) 0 front (omega arith)
    ∙ get_or-append_right ys (drop k (drop a words)) k (i / 64 - a) 0 size (omega arith)
    ∙ get_or-drop k (drop a words) (i / 64 - a - k) 0
    ∙ get_or-drop a words (k + (i / 64 - a - k)) 0
    ∙ ap (λ p. get_or words p 0) place)

-- as many words as before
length-put_mid : (a k : ℕ) (xs ys : List ℕ) → a + k ≤ length xs → length ys ≡ k → length (put_mid a k xs ys) ≡ length xs
length-put_mid a k xs ys within size =
    omega (arith, length-append (take a xs) (ys ++ drop k (drop a xs)), length-append ys (drop k (drop a xs)), length-take a xs, length-drop k (drop a xs), length-drop a xs)

pub IsFilled-whole : (words ys : List ℕ) (a e w : ℕ) (b : Bool) → a ≤ e → e ≤ length words → ys ≡ replicate (length (take (e - a) (drop a words))) w → ((j : ℕ) → j < 64 → bit_at w j ≡ one_if b)
    → IsFilled words (put_mid a (e - a) words ys) (a * 64) (e * 64) b
IsFilled-whole words ys a e w b ordered within filled digits =
    let part : length (take (e - a) (drop a words)) ≡ e - a = omega (arith, length-take (e - a) (drop a words), length-drop a words) in
    let all : ys ≡ replicate (e - a) w = filled ∙ ap (λ k. replicate k w) part in
    let size : length ys ≡ e - a = ap length all ∙ length-replicate (e - a) w in
    record {
      len = length-put_mid a (e - a) words ys (omega arith) size;
      before = λ i h. digit_mid_before words ys a (e - a) i (omega arith) (omega arith);
      inside = λ i p q. digit_mid_inside words ys a (e - a) w i (omega arith) all (omega arith) (omega arith) ∙ digits (i % 64) (omega arith);
      after = λ i h. digit_mid_after words ys a (e - a) i (omega arith) size (omega arith);
    }

-- a bit of a list of which a range was filled
bit_of_filled : (bits : List Bool) (start stop : ℕ) (b : Bool) (i : ℕ) → start ≤ stop → stop ≤ length bits
    → one_if (get_or (take start bits ++ (replicate (stop - start) b ++ drop stop bits)) i false)
    ≡ cond (leb start i && ltb i stop) (one_if b) (one_if (get_or bits i false))
bit_of_filled bits start stop b i ordered within =
    let run = replicate (stop - start) b in
    let front : length (take start bits) ≡ start = omega (arith, length-take start bits) in
    let middle : length run ≡ stop - start = length-replicate (stop - start) b in
    ⊎_elim
    (λ (p : i < start).
    rw (between_below start stop i p)
    (ap one_if (get_or_append_left (take start bits) (run ++ drop stop bits) false i (omega arith) ∙ get_or-take start bits i false p)))
    (λ (p : start ≤ i). ⊎_elim
    (λ (q : i < stop).
    rw (between_in start stop i p q)
    (ap one_if
    (get_or-append_right (take start bits) (run ++ drop stop bits) start i false front p
    ∙ get_or_append_left run (drop stop bits) false (i - start) (omega arith)
    ∙ get_or-replicate (stop - start) (i - start) b false (omega arith))))
    (λ (q : stop ≤ i).
    let place : stop + (i - start - (stop - start)) ≡ i = omega arith in
    rw (between_above start stop i q)
    (ap one_if
    (get_or-append_right (take start bits) (run ++ drop stop bits) start i false front p
    ∙ get_or-append_right run (drop stop bits) (stop - start) (i - start) false middle (omega arith)
    ∙ get_or-drop stop bits (i - start - (stop - start)) false
    ∙ ap (λ k. get_or bits k false) place)))
    (cases_lt i stop))
    (cases_lt i start)

-- a digit of words of which a range was filled
digit_filled : {old new : List ℕ} {start stop : ℕ} {b : Bool} (i : ℕ) → IsFilled old new start stop b → digit_at new i ≡ cond (leb start i && ltb i stop) (one_if b) (digit_at old i)
digit_filled {old} {new} {start} {stop} {b} i filled = ⊎_elim
    (λ (p : i < start). rw (between_below start stop i p) (filled.before i p))
    (λ (p : start ≤ i). ⊎_elim
    (λ (q : i < stop). rw (between_in start stop i p q) (filled.inside i p q))
    (λ (q : stop ≤ i). rw (between_above start stop i q) (filled.after i q))
    (cases_lt i stop))
    (cases_lt i start)

-- a buffer of which a range was filled
pub range_filled : {n : ℕ} {words was more : List ℕ} {bits : List Bool} {start stop : ℕ} {b : Bool} → Holds n words bits → was ≡ words → IsFilled was more start stop b → start ≤ stop → stop ≤ length bits
    → Holds n more (take start bits ++ (replicate (stop - start) b ++ drop stop bits))
range_filled {n} {words} {was} {more} {bits} {start} {stop} {b} holds same filled ordered within =
    let run = replicate (stop - start) b in
    let size : length (take start bits ++ (run ++ drop stop bits)) ≡ length bits =
    omega (arith, length-append (take start bits) (run ++ drop stop bits), length-append run (drop stop bits), length-replicate (stop - start) b, length-take start bits, length-drop stop bits) in
    record {
      packs = record {
        least = filled.len ∙ ap length same ∙ holds.packs.least ∙ ap (λ k. (k + 63) / 64) (sym size);
        digit = λ i.
            digit_filled i filled
            ∙ ap (λ d. cond (leb start i && ltb i stop) (one_if b) d) (ap (λ ws. digit_at ws i) same ∙ holds.packs.digit i)
            ∙ sym (bit_of_filled bits start stop b i ordered within);
      };
      len = size ∙ holds.len;
    }
