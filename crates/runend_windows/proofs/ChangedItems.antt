-- Words of bits of the items that differ from the item before.
use Rattle.std.proofs.Common.{◌≡◌, ◌≢◌, ◌∙◌, ◌+◌, ◌-◌, ◌*◌, ◌/◌, ◌%◌, ◌^◌, ◌<◌, ◌≤◌, ℕ, List, Bool, true, false, Some, length, min, max, bit_and, bit_or, refl, sym, ap, subst, arith, get_or, ⊎_elim}
use Rattle.std.specs.Prelude.{◌↔◌, IsTrue, slice_get}
use Rattle.std.specs.Int.{bit_at}
use Rattle.std.proofs.lemmas.Bool.{cases_eq, cases_lt}
use Rattle.std.proofs.lemmas.Nat.{and_mask, pow_pos}
use Rattle.std.proofs.lemmas.Nat.Bits.{bit_at_above, bit_at_and, bit_at_cat_high, bit_at_cat_low, bit_at_lowest, bit_at_or, bit_at-zero}
use Rattle.std.proofs.lemmas.Option.{slice_get-get_or}
use Rattle.column_base.specs.Words.{Packs, digit_at, one_if}
use Rattle.column_base.proofs.WordDigits.{digit_in_word}
use Rattle.column_base.proofs.WordGrowth.{shifted_bit-other, shifted_bit-same}
use Rattle.column_base.proofs.WordMasks.{bit_at-cut}
use Rattle.runend_windows.specs.Starts.{AreChangeBits, GoesOn}

-- no rows have no bits
pub AreChangeBits-none : {B : Type 0} (rows : List B) (start : ℕ) → AreChangeBits rows start start 0
AreChangeBits-none rows start = record {
  told = λ lane h. absurd (omega arith);
  clear = λ lane h. none lane;
}
  where
    none : (lane : ℕ) → bit_at 0 lane ≡ 0
    none lane = let zero_over : 0 / 2 ^ lane ≡ 0 = omega arith in rw zero_over refl

-- a bit that is one if a row is not the row before
told_one : {B : Type 0} (rows : List B) (row : ℕ) (same differs : Bool) → (IsTrue same ↔ GoesOn rows row) → (same ≡ true → differs ≡ false) → (same ≡ false → differs ≡ true)
    → ((one_if differs ≡ 0) ↔ GoesOn rows row)
told_one rows row true differs tells goes_on stops = rw (goes_on refl) ((λ z. tells.0 refl), (λ goes. refl))
told_one rows row false differs tells goes_on stops = rw (stops refl) ((λ one. absurd (omega arith)), (λ goes. let wrong : false ≡ true = tells.1 goes in cc))

-- a row more
pub AreChangeBits-next : {B : Type 0} (rows : List B) (start row word : ℕ) (same differs : Bool) → start ≤ row → row - start < 64
    → (IsTrue same ↔ GoesOn rows row) → (same ≡ true → differs ≡ false) → (same ≡ false → differs ≡ true)
    → AreChangeBits rows start row word → AreChangeBits rows start (row + 1) (bit_or word (one_if differs * 2 ^ (row - start) % 2 ^ 64))
AreChangeBits-next rows start row word same differs ordered few tells goes_on stops lanes =
    let k : ℕ = row - start in
    let bit : ℕ = one_if differs * 2 ^ k % 2 ^ 64 in
    record {
      told = λ lane h. ⊎_elim
          (λ (here : lane ≡ k).
          let at : start + lane ≡ row = omega arith in
          let low : bit_at word lane ≡ 0 = lanes.clear lane (omega arith) in
          let own : bit_at bit lane ≡ one_if differs = ap (bit_at bit) here ∙ shifted_bit-same differs k few in
          let is : bit_at (bit_or word bit) lane ≡ one_if differs = omega (arith, bit_at_or word bit lane, low, own) in
          rw (is, at) (told_one rows row same differs tells goes_on stops))
          (λ (other : lane ≢ k).
          let own : bit_at bit lane ≡ 0 = shifted_bit-other differs k lane few other in
          let is : bit_at (bit_or word bit) lane ≡ bit_at word lane = omega (arith, bit_at_or word bit lane, own) in
          rw is (lanes.told lane (omega arith)))
          (cases_eq lane k);
      clear = λ lane h.
          let own : bit_at bit lane ≡ 0 = shifted_bit-other differs k lane few (λ same. absurd (omega arith)) in
          let low : bit_at word lane ≡ 0 = lanes.clear lane (omega arith) in
          omega (arith, bit_at_or word bit lane, low, own);
    }

-- the same of a row by its place in the word
pub AreChangeBits-lane : {B : Type 0} (rows : List B) (start lane word bit : ℕ) (same differs : Bool) → lane < 64 → bit ≡ one_if differs
    → (IsTrue same ↔ GoesOn rows (start + lane)) → (same ≡ true → differs ≡ false) → (same ≡ false → differs ≡ true)
    → AreChangeBits rows start (start + lane) word → AreChangeBits rows start (start + (lane + 1)) (bit_or word (bit * 2 ^ lane % 2 ^ 64))
AreChangeBits-lane rows start lane word bit same differs few is tells goes_on stops lanes =
    let at : start + lane - start ≡ lane = omega arith in
    let next : start + lane + 1 ≡ start + (lane + 1) = omega arith in
    subst (λ (k : ℕ). AreChangeBits rows start (start + (lane + 1)) (bit_or word (bit * 2 ^ k % 2 ^ 64))) at
    (subst (λ (stop : ℕ). AreChangeBits rows start stop (bit_or word (bit * 2 ^ (start + lane - start) % 2 ^ 64))) next
    (subst (λ (v : ℕ). AreChangeBits rows start (start + lane + 1) (bit_or word (v * 2 ^ (start + lane - start) % 2 ^ 64))) (sym is)
    (AreChangeBits-next rows start (start + lane) word same differs (omega arith) (omega arith) tells goes_on stops lanes)))

-- a word shifted up
shifted-low : (w k lane : ℕ) → lane < 64 → lane < k → bit_at (w * 2 ^ k % 2 ^ 64) lane ≡ 0
shifted-low w k lane within below =
    let none : w * 2 ^ k ≡ w * 2 ^ k + 0 = omega arith in
    bit_at-cut (w * 2 ^ k) 64 lane within ∙ rw none (bit_at_cat_low w k 0 lane below ∙ bit_at-zero lane)

shifted-high : (w k lane : ℕ) → lane < 64 → k ≤ lane → bit_at (w * 2 ^ k % 2 ^ 64) lane ≡ bit_at w (lane - k)
shifted-high w k lane within from =
    let none : w * 2 ^ k ≡ w * 2 ^ k + 0 = omega arith in
    bit_at-cut (w * 2 ^ k) 64 lane within ∙ rw none (bit_at_cat_high w k 0 lane (pow_pos k) from)

shifted-above : (w k lane : ℕ) → 64 ≤ lane → bit_at (w * 2 ^ k % 2 ^ 64) lane ≡ 0
shifted-above w k lane above = bit_at_above (w * 2 ^ k % 2 ^ 64) 64 lane (omega arith) above

-- the bits of more rows, above those of the rows before
pub AreChangeBits-joined : {B : Type 0} (rows : List B) (start k middle stop last word more : ℕ) → middle ≡ start + k → stop ≡ last → middle ≤ stop → stop ≤ start + 64
    → AreChangeBits rows start middle word → AreChangeBits rows middle last more → AreChangeBits rows start stop (bit_or word (more * 2 ^ k % 2 ^ 64))
AreChangeBits-joined rows start k middle stop last word more placed same further few low high =
    let part : ℕ = more * 2 ^ k % 2 ^ 64 in
    record {
      told = λ lane h. ⊎_elim
          (λ (below : lane < k).
          let none : bit_at part lane ≡ 0 = shifted-low more k lane (omega arith) below in
          let is : bit_at (bit_or word part) lane ≡ bit_at word lane = omega (arith, bit_at_or word part lane, none) in
          rw is (low.told lane (omega arith)))
          (λ (from : k ≤ lane).
          let none : bit_at word lane ≡ 0 = low.clear lane (omega arith) in
          let own : bit_at part lane ≡ bit_at more (lane - k) = shifted-high more k lane (omega arith) from in
          let is : bit_at (bit_or word part) lane ≡ bit_at more (lane - k) = omega (arith, bit_at_or word part lane, none, own) in
          let at : start + lane ≡ middle + (lane - k) = omega arith in
          rw (is, at) (high.told (lane - k) (omega arith)))
          (cases_lt lane k);
      clear = λ lane h.
          let none : bit_at word lane ≡ 0 = low.clear lane (omega arith) in
          let own : bit_at part lane ≡ 0 = ⊎_elim
          (λ (within : lane < 64). shifted-high more k lane within (omega arith) ∙ high.clear (lane - k) (omega arith))
          (λ (above : 64 ≤ lane). shifted-above more k lane above)
          (cases_lt lane 64) in
          omega (arith, bit_at_or word part lane, none, own);
    }

-- the digit before that of a word, in the word before or in the same one
pub digit-before_first : (words : List ℕ) (word : ℕ) → word ≡ get_or words 0 0 → bit_and word 1 ≡ digit_at words 0
digit-before_first words word read =
    and_mask word 1 ∙ sym (bit_at_lowest word) ∙ ap (λ w. bit_at w 0) read ∙ sym (digit_in_word words 0 0 refl)

pub digit-before_word : (words : List ℕ) (index word : ℕ) → 0 < index → word < 2 ^ 64 → word ≡ get_or words (index - 1) 0 → word / 2 ^ 63 ≡ digit_at words (index * 64 - 1)
digit-before_word words index word some fits read =
    let here : (index * 64 - 1) / 64 ≡ index - 1 = omega arith in
    let lane : (index * 64 - 1) % 64 ≡ 63 = omega arith in
    let low : word / 2 ^ 63 < 2 = omega arith in
    let bit : bit_at word 63 ≡ word / 2 ^ 63 = omega arith in
    sym bit ∙ ap (λ w. bit_at w 63) read ∙ ap (bit_at (get_or words (index - 1) 0)) (sym lane) ∙ sym (digit_in_word words (index - 1) (index * 64 - 1) here)

-- a word and the bits before its bits
pub bit-before : (words : List ℕ) (index word before lane : ℕ) → word ≡ get_or words index 0 → before ≡ digit_at words (index * 64 - 1) → before < 2 → lane < 64
    → bit_at (bit_or (word * 2 ^ 1 % 2 ^ 64) before) lane ≡ digit_at words (index * 64 + lane - 1)
bit-before words index word before lane read is small within = ⊎_elim
    (λ (first : lane ≡ 0).
    let none : bit_at (word * 2 ^ 1 % 2 ^ 64) lane ≡ 0 = shifted-low word 1 lane within (omega arith) in
    let own : bit_at before lane ≡ before = rw first (omega arith) in
    let at : index * 64 + lane - 1 ≡ index * 64 - 1 = omega arith in
    rw at (omega (arith, bit_at_or (word * 2 ^ 1 % 2 ^ 64) before lane, none, own)))
    (λ (other : lane ≢ 0).
    let i : ℕ = index * 64 + lane - 1 in
    let here : i / 64 ≡ index = omega arith in
    let place : i % 64 ≡ lane - 1 = omega arith in
    let none : bit_at before lane ≡ 0 = bit_at_above before 1 lane (omega arith) (omega arith) in
    let own : bit_at (word * 2 ^ 1 % 2 ^ 64) lane ≡ bit_at word (lane - 1) = shifted-high word 1 lane within (omega arith) in
    let digit : digit_at words i ≡ bit_at word (lane - 1) = digit_in_word words index i here ∙ ap (λ w. bit_at w (i % 64)) (sym read) ∙ ap (bit_at word) place in
    omega (arith, bit_at_or (word * 2 ^ 1 % 2 ^ 64) before lane, none, own, digit))
    (cases_eq lane 0)

-- the digit of a bit of a word
pub digit-here : (words : List ℕ) (index word lane : ℕ) → word ≡ get_or words index 0 → lane < 64 → digit_at words (index * 64 + lane) ≡ bit_at word lane
digit-here words index word lane read within =
    let i : ℕ = index * 64 + lane in
    let here : i / 64 ≡ index = omega arith in
    let place : i % 64 ≡ lane = omega arith in
    digit_in_word words index i here ∙ ap (λ w. bit_at w (i % 64)) (sym read) ∙ ap (bit_at word) place

-- a bit of a word, or of both others
pub either-bit : (changed word items lane : ℕ) → bit_at (bit_or changed (bit_and word items)) lane ≡ max (bit_at changed lane) (min (bit_at word lane) (bit_at items lane))
either-bit changed word items lane = bit_at_or changed (bit_and word items) lane ∙ ap (max (bit_at changed lane)) (bit_at_and word items lane)

-- bits that are equal as numbers are equal
pub same-bits : (a b : Bool) → one_if a ≡ one_if b → a ≡ b
same-bits true true e = refl
same-bits true false e = absurd (omega arith)
same-bits false true e = absurd (omega arith)
same-bits false false e = refl

-- a bit that says whether the digits of two bits differ
pub bits-go_on : (words : List ℕ) (bits : List Bool) (row bit : ℕ) → Packs words bits → row < length bits
    → (digit_at words (row - 1) ≡ digit_at words row → bit ≡ 0) → (digit_at words (row - 1) ≢ digit_at words row → bit ≡ 1) → ((bit ≡ 0) ↔ GoesOn bits row)
bits-go_on words bits row bit packs within same differs =
    let left : ℕ = row - 1 in
    let a : Bool = get_or bits left false in
    let b : Bool = get_or bits row false in
    let last : slice_get bits left ≡ Some a = slice_get-get_or bits left false (omega arith) in
    let here : slice_get bits row ≡ Some b = slice_get-get_or bits row false within in (
      (λ none. ⊎_elim
          (λ (e : digit_at words left ≡ digit_at words row).
          let one : a ≡ b = same-bits a b (sym (packs.digit left) ∙ e ∙ packs.digit row) in
          last ∙ ap (λ (v : Bool). Some v) one ∙ sym here)
          (λ (d : digit_at words left ≢ digit_at words row). absurd (omega (arith, differs d)))
          (cases_eq (digit_at words left) (digit_at words row))),
      (λ goes.
          let both : Some a ≡ Some b = sym last ∙ goes ∙ here in
          let one : a ≡ b = cc in
          same (packs.digit left ∙ ap one_if one ∙ sym (packs.digit row))),
    )
