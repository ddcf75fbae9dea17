-- The rows of a flat column that are true, by the bits that it stores.
use Rattle.std.proofs.Common.{◌≡◌, ◌∙◌, ◌+◌, ◌*◌, ◌/◌, ◌%◌, ◌<◌, ◌≤◌, ◌&&◌, ◌++◌, inl, inr, sym, ap, subst, refl, ℕ, zero, suc, List, [], ◌∷◌, Bool, true, false, length, map, replicate, arith, bit_and}
use Rattle.std.specs.Prelude.{option_map, slice_index, slice_index_or}
use Rattle.std.specs.Int.{bit_at}
use Rattle.std.proofs.lemmas.Bool.{cases_lt}
use Rattle.std.proofs.lemmas.List.{get_or_append_left, get_or_push, length_push}
use Rattle.std.proofs.lemmas.Nat.Bits.{bit_at_and}
use Rattle.column_base.specs.ValidityForm.{ValidityForm, NeverNull, NoneNull, AllNull, ByBits, flags}
use Rattle.column_base.specs.Words.{Packs, digit_at, first_bits, one_if}
use Rattle.column_base.proofs.WordBits.{and_digit, bits_of_digits}
use Rattle.column_core.specs.BoolForm.{BoolForm}
use Rattle.column_core.specs.Leaf.{OfTruths, single_rows}
use Rattle.column_core.specs.Optionals.{optionals}
use Rattle.column_core.specs.Value.{Single, Truth}
use Rattle.runend_select.specs.MaskRuns.{is_true}
use Rattle.c_columns.specs.TwoColumns.{AreOfBoth, AreWithin}

-- the rows that are true, of bits and flags
abbrev truths_of : List Bool → List Bool → List Bool
truths_of bits valid = map is_true (map (option_map Single) (map (option_map Truth) (optionals bits valid)))

all_valid : (bits : List Bool) → truths_of bits (replicate (length bits) true) ≡ bits
all_valid [] = refl
all_valid (bit ∷ bits) = ap (λ (l : List Bool). bit ∷ l) (all_valid bits)

none_true : (bits : List Bool) → truths_of bits (replicate (length bits) false) ≡ replicate (length bits) false
none_true [] = refl
none_true (bit ∷ bits) = ap (λ (l : List Bool). false ∷ l) (none_true bits)

all_within : (bits valid : List Bool) → length valid ≡ length bits → AreWithin bits valid → truths_of bits valid ≡ bits
all_within [] valid counted within = refl
all_within (bit ∷ bits) [] counted within = absurd (omega (arith, counted))
all_within (true ∷ bits) (true ∷ valid) counted within = ap (λ (l : List Bool). true ∷ l) (all_within bits valid (omega (arith, counted)) (λ i some here. within (suc i) (omega (arith, some)) here))
all_within (true ∷ bits) (false ∷ valid) counted within = let there : false ≡ true = within 0 (omega arith) refl in absurd (cc)
all_within (false ∷ bits) (true ∷ valid) counted within = ap (λ (l : List Bool). false ∷ l) (all_within bits valid (omega (arith, counted)) (λ i some here. within (suc i) (omega (arith, some)) here))
all_within (false ∷ bits) (false ∷ valid) counted within = ap (λ (l : List Bool). false ∷ l) (all_within bits valid (omega (arith, counted)) (λ i some here. within (suc i) (omega (arith, some)) here))

-- where the validity has no bits
of_flags : (form : BoolForm) (validity : ValidityForm) → form.validity ≡ validity → truths_of form.bits (flags validity (length form.bits)) ≡ map is_true (single_rows (OfTruths form))
of_flags form validity is = sym (ap (λ (v : ValidityForm). truths_of form.bits (flags v (length form.bits))) is)

pub never_null : (form : BoolForm) → form.validity ≡ NeverNull → form.bits ≡ map is_true (single_rows (OfTruths form))
never_null form is = sym (all_valid form.bits) ∙ of_flags form NeverNull is

pub none_null : (form : BoolForm) → form.validity ≡ NoneNull → form.bits ≡ map is_true (single_rows (OfTruths form))
none_null form is = sym (all_valid form.bits) ∙ of_flags form NoneNull is

pub all_null : (form : BoolForm) → form.validity ≡ AllNull → replicate (length form.bits) false ≡ map is_true (single_rows (OfTruths form))
all_null form is = sym (none_true form.bits) ∙ of_flags form AllNull is

-- where false is stored under null
pub bits_within : (form : BoolForm) (valid : List Bool) → form.validity ≡ ByBits valid → length valid ≡ length form.bits → AreWithin form.bits valid → form.bits ≡ map is_true (single_rows (OfTruths form))
bits_within form valid is counted within = sym (all_within form.bits valid counted within) ∙ of_flags form (ByBits valid) is

-- one word more
word_within : (word limit : ℕ) → bit_and word limit ≡ word → (j : ℕ) → bit_at word j ≤ bit_at limit j
word_within word limit same j =
    let both = bit_at_and word limit j in
    let is : bit_at (bit_and word limit) j ≡ bit_at word j = ap (λ (n : ℕ). bit_at n j) same in
    omega (arith, both, is)

pub one_word_more : (words limits : List ℕ) (index : ℕ) → ((i : ℕ) → i < index * 64 → digit_at words i ≤ digit_at limits i) → bit_and (slice_index words index) (slice_index limits index) ≡ slice_index words index
    → (i : ℕ) → i < (index + 1) * 64 → digit_at words i ≤ digit_at limits i
unfolding digit_at
one_word_more words limits index so_far same i before = elim (cases_lt i (index * 64)) [
  | inl earlier ↦ so_far i earlier
  | inr from ↦
      let here : i / 64 ≡ index = omega (arith, before, from) in
      subst (λ (n : ℕ). bit_at (slice_index words n) (i % 64) ≤ bit_at (slice_index limits n) (i % 64)) (sym here) (word_within (slice_index words index) (slice_index limits index) same (i % 64))
]

-- all words
is_one : (b c : Bool) → one_if b ≤ one_if c → b ≡ true → c ≡ true
is_one true true le is = refl
is_one true false le is = absurd (omega (arith, le))
is_one false true le is = refl
is_one false false le is = cc

pub all_words : (bits others : List Bool) (words limits : List ℕ) (index : ℕ) → Packs words bits → Packs limits others → length words ≤ index → ((i : ℕ) → i < index * 64 → digit_at words i ≤ digit_at limits i) → AreWithin bits others
all_words bits others words limits index packed packed_others all so_far i within =
    let least = packed.least in
    let digit = packed.digit i in
    let limit = packed_others.digit i in
    let le = so_far i (omega (arith, least, all, within)) in
    is_one (slice_index_or bits i false) (slice_index_or others i false) (omega (arith, digit, limit, le))

-- where true is stored under null too
and_true : (b : Bool) → b ≡ (b && true)
and_true true = refl
and_true false = refl

and_false : (b : Bool) → false ≡ (b && false)
and_false true = refl
and_false false = refl

length-truths_of : (bits valid : List Bool) → length valid ≡ length bits → length (truths_of bits valid) ≡ length bits
length-truths_of [] valid counted = refl
length-truths_of (bit ∷ bits) [] counted = cc
length-truths_of (bit ∷ bits) (flag ∷ valid) counted = ap suc (length-truths_of bits valid (omega (arith, counted)))

truths_at : (bits valid : List Bool) (i : ℕ) → length valid ≡ length bits → slice_index_or (truths_of bits valid) i false ≡ (slice_index_or bits i false && slice_index_or valid i false)
truths_at [] [] i counted = refl
truths_at [] (flag ∷ valid) i counted = cc
truths_at (bit ∷ bits) [] i counted = cc
truths_at (bit ∷ bits) (true ∷ valid) zero counted = and_true bit
truths_at (bit ∷ bits) (false ∷ valid) zero counted = and_false bit
truths_at (bit ∷ bits) (flag ∷ valid) (suc i) counted = truths_at bits valid i (omega (arith, counted))

pub bits_of_both : (form : BoolForm) (valid : List Bool) (words others both : List ℕ) (n : ℕ) → form.validity ≡ ByBits valid → length valid ≡ length form.bits → n ≡ length form.bits
    → Packs words form.bits → Packs others valid → AreOfBoth words others both (length words) → first_bits n both ≡ map is_true (single_rows (OfTruths form))
bits_of_both form valid words others both n is counted all packed packed_valid of_both =
    let bits = form.bits in
    bits_of_digits n both (truths_of bits valid) (omega (arith, length-truths_of bits valid counted))
    (λ i h.
    and_digit words others both i (slice_index_or bits i false) (slice_index_or valid i false) (of_both.word (i / 64) (omega (arith, packed.least))) (packed.digit i) (packed_valid.digit i)
    ∙ ap one_if (sym (truths_at bits valid i counted)))
    ∙ of_flags form (ByBits valid) is

-- words of both: none, and one more
pub AreOfBoth-none : (words others : List ℕ) → AreOfBoth words others [] 0
AreOfBoth-none words others = record { len = refl; word = λ k h. absurd (omega arith) }

pub AreOfBoth-next : (words others both : List ℕ) (n : ℕ) → AreOfBoth words others both n
    → AreOfBoth words others (both ++ bit_and (slice_index words n) (slice_index others n) ∷ []) (n + 1)
AreOfBoth-next words others both n so_far =
    let word = bit_and (slice_index words n) (slice_index others n) in
    record {
      len = length_push both word ∙ omega (arith, so_far.len);
      word = λ k h. elim (cases_lt k n) [
        | inl earlier ↦ get_or_append_left both (word ∷ []) 0 k (omega (arith, so_far.len)) ∙ so_far.word k earlier
        | inr from ↦
            let here : n ≡ k = omega arith in
            subst (λ (j : ℕ). slice_index (both ++ word ∷ []) j ≡ bit_and (slice_index words j) (slice_index others j)) here (get_or_push both word 0 n so_far.len)
      ];
    }
