-- The rows of flat booleans that are true, by the bits that they store.
use Rattle.std.proofs.Common.{◌≡◌, ◌∙◌, ◌+◌, ◌*◌, ◌/◌, ◌%◌, ◌<◌, ◌≤◌, ◌&&◌, ◌++◌, inl, inr, sym, ap, subst, refl, ℕ, zero, suc, List, [], ◌∷◌, Bool, true, false, length, map, replicate, arith, bit_and}
use Rattle.std.specs.Prelude.{option_map, slice_index, slice_index_or}
use Rattle.std.proofs.lemmas.Bool.{cases_lt}
use Rattle.std.proofs.lemmas.List.{get_or_append_left, get_or_push, length_push}
use Rattle.column_base.specs.ValidityForm.{ValidityForm, NeverNull, NoneNull, AllNull, ByBits, flags}
use Rattle.column_base.specs.Words.{Packs, first_bits, one_if}
use Rattle.column_base.proofs.WordBits.{and_digit, bits_of_digits}
use Rattle.column_core.specs.BoolForm.{BoolForm}
use Rattle.column_core.specs.Leaf.{OfTruths, single_rows}
use Rattle.column_core.specs.Optionals.{optionals}
use Rattle.column_core.specs.Value.{Single, Truth}
use Rattle.row_stretches.specs.Masks.{is_true}
use Rattle.tables.specs.MaskWords.{AreOfBoth}

-- the rows that are true, of bits and flags
abbrev truths_of : List Bool → List Bool → List Bool
truths_of bits valid = map is_true (map (option_map Single) (map (option_map Truth) (optionals bits valid)))

all_valid : (bits : List Bool) → truths_of bits (replicate (length bits) true) ≡ bits
all_valid [] = refl
all_valid (bit ∷ bits) = ap (λ (l : List Bool). bit ∷ l) (all_valid bits)

none_true : (bits : List Bool) → truths_of bits (replicate (length bits) false) ≡ replicate (length bits) false
none_true [] = refl
none_true (bit ∷ bits) = ap (λ (l : List Bool). false ∷ l) (none_true bits)

-- where the validity has no bits
of_flags : (form : BoolForm) (validity : ValidityForm) → form.validity ≡ validity → truths_of form.bits (flags validity (length form.bits)) ≡ map is_true (single_rows (OfTruths form))
of_flags form validity is = sym (ap (λ (v : ValidityForm). truths_of form.bits (flags v (length form.bits))) is)

pub never_null : (form : BoolForm) → form.validity ≡ NeverNull → form.bits ≡ map is_true (single_rows (OfTruths form))
never_null form is = sym (all_valid form.bits) ∙ of_flags form NeverNull is

pub none_null : (form : BoolForm) → form.validity ≡ NoneNull → form.bits ≡ map is_true (single_rows (OfTruths form))
none_null form is = sym (all_valid form.bits) ∙ of_flags form NoneNull is

pub all_null : (form : BoolForm) → form.validity ≡ AllNull → replicate (length form.bits) false ≡ map is_true (single_rows (OfTruths form))
all_null form is = sym (none_true form.bits) ∙ of_flags form AllNull is

-- where true is stored under null too
and_true : (b : Bool) → b ≡ (b && true)
and_true true = refl
and_true false = refl

and_false : (b : Bool) → false ≡ (b && false)
and_false true = refl
and_false false = refl

length-truths_of : (bits valid : List Bool) → length valid ≡ length bits → length (truths_of bits valid) ≡ length bits
length-truths_of [] valid counted = refl
length-truths_of (bit ∷ bits) [] counted = cc
length-truths_of (bit ∷ bits) (flag ∷ valid) counted = ap suc (length-truths_of bits valid (omega (arith, counted)))

truths_at : (bits valid : List Bool) (i : ℕ) → length valid ≡ length bits → slice_index_or (truths_of bits valid) i false ≡ (slice_index_or bits i false && slice_index_or valid i false)
truths_at [] [] i counted = refl
truths_at [] (flag ∷ valid) i counted = cc
truths_at (bit ∷ bits) [] i counted = cc
truths_at (bit ∷ bits) (true ∷ valid) zero counted = and_true bit
truths_at (bit ∷ bits) (false ∷ valid) zero counted = and_false bit
truths_at (bit ∷ bits) (flag ∷ valid) (suc i) counted = truths_at bits valid i (omega (arith, counted))

pub bits_of_both : (form : BoolForm) (valid : List Bool) (words others both : List ℕ) (n : ℕ) → form.validity ≡ ByBits valid → length valid ≡ length form.bits → n ≡ length form.bits
    → Packs words form.bits → Packs others valid → AreOfBoth words others both (length words) → first_bits n both ≡ map is_true (single_rows (OfTruths form))
bits_of_both form valid words others both n is counted all packed packed_valid of_both =
    let bits = form.bits in
    bits_of_digits n both (truths_of bits valid) (omega (arith, length-truths_of bits valid counted))
    (λ i h.
    and_digit words others both i (slice_index_or bits i false) (slice_index_or valid i false) (of_both.word (i / 64) (omega (arith, packed.least))) (packed.digit i) (packed_valid.digit i)
    ∙ ap one_if (sym (truths_at bits valid i counted)))
    ∙ of_flags form (ByBits valid) is

-- words of both: none, and one more
pub AreOfBoth-none : (words others : List ℕ) → AreOfBoth words others [] 0
AreOfBoth-none words others = record { len = refl; word = λ k h. absurd (omega arith) }

pub AreOfBoth-next : (words others both : List ℕ) (n : ℕ) → AreOfBoth words others both n
    → AreOfBoth words others (both ++ bit_and (slice_index words n) (slice_index others n) ∷ []) (n + 1)
AreOfBoth-next words others both n so_far =
    let word = bit_and (slice_index words n) (slice_index others n) in
    record {
      len = length_push both word ∙ omega (arith, so_far.len);
      word = λ k h. elim (cases_lt k n) [
        | inl earlier ↦ get_or_append_left both (word ∷ []) 0 k (omega (arith, so_far.len)) ∙ so_far.word k earlier
        | inr from ↦
            let here : n ≡ k = omega arith in
            subst (λ (j : ℕ). slice_index (both ++ word ∷ []) j ≡ bit_and (slice_index words j) (slice_index others j)) here (get_or_push both word 0 n so_far.len)
      ];
    }
