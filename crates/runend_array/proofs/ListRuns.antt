-- Numbers and flags of lists, in runs.
use Rattle.std.proofs.Common.{◌≡◌, ℕ, pos, List, Bool, length, map, sym, ◌∙◌, ap}
use Rattle.std.specs.Prelude.{option_map}
use Rattle.std.proofs.lemmas.List.{length-map}
use Rattle.column_base.specs.declared.dtype.PType.TheVariants.{U64}
use Rattle.column_base.specs.ValidityForm.{NeverNull}
use Rattle.column_core.specs.Value.{FlatValue, Single}
use Rattle.column_core.specs.PrimitiveForm.{PrimitiveForm, primitive_dtype, primitive_with}
use Rattle.column_core.specs.BoolForm.{BoolForm, bool_with}
use Rattle.column_core.specs.Leaf.{Leaf, OfNumbers, OfTruths, leaf_rows}
use Rattle.column_core.proofs.OptionalRows.{length-primitive_rows, length-bool_rows}
use Rattle.runend_windows.specs.Window.{IsWindow}
use Rattle.runend_array.specs.Lists.{RunIndex}
use Rattle.runend_array.specs.Column.{AreParts, OfLeaf, Runs, end_numbers, runs_of}
use Rattle.runend_windows.specs.Ends.{IsEndsType, ends_of}
use Rattle.runend_windows.proofs.Ends.{length_ends_of}
use Rattle.runend_windows.proofs.StoredNumbers.{naturals-of_pos}

-- a flat column with a row for each end makes a run column
AreParts-leaf : (ends : PrimitiveForm) (leaf : Leaf) (offset count : ℕ) → IsEndsType (primitive_dtype ends) → IsWindow (ends_of ends) offset count
    → length (leaf_rows leaf) ≡ length ends.numbers → AreParts (OfLeaf (OfNumbers ends)) (OfLeaf leaf) offset count
AreParts-leaf ends leaf offset count plain window paired = record {
  plain = plain;
  runs = record { window = window; paired = length-map (leaf_rows leaf) (option_map (λ (v : FlatValue). Single v)) ∙ paired ∙ sym (length_ends_of ends) };
}

-- so do unsigned numbers without null
pub AreParts-numbers : (ends copy form : PrimitiveForm) (items : List ℕ) (offset count : ℕ) → IsEndsType (primitive_dtype ends) → IsWindow (ends_of ends) offset count
    → copy ≡ ends → form ≡ primitive_with U64 (map (λ (n : ℕ). pos n) items) NeverNull → length items ≡ length ends.numbers
    → AreParts (OfLeaf (OfNumbers copy)) (OfLeaf (OfNumbers form)) offset count
AreParts-numbers ends copy form items offset count plain window same is paired =
    rw (same, is) (AreParts-leaf ends _ offset count plain window
    (length-primitive_rows (primitive_with U64 (map (λ (n : ℕ). pos n) items) NeverNull) tt ∙ length-map items (λ (n : ℕ). pos n) ∙ paired))

-- and booleans without null
pub AreParts-truths : (ends copy : PrimitiveForm) (form : BoolForm) (bits : List Bool) (offset count : ℕ) → IsEndsType (primitive_dtype ends) → IsWindow (ends_of ends) offset count
    → copy ≡ ends → form ≡ bool_with bits NeverNull → length bits ≡ length ends.numbers → AreParts (OfLeaf (OfNumbers copy)) (OfLeaf (OfTruths form)) offset count
AreParts-truths ends copy form bits offset count plain window same is paired =
    rw (same, is) (AreParts-leaf ends _ offset count plain window (length-bool_rows (bool_with bits NeverNull) tt ∙ paired))

-- the numbers that such runs hold
pub RunIndex-numbers : (runs : Runs) (ends copy form : PrimitiveForm) (items numbers : List ℕ) (offset count : ℕ) → runs ≡ runs_of (OfLeaf (OfNumbers copy)) (OfLeaf (OfNumbers form)) offset count
    → copy ≡ ends → form ≡ primitive_with U64 (map (λ (n : ℕ). pos n) items) NeverNull → items ≡ numbers
    → RunIndex runs.ends_type runs.ends (end_numbers runs.values) runs.offset runs.count ≡ RunIndex ends.ptype (ends_of ends) numbers offset count
RunIndex-numbers runs ends copy form items numbers offset count held same is read =
    rw (held, same, is) (ap (λ ns. RunIndex ends.ptype (ends_of ends) ns offset count) (naturals-of_pos items ∙ read))
