-- Keys that are tested, as rows of booleans, and what the answers mean.
use Rattle.std.proofs.Common.{◌≡◌, ◌∙◌, ℕ, ℤ, List, [], ◌∷◌, Bool, true, false, Option, Some, None, length, map, refl, ap, subst}
use Rattle.std.specs.Prelude.{◌↔◌, IsTrue, option_map}
use Rattle.std.specs.List.{AllZip}
use Rattle.std.proofs.lemmas.List.{length-map}
use Rattle.column_base.specs.ValidityForm.{ValidityForm, HasLength, flags}
use Rattle.column_base.proofs.ValidityRows.{length-flags}
use Rattle.column_core.specs.BoolForm.{bool_with}
use Rattle.column_core.specs.Leaf.{OfTruths, single_rows}
use Rattle.column_core.specs.Optionals.{optionals}
use Rattle.column_core.specs.PrimitiveForm.{PrimitiveForm, optional_numbers}
use Rattle.column_core.specs.Value.{FlatValue, Single, Truth, Value}
use Rattle.column_core.proofs.OptionalRows.{length-optionals}
use Rattle.column_ops.specs.Comparing.{is_held}
use Rattle.float_bits.specs.declared.formats.FloatFormat.{FloatFormat}
use Rattle.float_bits.specs.Format.{IsPattern}
use Rattle.float_bits.specs.TotalOrder.{total_key}
use Rattle.column_floats.specs.Comparisons.{IsTruthOf, tested_row}

-- bits and flags of tested keys
tested : (test : ℤ → Bool) (ns : List ℤ) (bs : List Bool)
    → map (option_map (λ (v : FlatValue). Single v)) (map (option_map (λ (b : Bool). Truth b)) (optionals (map (is_held test) (optionals ns bs)) bs)) ≡ map (tested_row test) (optionals ns bs)
tested test [] bs = refl
tested test (n ∷ ns) [] = refl
tested test (n ∷ ns) (true ∷ bs) = ap (λ (rows : List (Option Value)). Some (Single (Truth (test n))) ∷ rows) (tested test ns bs)
tested test (n ∷ ns) (false ∷ bs) = ap (λ (rows : List (Option Value)). None ∷ rows) (tested test ns bs)

pub length-tested : (test : ℤ → Bool) (form : PrimitiveForm) (bits : List Bool) → HasLength form.validity (length form.numbers) → bits ≡ map (is_held test) (optional_numbers form) → length bits ≡ length form.numbers
length-tested test form bits fits is =
    ap length is ∙ length-map (optional_numbers form) (is_held test)
    ∙ length-optionals form.numbers (flags form.validity (length form.numbers)) (length-flags form.validity (length form.numbers) fits)

pub tested_form : (test : ℤ → Bool) (form : PrimitiveForm) (bits : List Bool) (validity : ValidityForm) → HasLength form.validity (length form.numbers) → bits ≡ map (is_held test) (optional_numbers form)
    → validity ≡ form.validity → single_rows (OfTruths (bool_with bits validity)) ≡ map (tested_row test) (optional_numbers form)
tested_form test form bits validity fits is same =
    ap (λ (v : ValidityForm). single_rows (OfTruths (bool_with bits v))) same
    ∙ ap (λ (n : ℕ). map (option_map (λ (v : FlatValue). Single v)) (map (option_map (λ (b : Bool). Truth b)) (optionals bits (flags form.validity n)))) (length-tested test form bits fits is)
    ∙ ap (λ (bs : List Bool). map (option_map (λ (v : FlatValue). Single v)) (map (option_map (λ (b : Bool). Truth b)) (optionals bs (flags form.validity (length form.numbers))))) is
    ∙ tested test form.numbers (flags form.validity (length form.numbers))

-- a test that decides a fact of floats answers it for each row
pub truths_of_tests : (f : FloatFormat) (Holds : ℕ → Type 0) (test : ℤ → Bool) → ((bits : ℕ) → IsPattern f bits → IsTrue (test (total_key f bits)) ↔ Holds bits) → (keys : List (Option ℤ))
    → AllZip (IsTruthOf f Holds) keys (map (tested_row test) keys)
truths_of_tests f Holds test each [] = tt
truths_of_tests f Holds test each (None ∷ keys) = (refl, truths_of_tests f Holds test each keys)
truths_of_tests f Holds test each (Some key ∷ keys) =
    ((test key, refl, λ bits pattern is. subst (λ (k : ℤ). IsTrue (test k) ↔ Holds bits) is (each bits pattern)), truths_of_tests f Holds test each keys)
