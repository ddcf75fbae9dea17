-- Rows of numbers that are mapped as they are stored.
use Rattle.std.proofs.Common.{◌≡◌, ◌∙◌, ℕ, ℤ, pos, List, [], ◌∷◌, Bool, true, false, Option, Some, None, length, map, refl, sym, ap}
use Rattle.std.specs.Prelude.{option_map, unsigned_abs}
use Rattle.std.proofs.lemmas.List.{length-map}
use Rattle.std.proofs.lemmas.Simd.{map-map}
use Rattle.column_base.specs.declared.dtype.PType.{PType}
use Rattle.column_base.specs.ValidityForm.{ValidityForm, flags}
use Rattle.column_core.specs.Leaf.{OfNumbers, single_rows}
use Rattle.column_core.specs.Optionals.{optionals}
use Rattle.column_core.specs.PrimitiveForm.{PrimitiveForm, primitive_with}
use Rattle.column_core.specs.Value.{FlatValue, Number, Single, Value}
use Rattle.float_bits.specs.declared.formats.FloatFormat.{FloatFormat}
use Rattle.column_floats.specs.FloatRows.{bits_of_key, bits_row, float_in, key_row}

-- the rows of stored numbers
abbrev rows_of : List ℤ → List Bool → List (Option Value)
rows_of ns bs = map (option_map (λ (v : FlatValue). Single v)) (map (option_map (λ (n : ℤ). Number n)) (optionals ns bs))

mapped : (g : ℤ → ℤ) (h : Option Value → Option Value) → ((n : ℤ) → Some (Single (Number (g n))) ≡ h (Some (Single (Number n)))) → None ≡ h None → (ns : List ℤ) (bs : List Bool)
    → rows_of (map g ns) bs ≡ map h (rows_of ns bs)
mapped g h each null [] bs = refl
mapped g h each null (n ∷ ns) [] = refl
mapped g h each null (n ∷ ns) (true ∷ bs) = (λ i. each n i ∷ mapped g h each null ns bs i)
mapped g h each null (n ∷ ns) (false ∷ bs) = (λ i. null i ∷ mapped g h each null ns bs i)

mapped_form : (g : ℤ → ℤ) (h : Option Value → Option Value) → ((n : ℤ) → Some (Single (Number (g n))) ≡ h (Some (Single (Number n)))) → None ≡ h None
    → (form : PrimitiveForm) (t : PType) (stored : List ℤ) (validity : ValidityForm) → stored ≡ map g form.numbers → validity ≡ form.validity
    → single_rows (OfNumbers (primitive_with t stored validity)) ≡ map h (single_rows (OfNumbers form))
mapped_form g h each null form t stored validity is same =
    ap (λ (v : ValidityForm). single_rows (OfNumbers (primitive_with t stored v))) same
    ∙ ap (λ (ns : List ℤ). single_rows (OfNumbers (primitive_with t ns form.validity))) is
    ∙ ap (λ (n : ℕ). rows_of (map g form.numbers) (flags form.validity n)) (length-map form.numbers g)
    ∙ mapped g h each null form.numbers (flags form.validity (length form.numbers))

-- keys that are stored for bits
pub rows_of_keys : (key : ℕ → ℤ) (form : PrimitiveForm) (t : PType) (stored : List ℤ) (validity : ValidityForm) → stored ≡ map (λ n. key (unsigned_abs n)) form.numbers → validity ≡ form.validity
    → single_rows (OfNumbers (primitive_with t stored validity)) ≡ map (key_row key) (single_rows (OfNumbers form))
rows_of_keys key form t stored validity is same = mapped_form (λ n. key (unsigned_abs n)) (key_row key) (λ n. refl) refl form t stored validity is same

-- bits that are stored for keys
pub rows_of_bits : (f : FloatFormat) (form : PrimitiveForm) (t : PType) (stored : List ℤ) (validity : ValidityForm) → stored ≡ map (λ n. pos (bits_of_key f n)) form.numbers → validity ≡ form.validity
    → single_rows (OfNumbers (primitive_with t stored validity)) ≡ map bits_row (map (float_in f) (single_rows (OfNumbers form)))
rows_of_bits f form t stored validity is same =
    mapped_form (λ n. pos (bits_of_key f n)) (λ row. bits_row (float_in f row)) (λ n. refl) refl form t stored validity is same
    ∙ sym (map-map bits_row (float_in f) (single_rows (OfNumbers form)))
