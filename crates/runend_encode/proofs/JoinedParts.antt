-- Covers by joined runs, of rows of values, and the parts that are in minimal form.
use Rattle.std.proofs.Common.{◌≡◌, ℕ, ℤ, List, Bool, Option, Some, None, length, map, refl, sym, subst, ◌∙◌, ap}
use Rattle.std.specs.Option.{option_map}
use Rattle.std.proofs.lemmas.List.{length-map}
use Rattle.column_base.specs.ValidityForm.{ValidityForm, HasLength, IsNormal, flags, nullability_in}
use Rattle.column_base.proofs.ValidityRows.{length-flags}
use Rattle.column_core.proofs.OptionalRows.{length-optionals}
use Rattle.column_core.specs.Value.{FlatValue, Number, Single}
use Rattle.column_core.specs.PrimitiveForm.{PrimitiveForm, optionals, optional_numbers, primitive_dtype, row_flags, AreZeroAtNulls}
use Rattle.column_core.specs.Computed.{HasRowIfAllNull, IsComputed}
use Rattle.runend_windows.specs.Window.{IsWindow, run_rows}
use Rattle.runend_windows.specs.Cover.{IsTightCover}
use Rattle.runend_windows.specs.Ends.{ends_of}
use Rattle.runend_windows.proofs.Decoded.{Covers-map}
use Rattle.runend_windows.proofs.FlatColumns.{IsTightCover-map}
use Rattle.runend_windows.proofs.NullRows.{values_of}
use Rattle.runend_windows.proofs.RunRows.{Covers-run_rows, Covers_iff_run_rows}
use Rattle.runend_encode.specs.Joined.{AreJoined}

-- optional items mapped one to one are equal only where they are
option_map-one : {X Y : Type 0} (f : X → Y) → ((x y : X) → f x ≡ f y → x ≡ y) → (a b : Option X) → option_map f a ≡ option_map f b → a ≡ b
option_map-one f one None None e = refl
option_map-one f one None (Some y) e = cc
option_map-one f one (Some x) None e = cc
option_map-one f one (Some x) (Some y) e = let same : f x ≡ f y = cc in ap Some (one x y same)

-- a tight cover of the rows that runs show stays one under a function that distinguishes all values
tight-map : {X Y : Type 0} (f : X → Y) → ((x y : X) → f x ≡ f y → x ≡ y) → (ends : List ℕ) (values : List (Option X)) (offset count : ℕ) (least : List ℕ) (joined : List (Option X))
    → IsWindow ends offset count → length values ≡ length ends → IsTightCover (run_rows ends values offset count) least joined
    → IsTightCover (run_rows ends (map (option_map f) values) offset count) least (map (option_map f) joined)
tight-map {X} {Y} f one ends values offset count least joined window paired cover =
    let whole = Covers-map (option_map f) (run_rows ends values offset count) ends values offset count (Covers-run_rows ends values offset count window paired) in
    let same = (Covers_iff_run_rows (map (option_map f) (run_rows ends values offset count)) ends (map (option_map f) values) offset count window (length-map values (option_map f) ∙ paired)).0 whole in
    subst (λ (rows : List (Option Y)). IsTightCover rows least (map (option_map f) joined)) same
    (IsTightCover-map (option_map f) (option_map-one f one) (run_rows ends values offset count) least joined cover)

pub tight-values : (ends : List ℕ) (values : List (Option ℤ)) (offset count : ℕ) (least : List ℕ) (joined : List (Option ℤ)) → IsWindow ends offset count → length values ≡ length ends
    → IsTightCover (run_rows ends values offset count) least joined → IsTightCover (run_rows ends (values_of values) offset count) least (values_of joined)
tight-values ends values offset count least joined window paired cover =
    let numbered = tight-map (λ (n : ℤ). Number n) (λ x y e. cc) ends values offset count least joined window paired cover in
    tight-map (λ (v : FlatValue). Single v) (λ x y e. cc) ends (map (option_map (λ (n : ℤ). Number n)) values) offset count least (map (option_map (λ (n : ℤ). Number n)) joined)
    window (length-map values (option_map (λ (n : ℤ). Number n)) ∙ paired) numbered

-- the parts that were joined are in minimal form
pub AreJoined-made : (ends values joined_ends joined_values : PrimitiveForm) (offset count : ℕ) (numbers : List ℤ) (bits : List Bool)
    → IsWindow (ends_of ends) offset count → length (optional_numbers values) ≡ length (ends_of ends)
    → IsTightCover (run_rows (ends_of ends) (optional_numbers values) offset count) (ends_of joined_ends) (optionals numbers bits)
    → joined_ends.ptype ≡ ends.ptype → joined_ends.validity ≡ ends.validity → joined_values.ptype ≡ values.ptype → joined_values.numbers ≡ numbers → length bits ≡ length numbers
    → flags joined_values.validity (length bits) ≡ bits → IsNormal joined_values.validity → nullability_in joined_values.validity ≡ nullability_in values.validity
    → HasRowIfAllNull joined_values.validity (length bits) → AreZeroAtNulls numbers bits → AreJoined ends values offset count joined_ends joined_values
AreJoined-made ends values joined_ends joined_values offset count numbers bits window long cover ends_typed required typed plain paired flagged normal nullable some zeroed =
    let marks : row_flags joined_values ≡ bits = ap (λ (ns : List ℤ). flags joined_values.validity (length ns)) plain ∙ ap (flags joined_values.validity) (sym paired) ∙ flagged in
    let shown : optional_numbers joined_values ≡ optionals numbers bits = ap (λ (ns : List ℤ). optionals ns (row_flags joined_values)) plain ∙ ap (optionals numbers) marks in
    record {
      cover = rw shown (tight-values (ends_of ends) (optional_numbers values) offset count (ends_of joined_ends) (optionals numbers bits) window long cover);
      ends_dtype = rw (ends_typed, required) refl;
      dtype = rw (typed, nullable) refl;
      computed = record { blanked = rw (marks, plain) zeroed; normal = normal; some = subst (HasRowIfAllNull joined_values.validity) (paired ∙ sym (ap length plain)) some };
    }

-- parts of which only the ends were counted anew
pub AreJoined-moved : (ends values moved : PrimitiveForm) (offset count : ℕ) → IsWindow (ends_of ends) offset count → length (optional_numbers values) ≡ length (ends_of ends)
    → IsTightCover (run_rows (ends_of ends) (optional_numbers values) offset count) (ends_of moved) (optional_numbers values) → primitive_dtype moved ≡ primitive_dtype ends → IsComputed values
    → AreJoined ends values offset count moved values
AreJoined-moved ends values moved offset count window long cover typed computed = record {
  cover = tight-values (ends_of ends) (optional_numbers values) offset count (ends_of moved) (optional_numbers values) window long cover;
  ends_dtype = typed;
  dtype = refl;
  computed = computed;
}

-- as many optional numbers as items
pub length-shown : {S : Type 0} (number : S → ℤ) (items : List S) (form : ValidityForm) → HasLength form (length items) → length (optionals (map number items) (flags form (length items))) ≡ length items
length-shown number items form fits =
    length-optionals (map number items) (flags form (length items)) (length-flags form (length items) fits ∙ sym (length-map items number)) ∙ length-map items number
