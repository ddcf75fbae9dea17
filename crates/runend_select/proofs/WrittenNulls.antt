-- What is taken of runs, in a flat form: a constant null is written out.
use Rattle.std.proofs.Common.{◌≡◌, ◌<◌, ℤ, pos, List, [], ◌∷◌, Bool, false, Option, length, map, refl, arith}
use Rattle.std.specs.Prelude.{option_map}
use Rattle.std.proofs.lemmas.List.{length-map}
use Rattle.column_base.specs.ValidityForm.{ValidityForm}
use Rattle.column_core.specs.Computed.{AreComputed, AreWrittenOut, IsComputedLeaf, IsWrittenLeaf}
use Rattle.column_core.specs.BoolForm.{bool_flags}
use Rattle.column_core.specs.DecimalForm.{decimal_flags}
use Rattle.column_core.specs.Leaf.{Leaf, OfNumbers, OfTruths, OfDecimals, OfVarBins, single_rows}
use Rattle.column_core.specs.Optionals.{optionals}
use Rattle.column_core.specs.PrimitiveForm.{row_flags}
use Rattle.column_core.specs.Value.{DecimalNumber, FlatValue, Number, Single, Truth, Value}
use Rattle.column_core.specs.VarBinForm.{varbin_flags, varbin_value, view_bytes, zero_view}
use Rattle.column_ops.specs.Take.{take_rows, taken_row}
use Rattle.runend_array.specs.Array.{column_of}
use Rattle.runend_array.specs.Canonical.{IsCanonical}
use Rattle.runend_array.specs.Column.{Column, Constant, OfLeaf, OfConstant, OfLists, OfRuns, column_rows}
use Rattle.runend_array.specs.Encoding.{IsComputedFlat}
use Rattle.runend_array.specs.declared.array_ref.ArrayRef.{ArrayRef}
use Rattle.runend_array.specs.declared.array_ref.ArrayRef.TheVariants as array
use Rattle.runend_select.specs.TakeForm.{TakeLeaves}

-- items that show a row are some
some_items : {B : Type 0} (value : Option B → Option FlatValue) (items : List B) (bits : List Bool)
    → 0 < length (map (option_map (λ (v : FlatValue). Single v)) (map value (optionals items bits))) → 0 < length items
some_items value [] bits some = some
some_items value (x ∷ items) bits some = omega arith

computed : {B : Type 0} (blank : B) (items : List B) (validity : ValidityForm) → AreWrittenOut blank items validity → 0 < length items → AreComputed blank items validity
computed blank items validity written some = record { blanked = written.blanked; normal = written.normal; some = λ _. some }

computed_leaf : (leaf : Leaf) → IsWrittenLeaf leaf → 0 < length (single_rows leaf) → IsComputedLeaf leaf
computed_leaf (OfNumbers form) written some =
    computed (pos 0) form.numbers form.validity written (some_items (option_map (λ (n : ℤ). Number n)) form.numbers (row_flags form) some)
computed_leaf (OfTruths form) written some =
    computed false form.bits form.validity written (some_items (option_map (λ (b : Bool). Truth b)) form.bits (bool_flags form) some)
computed_leaf (OfDecimals form) written some =
    computed (pos 0) form.numbers form.validity written (some_items (option_map (λ (n : ℤ). DecimalNumber n)) form.numbers (decimal_flags form) some)
computed_leaf (OfVarBins form) written some =
    let more = some_items (option_map (varbin_value form.kind)) (map (view_bytes form.buffers) form.views) (varbin_flags form) some in
    computed zero_view form.views form.validity written (rw length-map at more)

written_flat : (constant : Constant) (written : Column) → IsCanonical (OfConstant constant) written → 0 < length (column_rows written) → IsComputedFlat written
written_flat constant (OfLeaf leaf) form some = computed_leaf leaf form.0 some
written_flat constant (OfConstant other) form some = absurd form
written_flat constant (OfLists lists) form some = tt
written_flat constant (OfRuns ends_type ends values offset count) form some = absurd form

-- null at each index, of which there is one, written out
pub nulls_flat : (constant : Constant) (indices : List (Option ℤ)) (whole : List (Option Value)) (written : Column) → TakeLeaves indices (OfConstant constant) → IsCanonical (OfConstant constant) written
    → column_rows written ≡ take_rows whole indices → IsComputedFlat written
nulls_flat constant indices whole written nulls form same =
    let some : 0 < length indices = nulls.0.0 in
    let long = length-map indices (taken_row whole) in
    written_flat constant written form (rw same (omega (arith, some, long)))

-- what is taken is flat, or a constant
pub taken_flat : {A : Type 0} (indices : List (Option ℤ)) (taken : ArrayRef A) → ((constant : Constant) → ¬ (taken ≡ array.Constant constant)) → TakeLeaves indices (column_of taken) → IsComputedFlat (column_of taken)
taken_flat indices (array.Primitive numbers) some form = form.1
taken_flat indices (array.Bool truths) some form = form.1
taken_flat indices (array.Decimal numbers) some form = form.1
taken_flat indices (array.VarBinView views) some form = form.1
taken_flat indices (array.ListView lists) some form = tt
taken_flat indices (array.Constant constant) some form = absurd (some constant refl)
taken_flat indices (array.RunEnd runs) some form = absurd form
