-- Columns of which all rows are null, and validities by bits.
use Rattle.std.proofs.Common.{◌≡◌, ◌≢◌, ◌↔◌, not, ℕ, ℤ, ◌<◌, zero, suc, List, [], ◌∷◌, Bool, true, false, Option, Some, None, length, map, replicate, refl, sym, subst, ◌∙◌, ap, arith}
use Rattle.std.specs.Prelude.{All, count_by, IsTrue, nat_eq}
use Rattle.std.proofs.lemmas.Bool.Decides.{Decides-eqb}
use Rattle.std.specs.List.{slice_get}
use Rattle.std.specs.Option.{option_map}
use Rattle.std.proofs.lemmas.Option.{slice_get-get_or}
use Rattle.std.proofs.lemmas.List.{length-map, length-replicate}
use Rattle.std.proofs.lemmas.List.Elements.{All-nil, All-cons, All-head, All-tail, All-same, All-replicate}
use Rattle.column_base.specs.ValidityForm.{ValidityForm, NeverNull, NoneNull, AllNull, ByBits, HasLength, flags, nullability_in}
use Rattle.column_base.specs.Types.{nullability_of}
use Rattle.column_base.proofs.BitLists.{count_by-all_true, count_by-all_false, none_set}
use Rattle.column_base.proofs.ValidityRows.{length-flags}
use Rattle.column_core.specs.Value.{FlatValue, Truth, Number, DecimalNumber, Value, Single, MayBeNull}
use Rattle.column_core.specs.Optionals.{optionals}
use Rattle.column_core.specs.PrimitiveForm.{PrimitiveForm}
use Rattle.column_core.specs.VarBinForm.{kind_dtype, varbin_value, view_bytes}
use Rattle.column_core.specs.declared.varbinview.VarBinKind.TheVariants.{Utf8, Binary}
use Rattle.column_core.specs.Leaf.{Leaf, OfNumbers, OfTruths, OfDecimals, OfVarBins, leaf_count, leaf_dtype, leaf_validity}
use Rattle.column_core.proofs.OptionalRows.{length-optionals, length-primitive_rows}
use Rattle.runend_windows.specs.Encoding.{HasNullsAlone, number_rows}
use Rattle.column_core.specs.Leaf.{single_rows}
use Rattle.runend_windows.proofs.DecodedItems.{rows_of}
pub use Rattle.column_base.proofs.ValidityRows.{nullable-of_bits}

-- each optional number as a value of a row
abbrev pub values_of : List (Option ℤ) → List (Option Value)
values_of numbers = map (option_map (λ (v : FlatValue). Single v)) (map (option_map (λ (n : ℤ). Number n)) numbers)

-- there is a row for each number
pub length-number_rows : (form : PrimitiveForm) → HasLength form.validity (length form.numbers) → length (number_rows form) ≡ length form.numbers
length-number_rows form fits = length-map _ (option_map (λ (v : FlatValue). Single v)) ∙ length-primitive_rows form fits

-- rows are all null exactly where no flag is true
nulls-from_flags : {B : Type 0} (value : B → FlatValue) (items : List B) (bits : List Bool) → length bits ≡ length items → All (λ flag. flag ≡ false) bits
    → All (λ v. v ≡ None) (map (option_map Single) (map (option_map value) (optionals items bits)))
nulls-from_flags value [] bits paired all = All-nil (λ v. v ≡ None)
nulls-from_flags value (x ∷ items) [] paired all = cc
nulls-from_flags value (x ∷ items) (true ∷ bits) paired all = let first : true ≡ false = All-head (λ flag. flag ≡ false) true bits all in cc
nulls-from_flags value (x ∷ items) (false ∷ bits) paired all =
    All-cons (λ v. v ≡ None) None _ refl (nulls-from_flags value items bits (omega arith) (All-tail (λ flag. flag ≡ false) false bits all))

-- where the validity says that all rows are null, they are
pub nulls-from_AllNull : (form : PrimitiveForm) → form.validity ≡ AllNull → HasLength form.validity (length form.numbers) → All (λ v. v ≡ None) (number_rows form)
nulls-from_AllNull form null fits =
    let n = length form.numbers in
    nulls-from_flags Number form.numbers (flags form.validity n) (length-flags form.validity n fits)
    (All-same (λ flag. flag ≡ false) (flags form.validity n) (replicate n false) (ap (λ (v : ValidityForm). flags v n) null) (All-replicate (λ flag. flag ≡ false) n false refl))

-- the row at an index, where all are null
pub null-at_each : {X : Type 0} (rows : List (Option X)) (i : ℕ) → All (λ v. v ≡ None) rows → i < length rows → slice_get rows i ≡ Some None
null-at_each rows i nulls h = slice_get-get_or rows i None h ∙ ap Some (nulls i None h)

flags-from_nulls : {B : Type 0} (value : B → FlatValue) (items : List B) (bits : List Bool) → length bits ≡ length items
    → All (λ v. v ≡ None) (map (option_map Single) (map (option_map value) (optionals items bits))) → All (λ flag. flag ≡ false) bits
flags-from_nulls value [] [] paired all = All-nil (λ flag. flag ≡ false)
flags-from_nulls value [] (b ∷ bits) paired all = cc
flags-from_nulls value (x ∷ items) [] paired all = cc
flags-from_nulls value (x ∷ items) (true ∷ bits) paired all =
    let first : ◌≡◌ {A = Option Value} (Some (Single (value x))) None = All-head (λ v. v ≡ None) (Some (Single (value x))) (map (option_map Single) (map (option_map value) (optionals items bits))) all in cc
flags-from_nulls value (x ∷ items) (false ∷ bits) paired all =
    All-cons (λ flag. flag ≡ false) false bits refl
    (flags-from_nulls value items bits (omega arith) (All-tail (λ v. v ≡ None) None (map (option_map Single) (map (option_map value) (optionals items bits))) all))

all_false : (bits : List Bool) → count_by (λ flag. flag) bits ≡ 0 → All (λ flag. flag ≡ false) bits
all_false bits none = All-same (λ flag. flag ≡ false) bits (replicate (length bits) false) (sym (none_set bits none)) (All-replicate (λ flag. flag ≡ false) (length bits) false refl)

-- there is a row for each item
length-rows_of : {B : Type 0} (value : B → FlatValue) (items : List B) (form : ValidityForm) → HasLength form (length items) → length (map (option_map Single) (rows_of value items form)) ≡ length items
length-rows_of value items form fits =
    length-map (rows_of value items form) (option_map Single) ∙ length-map (optionals items (flags form (length items))) (option_map value)
    ∙ length-optionals items (flags form (length items)) (length-flags form (length items) fits)

nulls_by_count : {B : Type 0} (value : B → FlatValue) (items : List B) (form : ValidityForm) → HasLength form (length items)
    → HasNullsAlone (map (option_map Single) (rows_of value items form)) ↔ ((0 < length items) × (count_by (λ flag. flag) (flags form (length items)) ≡ 0))
nulls_by_count value items form fits =
    let bits = flags form (length items) in
    let paired = length-flags form (length items) fits in
    let counted = length-rows_of value items form fits in (
      (λ nulls. (omega (arith, nulls.0), count_by-all_false bits (flags-from_nulls value items bits paired nulls.1))),
      (λ none. (omega (arith, none.0), nulls-from_flags value items bits paired (all_false bits none.1))),
    )

-- a flat column has a value and nothing but null exactly where it has a row and no flag is true
pub HasNullsAlone_iff_count : (leaf : Leaf) → HasLength (leaf_validity leaf) (leaf_count leaf)
    → HasNullsAlone (single_rows leaf) ↔ ((0 < leaf_count leaf) × (count_by (λ flag. flag) (flags (leaf_validity leaf) (leaf_count leaf)) ≡ 0))
HasNullsAlone_iff_count (OfNumbers form) fits = nulls_by_count Number form.numbers form.validity fits
HasNullsAlone_iff_count (OfTruths form) fits = nulls_by_count Truth form.bits form.validity fits
HasNullsAlone_iff_count (OfDecimals form) fits = nulls_by_count DecimalNumber form.numbers form.validity fits
HasNullsAlone_iff_count (OfVarBins form) fits =
    let long = length-map form.views (view_bytes form.buffers) in
    let fits_bytes : HasLength form.validity (length (map (view_bytes form.buffers) form.views)) = rw long fits in
    rw long at (nulls_by_count (varbin_value form.kind) (map (view_bytes form.buffers) form.views) form.validity fits_bytes)

-- a type with a null may be null
may_be_null : (form : ValidityForm) (n : ℕ) → 0 < n → count_by (λ flag. flag) (flags form n) ≡ 0 → MayBeNull (nullability_in form)
may_be_null NeverNull n some none =
    let all = count_by-all_true (replicate n true) (All-replicate (λ flag. flag ≡ true) n true refl) in
    absurd (omega (arith, length-replicate n true))
may_be_null NoneNull n some none = tt
may_be_null AllNull n some none = tt
may_be_null (ByBits bits) n some none = tt

-- the type of a flat column has null where its validity has
leaf_nullability : (leaf : Leaf) → nullability_of (leaf_dtype leaf) ≡ nullability_in (leaf_validity leaf)
leaf_nullability (OfNumbers form) = refl
leaf_nullability (OfTruths form) = refl
leaf_nullability (OfDecimals form) = refl
leaf_nullability (OfVarBins form) = elim form.kind as (λ kind. nullability_of (kind_dtype kind (nullability_in form.validity)) ≡ nullability_in form.validity) [ Utf8 ↦ refl | Binary ↦ refl ]

pub may_be_null-of_nulls : (leaf : Leaf) → HasLength (leaf_validity leaf) (leaf_count leaf) → HasNullsAlone (single_rows leaf) → MayBeNull (nullability_of (leaf_dtype leaf))
may_be_null-of_nulls leaf fits nulls =
    let none = (HasNullsAlone_iff_count leaf fits).0 nulls in
    subst MayBeNull (sym (leaf_nullability leaf)) (may_be_null (leaf_validity leaf) (leaf_count leaf) none.0 none.1)

-- a number is not 0 exactly where it is more
filled_by : (n : ℕ) (b : Bool) → b ≡ nat_eq n 0 → IsTrue (not b) ↔ (0 < n)
filled_by n true e = ((λ t. cc), (λ some. let none = (Decides-eqb n 0).0 (sym e) in absurd (omega arith)))
filled_by zero false e = let same : nat_eq 0 0 ≡ true = (Decides-eqb 0 0).1 refl in cc
filled_by (suc n) false e = ((λ _. omega arith), (λ _. refl))

-- what the count of valid rows, and a test for no rows, say of nulls
pub HasNullsAlone-by_length : (leaf : Leaf) → HasLength (leaf_validity leaf) (leaf_count leaf) → (count rows : ℕ) → count ≡ count_by (λ flag. flag) (flags (leaf_validity leaf) (leaf_count leaf)) → count ≡ 0
    → rows ≡ leaf_count leaf → IsTrue (not (nat_eq rows 0)) ↔ HasNullsAlone (single_rows leaf)
HasNullsAlone-by_length leaf fits count rows counted none all =
    let nulls = HasNullsAlone_iff_count leaf fits in
    let some = filled_by rows (nat_eq rows 0) refl in
    ((λ t. nulls.1 (let more = some.0 t in omega arith, sym counted ∙ none)), (λ h. let more = (nulls.0 h).0 in some.1 (omega arith)))

pub HasNullsAlone-by_count : (leaf : Leaf) → HasLength (leaf_validity leaf) (leaf_count leaf) → (count : ℕ) → count ≡ count_by (λ flag. flag) (flags (leaf_validity leaf) (leaf_count leaf)) → count ≢ 0
    → IsTrue (nat_eq count 0) ↔ HasNullsAlone (single_rows leaf)
HasNullsAlone-by_count leaf fits count counted some =
    let nulls = HasNullsAlone_iff_count leaf fits in
    ((λ t. absurd (some ((Decides-eqb count 0).0 t))), (λ h. absurd (some (counted ∙ (nulls.0 h).1))))
