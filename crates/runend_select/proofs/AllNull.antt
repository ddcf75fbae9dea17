-- Indices that are all null, and what is taken at them.
use Rattle.std.proofs.Common.{◌≡◌, ◌∙◌, ◌<◌, ℕ, ℤ, zero, suc, List, [], ◌∷◌, Bool, true, false, Option, Some, None, length, map, replicate, refl, sym, ap, arith}
use Rattle.std.specs.Prelude.{All, count_by}
use Rattle.std.proofs.lemmas.List.{length-map}
use Rattle.std.proofs.lemmas.List.Elements.{All-cons, All-head, All-nil, All-replicate, All-tail}
use Rattle.column_base.proofs.BitLists.{count_by-all_false, count_by-false, count_by-true}
use Rattle.column_base.proofs.ValidityRows.{length-flags}
use Rattle.column_base.specs.declared.dtype.DType.{DType}
use Rattle.column_base.specs.declared.dtype.Nullability.{Nullability}
use Rattle.column_base.specs.declared.dtype.Nullability.TheVariants.{NonNullable, Nullable}
use Rattle.column_base.specs.Types.{nullability_of, with_nullability}
use Rattle.column_base.specs.ValidityForm.{ValidityForm, NeverNull, NoneNull, AllNull, ByBits, HasLength, flags, nullability_in}
use Rattle.column_core.specs.Optionals.{optionals}
use Rattle.column_core.specs.Value.{Value}
use Rattle.column_ops.specs.Nullable.{either_nullable}
use Rattle.column_ops.specs.Take.{take_rows}
use Rattle.runend_array.specs.Column.{Column, OfLeaf, OfConstant, OfLists, OfRuns}
use Rattle.runend_array.specs.Encoding.{IsComputedFlat}
use Rattle.runend_select.specs.Indices.{optional_indices}
use Rattle.runend_select.proofs.CheckedIndices.{length-indices}
use Rattle.runend_select.specs.TakeForm.{AreAllNull, TakeLeaves}

-- of rows that are there, none is null only by its form
pub some-valid : (count : ℕ) → ¬ ((0 < count) × (count_by (λ (b : Bool). b) (replicate count true) ≡ 0))
some-valid zero h = let some = h.0 in absurd (omega arith)
some-valid (suc n) h = let none = h.1 in absurd (omega (arith, none, count_by-true (replicate n true)))

pub none-valid : (count : ℕ) → count_by (λ (b : Bool). b) (replicate count false) ≡ 0
none-valid count = count_by-all_false (replicate count false) (All-replicate (λ (b : Bool). b ≡ false) count false refl)

-- where no flag counts, each is null
nulls-of : (xs : List ℤ) (bits : List Bool) → count_by (λ (b : Bool). b) bits ≡ 0 → All (λ index. index ≡ None) (optionals xs bits)
nulls-of [] bits none = All-nil (λ index. index ≡ None)
nulls-of (x ∷ xs) [] none = All-nil (λ index. index ≡ None)
nulls-of (x ∷ xs) (true ∷ bits) none = absurd (omega (arith, none, count_by-true bits))
nulls-of (x ∷ xs) (false ∷ bits) none = All-cons (λ index. index ≡ None) None (optionals xs bits) refl (nulls-of xs bits (omega (arith, none, count_by-false bits)))

-- and the other way round
of-nulls : (xs : List ℤ) (bits : List Bool) → length bits ≡ length xs → All (λ index. index ≡ None) (optionals xs bits) → count_by (λ (b : Bool). b) bits ≡ 0
of-nulls [] [] same h = refl
of-nulls [] (b ∷ bits) same h = cc
of-nulls (x ∷ xs) [] same h = refl
of-nulls (x ∷ xs) (true ∷ bits) same h = let wrong : Some x ≡ None = All-head (λ index. index ≡ None) (Some x) (optionals xs bits) h in cc
of-nulls (x ∷ xs) (false ∷ bits) same h =
    let rest = of-nulls xs bits (omega arith) (All-tail (λ index. index ≡ None) None (optionals xs bits) h) in
    omega (arith, rest, count_by-false bits)

-- null is taken at null indices
pub take_rows-nulls : {B : Type 0} (rows : List (Option B)) (indices : List (Option ℤ)) → All (λ index. index ≡ None) indices → replicate (length indices) None ≡ take_rows rows indices
take_rows-nulls rows [] h = refl
take_rows-nulls rows (None ∷ indices) h = ap (λ xs. None ∷ xs) (take_rows-nulls rows indices (All-tail (λ index. index ≡ None) None indices h))
take_rows-nulls rows (Some x ∷ indices) h = let wrong : Some x ≡ None = All-head (λ index. index ≡ None) (Some x) indices h in cc

either-null : (n : Nullability) → Nullable ≡ either_nullable n Nullable
either-null NonNullable = refl
either-null Nullable = refl

has-null : (form : ValidityForm) (count : ℕ) → 0 < count → count_by (λ (b : Bool). b) (flags form count) ≡ 0 → nullability_in form ≡ Nullable
has-null NeverNull count some none = absurd (some-valid count (some, none))
has-null NoneNull count some none = refl
has-null AllNull count some none = refl
has-null (ByBits bits) count some none = refl

-- the type of nulls that are taken
pub null_dtype : (t : DType) (form : ValidityForm) (count : ℕ) → (0 < count) × (count_by (λ (b : Bool). b) (flags form count) ≡ 0)
    → with_nullability t Nullable ≡ with_nullability t (either_nullable (nullability_of t) (nullability_in form))
null_dtype t form count h =
    ap (with_nullability t) (either-null (nullability_of t) ∙ ap (either_nullable (nullability_of t)) (sym (has-null form count h.0 h.1)))

-- a flat form is taken where some index is not null, or there is none
pub flat-taken : (indices : List (Option ℤ)) (column : Column) → IsComputedFlat column → ¬ AreAllNull indices → TakeLeaves indices column
flat-taken indices (OfLeaf leaf) flat not = (not, flat)
flat-taken indices (OfConstant constant) flat not = absurd flat
flat-taken indices (OfLists lists) flat not = not
flat-taken indices (OfRuns ends_type ends values offset count) flat not = absurd flat

module _ {S : Type 0} (number : S → ℤ) (items : List S) (form : ValidityForm) (fits : HasLength form (length items)) where
  paired : length (flags form (length items)) ≡ length (map number items)
  paired = length-flags form (length items) fits ∙ sym (length-map items number)

  counted : length (optional_indices number items (flags form (length items))) ≡ length items
  counted = length-indices (map number items) (flags form (length items)) paired ∙ length-map items number

  pub all_null : (0 < length items) × (count_by (λ (b : Bool). b) (flags form (length items)) ≡ 0) → AreAllNull (optional_indices number items (flags form (length items)))
  all_null h = let some = h.0 in (let c = counted in omega arith, nulls-of (map number items) (flags form (length items)) h.1)

  pub not_all_null : ¬ ((0 < length items) × (count_by (λ (b : Bool). b) (flags form (length items)) ≡ 0)) → ¬ AreAllNull (optional_indices number items (flags form (length items)))
  not_all_null not h = let some = h.0 in not (let c = counted in omega arith, of-nulls (map number items) (flags form (length items)) paired h.1)

  -- the rows of the constant null
  pub null_rows : (rows : List (Option Value)) → (0 < length items) × (count_by (λ (b : Bool). b) (flags form (length items)) ≡ 0)
      → replicate (length items) None ≡ take_rows rows (optional_indices number items (flags form (length items)))
  null_rows rows h = ap (λ n. replicate n None) (sym counted) ∙ take_rows-nulls rows (optional_indices number items (flags form (length items))) (nulls-of (map number items) (flags form (length items)) h.1)
