-- What an encoding is to a run column, and what decoding gives.
use Rattle.std.proofs.Common.{◌≡◌, ◌<◌, ◌^◌, ℕ, pos, [], ◌∷◌, None, length, refl, sym, subst, ◌∙◌, arith, inl, inr, ◌⊎◌}
use Rattle.std.specs.Prelude.{IsSomeAnd}
use Rattle.std.proofs.lemmas.Bool.{cases_lt}
use Rattle.column_base.specs.declared.dtype.PType.{PType}
use Rattle.column_base.specs.declared.dtype.PType.TheVariants.{U8, U16, U32, U64, I8, I16, I32, I64}
use Rattle.column_base.specs.Types.{IsUnsigned, unsigned_bits}
use Rattle.column_base.specs.ValidityForm.{ValidityForm, NeverNull, NoneNull, AllNull, ByBits, HasLength, nullability_in}
use Rattle.column_base.specs.declared.dtype.DType.TheVariants as column
use Rattle.column_core.specs.PrimitiveForm.{PrimitiveForm, primitive_dtype, primitive_with}
use Rattle.column_core.specs.Leaf.{OfNumbers, OfTruths, OfDecimals, OfVarBins}
use Rattle.runend_windows.specs.Window.{IsWindow}
use Rattle.runend_array.specs.Column.{Column, OfLeaf, OfConstant, OfLists, OfRuns, Runs, AreParts, column_of_runs, column_rows, column_dtype, runs_of}
use Rattle.runend_windows.specs.Ends.{IsEndsType, ends_of}
use Rattle.runend_windows.proofs.RunRows.{Covers_iff_run_rows}
use Rattle.runend_array.specs.Encoding.{IsEncoded, IsEncodedColumn, IsEncoding}
use Rattle.runend_windows.specs.Encoding.{IsAllInvalid, IsFlatEncoding, number_rows}
use Rattle.runend_windows.proofs.Grow.{IsTightCover-from_Tiles}
use Rattle.runend_windows.proofs.NullRows.{length-number_rows, nulls-from_AllNull, null-at_each}
use Rattle.runend_windows.proofs.ShownRuns.{shown_at-here}

-- a validity says that all of some rows are null, or it does not
decide_all_null : (v : ValidityForm) (n : ℕ) → ((v ≡ AllNull) × (0 < n)) ⊎ (¬ ((v ≡ AllNull) × (0 < n)))
decide_all_null NeverNull n = inr (λ h. let e = h.0 in cc)
decide_all_null NoneNull n = inr (λ h. let e = h.0 in cc)
decide_all_null AllNull n = elim (cases_lt 0 n) [ inl some ↦ inl (refl, some) | inr none ↦ inr (λ h. let some = h.1 in omega arith) ]
decide_all_null (ByBits bits) n = inr (λ h. let e = h.0 in cc)

-- a type with a width is unsigned
unsigned_of_bits : (t : PType) (P : ℕ → Type 0) → IsSomeAnd (unsigned_bits t) P → IsUnsigned t
unsigned_of_bits U8 P h = tt
unsigned_of_bits U16 P h = tt
unsigned_of_bits U32 P h = tt
unsigned_of_bits U64 P h = tt
unsigned_of_bits I8 P h = absurd h
unsigned_of_bits I16 P h = absurd h
unsigned_of_bits I32 P h = absurd h
unsigned_of_bits I64 P h = absurd h

-- the ends of an encoding are of an unsigned type
ends_unsigned : (array ends : PrimitiveForm) (values : Column) → IsEncoding array ends values → IsUnsigned ends.ptype
ends_unsigned array ends values e = elim (decide_all_null array.validity (length array.numbers)) [
  | inl null ↦ subst IsUnsigned (sym (e.wide null)) tt
  | inr other ↦ unsigned_of_bits ends.ptype _ (e.narrow other).has
]

-- the parts of an encoding make a run column
pub encoding_parts : (array ends : PrimitiveForm) (values : Column) (count : ℕ) → IsEncoding array ends values → count ≡ length (number_rows array)
    → AreParts (OfLeaf (OfNumbers ends)) values 0 count
encoding_parts array ends values count e counted = record {
  plain =
      let P : ValidityForm → Type 0 = λ v. IsEndsType (column.Primitive ends.ptype (nullability_in v)) in
      subst P (sym e.required) (ends_unsigned array ends values e);
  runs = record {
    window = subst (λ (n : ℕ). IsWindow (ends_of ends) 0 n) (sym counted) e.cover.covers.window;
    paired = e.cover.covers.paired;
  };
}

-- and that run column is the encoded column
pub encoded_of_parts : (array ends : PrimitiveForm) (values : Column) (count : ℕ) → IsEncoding array ends values → count ≡ length (number_rows array)
    → IsEncoded array (runs_of (OfLeaf (OfNumbers ends)) values 0 count)
encoded_of_parts array ends values count e counted = record {
  cover = e.cover;
  window = (refl, counted);
  dtype = e.dtype;
  narrow = e.narrow;
  flat = e.flat;
  wide = e.wide;
  null = e.null;
}

-- an encoded column shows the rows of the column that was encoded
pub encoded_rows : (c : Column) (runs : Runs) → IsEncodedColumn c runs → column_rows (column_of_runs runs) ≡ column_rows c
encoded_rows (OfLeaf (OfNumbers form)) runs e =
    let cover = e.cover.covers in
    rw (e.window.0, e.window.1)
    (sym ((Covers_iff_run_rows (number_rows form) runs.ends (column_rows runs.values) 0 (length (number_rows form)) cover.window cover.paired).0 cover))
encoded_rows (OfLeaf (OfTruths form)) runs e = absurd e
encoded_rows (OfLeaf (OfDecimals form)) runs e = absurd e
encoded_rows (OfLeaf (OfVarBins form)) runs e = absurd e
encoded_rows (OfConstant constant) runs e = absurd e
encoded_rows (OfLists lists) runs e = absurd e
encoded_rows (OfRuns ends_type ends values offset count) runs e = absurd e

-- and has its type
pub encoded_dtype : (c : Column) (runs : Runs) → IsEncodedColumn c runs → column_dtype (column_of_runs runs) ≡ column_dtype c
encoded_dtype (OfLeaf (OfNumbers form)) runs e = e.dtype
encoded_dtype (OfLeaf (OfTruths form)) runs e = absurd e
encoded_dtype (OfLeaf (OfDecimals form)) runs e = absurd e
encoded_dtype (OfLeaf (OfVarBins form)) runs e = absurd e
encoded_dtype (OfConstant constant) runs e = absurd e
encoded_dtype (OfLists lists) runs e = absurd e
encoded_dtype (OfRuns ends_type ends values offset count) runs e = absurd e

-- an encoding by flat values is one where the validity does not say that all rows are null
pub IsEncoding-from_flat : (array ends values : PrimitiveForm) → (¬ IsAllInvalid array) → IsFlatEncoding array ends values → IsEncoding array ends (OfLeaf (OfNumbers values))
IsEncoding-from_flat array ends values some flat = record {
  cover = flat.cover;
  dtype = flat.dtype;
  required = flat.required;
  narrow = λ _. flat.narrow;
  flat = λ _. flat.computed;
  wide = λ all. absurd (some all);
  null = λ all. absurd (some all);
}

-- rows of which the validity says that all are null are one run of null
pub IsEncoding-of_nulls : (array ends : PrimitiveForm) (n : ℕ) → IsAllInvalid array → n ≡ length array.numbers → n < 2 ^ 64
    → ends ≡ primitive_with U64 (pos n ∷ []) NeverNull → IsEncoding array ends (OfConstant (record { dtype = primitive_dtype array; value = None; count = 1 }))
IsEncoding-of_nulls array ends n all counted small made =
    let fits = subst (λ (v : ValidityForm). HasLength v (length array.numbers)) (sym all.0) tt in
    let long : length (number_rows array) ≡ n = length-number_rows array fits ∙ sym counted in
    let some = all.1 in
    record {
      cover = rw made
          (IsTightCover-from_Tiles (number_rows array) (n ∷ []) (None ∷ []) (omega arith) (omega arith, tt, sym long)
          (λ i h. null-at_each (number_rows array) i (nulls-from_AllNull array all.0 fits) h ∙ sym (shown_at-here n [] None [] i (omega arith))));
      dtype = refl;
      required = rw made refl;
      narrow = λ not_all. absurd (not_all all);
      flat = λ not_all. absurd (not_all all);
      wide = λ _. rw made refl;
      null = λ _. refl;
    }
