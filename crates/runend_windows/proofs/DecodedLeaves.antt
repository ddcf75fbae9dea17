-- Flat columns that decoders make: their rows, their type and what is stored under null.
use Rattle.std.proofs.Common.{◌≡◌, ◌<◌, ◌+◌, ℕ, ℤ, zero, suc, pos, List, [], ◌∷◌, Bool, true, false, Some, length, map, get_or, refl, sym, ◌∙◌, ap, arith}
use Rattle.std.specs.Prelude.{IsTrue}
use Rattle.std.specs.List.{slice_get}
use Rattle.std.proofs.lemmas.List.{length-map}
use Rattle.std.proofs.lemmas.Option.{slice_get-get_or, get_or_from_slice_get}
use Rattle.column_base.specs.declared.dtype.PType.{PType}
use Rattle.column_base.specs.declared.dtype.DecimalDType.{DecimalDType}
use Rattle.column_base.specs.declared.dtype.DType.TheVariants as column
use Rattle.column_base.specs.ValidityForm.{ValidityForm, HasLength, flags}
use Rattle.column_base.proofs.ValidityRows.{length-flags}
use Rattle.column_core.specs.declared.varbinview.View.{View}
use Rattle.column_core.specs.declared.varbinview.VarBinKind.{VarBinKind}
use Rattle.column_core.specs.Value.{Number, Truth, DecimalNumber}
use Rattle.column_core.specs.PrimitiveForm.{primitive_with}
use Rattle.column_core.specs.BoolForm.{bool_with}
use Rattle.column_core.specs.DecimalForm.{decimal_with}
use Rattle.column_core.specs.VarBinForm.{AreVarBins, varbin_with, varbin_value, kind_dtype, view_bytes, zero_view}
use Rattle.column_core.specs.Optionals.{optionals}
use Rattle.column_core.specs.Leaf.{OfTruths, OfDecimals, OfVarBins}
use Rattle.runend_windows.specs.Window.{run_at, IsWindow}
use Rattle.runend_windows.specs.Encoding.{IsDecodedFlat, IsDecodedLeaf, blanked}
use Rattle.runend_windows.specs.Decoding.{AreDecoded}
use Rattle.runend_windows.proofs.RunAt.{run_of_row_within}
use Rattle.runend_windows.proofs.DecodedItems.{rows-from_AreDecoded, AreComputed-from_AreDecoded, AreDecoded-map}

pub IsDecodedFlat-numbers : (ptype : PType) (ends : List ℕ) (values : List ℤ) (values_validity : ValidityForm) (offset count : ℕ) (numbers : List ℤ) (validity : ValidityForm)
    → IsWindow ends offset count → length values ≡ length ends → HasLength values_validity (length values) → AreDecoded (pos 0) ends values values_validity offset count numbers validity
    → IsDecodedFlat ends (primitive_with ptype values values_validity) offset count (primitive_with ptype numbers validity)
IsDecodedFlat-numbers ptype ends values values_validity offset count numbers validity window paired fits d = record {
  rows = rows-from_AreDecoded Number (pos 0) ends values values_validity offset count numbers validity window paired fits d;
  dtype = ap (column.Primitive ptype) d.nullability;
  computed = AreComputed-from_AreDecoded (pos 0) ends values values_validity offset count numbers validity paired d;
}

pub IsDecodedLeaf-truths : (ends : List ℕ) (values : List Bool) (values_validity : ValidityForm) (offset count : ℕ) (bits : List Bool) (validity : ValidityForm)
    → IsWindow ends offset count → length values ≡ length ends → HasLength values_validity (length values) → AreDecoded false ends values values_validity offset count bits validity
    → IsDecodedLeaf ends (OfTruths (bool_with values values_validity)) offset count (OfTruths (bool_with bits validity))
IsDecodedLeaf-truths ends values values_validity offset count bits validity window paired fits d = record {
  rows = rows-from_AreDecoded Truth false ends values values_validity offset count bits validity window paired fits d;
  dtype = ap column.Bool d.nullability;
  computed = AreComputed-from_AreDecoded false ends values values_validity offset count bits validity paired d;
}

pub IsDecodedLeaf-decimals : (decimal : DecimalDType) (ends : List ℕ) (values : List ℤ) (values_validity : ValidityForm) (offset count : ℕ) (numbers : List ℤ) (validity : ValidityForm)
    → IsWindow ends offset count → length values ≡ length ends → HasLength values_validity (length values) → AreDecoded (pos 0) ends values values_validity offset count numbers validity
    → IsDecodedLeaf ends (OfDecimals (decimal_with decimal values values_validity)) offset count (OfDecimals (decimal_with decimal numbers validity))
IsDecodedLeaf-decimals decimal ends values values_validity offset count numbers validity window paired fits d = record {
  rows = rows-from_AreDecoded DecimalNumber (pos 0) ends values values_validity offset count numbers validity window paired fits d;
  dtype = ap (column.Decimal decimal) d.nullability;
  computed = AreComputed-from_AreDecoded (pos 0) ends values values_validity offset count numbers validity paired d;
}

-- a stored item where the flag is true
blanked-at_flag : {B : Type 0} (blank : B) (items : List B) (bits : List Bool) (k : ℕ) → slice_get bits k ≡ Some true → length bits ≡ length items
    → slice_get (blanked blank (optionals items bits)) k ≡ slice_get items k
blanked-at_flag blank [] [] k flag paired = cc
blanked-at_flag blank [] (b ∷ bits) k flag paired = cc
blanked-at_flag blank (x ∷ items) [] k flag paired = cc
blanked-at_flag blank (x ∷ items) (true ∷ bits) zero flag paired = refl
blanked-at_flag blank (x ∷ items) (false ∷ bits) zero flag paired = cc
blanked-at_flag blank (x ∷ items) (b ∷ bits) (suc k) flag paired = blanked-at_flag blank items bits k flag (omega arith)

-- a valid row has the item of its run, which is valid
record IsOfValidRun {B : Type 0} (values : List B) (run_flags : List Bool) (items : List B) (row run : ℕ) : Type 0 where
  within : run < length values
  valid : slice_get run_flags run ≡ Some true
  same : slice_get items row ≡ slice_get values run

valid_run : {B : Type 0} (blank : B) (ends : List ℕ) (values : List B) (values_validity : ValidityForm) (offset count : ℕ) (items : List B) (validity : ValidityForm) (row : ℕ)
    → IsWindow ends offset count → length values ≡ length ends → HasLength values_validity (length values) → AreDecoded blank ends values values_validity offset count items validity
    → row < length items → IsTrue (get_or (flags validity (length items)) row false) → IsOfValidRun values (flags values_validity (length values)) items row (run_at ends (offset + row))
valid_run blank ends values values_validity offset count items validity row window paired fits d within valid =
    let counted = d.covered.counted in
    let place = run_of_row_within ends offset count row window (omega arith) in
    let flagged = length-flags values_validity (length values) fits in
    let rows_flagged = length-flags validity count d.fits in
    let flag : slice_get (flags validity count) row ≡ Some true =
    slice_get-get_or (flags validity count) row false (omega arith) ∙ ap Some (rw counted at valid) in
    let here : slice_get (flags values_validity (length values)) (run_at ends (offset + row)) ≡ Some true = rw paired (sym (d.flagged.each row (omega arith)) ∙ flag) in
    record {
      within = omega arith;
      valid = here;
      same = d.covered.each row (omega arith) ∙ blanked-at_flag blank values (flags values_validity (length values)) (run_at ends (offset + row)) here flagged;
    }

-- an item that is in two lists is read from both with a blank one
same_view : {B : Type 0} (blank : B) (xs ys : List B) (i k : ℕ) → i < length xs → k < length ys → slice_get xs i ≡ slice_get ys k → get_or xs i blank ≡ get_or ys k blank
same_view blank xs ys i k lt within same = get_or_from_slice_get xs i (get_or ys k blank) blank (same ∙ slice_get-get_or ys k blank within)

-- decoded views cut the same buffers
pub AreVarBins-decoded : (kind : VarBinKind) (buffers : List (List ℕ)) (ends : List ℕ) (values : List View) (values_validity : ValidityForm) (offset count : ℕ) (views : List View) (validity : ValidityForm)
    → IsWindow ends offset count → length values ≡ length ends → AreVarBins (varbin_with kind values buffers values_validity) → AreDecoded zero_view ends values values_validity offset count views validity
    → AreVarBins (varbin_with kind views buffers validity)
AreVarBins-decoded kind buffers ends values values_validity offset count views validity window paired old d =
    let fits = old.counted in
    let run_flags = flags values_validity (length values) in
    record {
      counted = rw d.covered.counted d.fits;
      within = λ row lt valid.
          let r = valid_run zero_view ends values values_validity offset count views validity row window paired fits d lt valid in
          let same : get_or views row zero_view ≡ get_or values (run_at ends (offset + row)) zero_view = same_view zero_view views values row (run_at ends (offset + row)) lt r.within r.same in
          rw same (old.within (run_at ends (offset + row)) r.within (get_or_from_slice_get run_flags (run_at ends (offset + row)) true false r.valid));
      texts = λ row lt valid.
          let r = valid_run zero_view ends values values_validity offset count views validity row window paired fits d lt valid in
          let same : get_or views row zero_view ≡ get_or values (run_at ends (offset + row)) zero_view = same_view zero_view views values row (run_at ends (offset + row)) lt r.within r.same in
          rw same (old.texts (run_at ends (offset + row)) r.within (get_or_from_slice_get run_flags (run_at ends (offset + row)) true false r.valid));
    }

pub IsDecodedLeaf-varbins : (kind : VarBinKind) (buffers : List (List ℕ)) (ends : List ℕ) (values : List View) (values_validity : ValidityForm) (offset count : ℕ) (views : List View) (validity : ValidityForm)
    → IsWindow ends offset count → length values ≡ length ends → HasLength values_validity (length values) → AreDecoded zero_view ends values values_validity offset count views validity
    → IsDecodedLeaf ends (OfVarBins (varbin_with kind values buffers values_validity)) offset count (OfVarBins (varbin_with kind views buffers validity))
IsDecodedLeaf-varbins kind buffers ends values values_validity offset count views validity window paired fits d =
    let bytes = AreDecoded-map (view_bytes buffers) zero_view ends values values_validity offset count views validity d in
    let long = length-map values (view_bytes buffers) in
    let rows_long = length-map views (view_bytes buffers) in
    record {
      rows = rw (← long, ← rows_long)
          (rows-from_AreDecoded (varbin_value kind) (view_bytes buffers zero_view) ends (map (view_bytes buffers) values) values_validity offset count (map (view_bytes buffers) views) validity window
          (long ∙ paired) (rw long fits) bytes);
      dtype = ap (kind_dtype kind) d.nullability;
      computed = AreComputed-from_AreDecoded zero_view ends values values_validity offset count views validity paired d;
    }
