-- What is made has no fault.
use Rattle.std.proofs.Common.{◌≡◌, ◌<◌, ◌+◌, ◌∷◌, [], ◌∙◌, inl, inr, sym, ap, subst, pos, ℤ, ℕ, List, length, arith, slice_index_or}
use Rattle.std.specs.Prelude.{IsTrue, Some, None, Result, Ok, Err, OnOk, false}
use Rattle.std.specs.Global.{Global}
use Rattle.column_base.specs.ValidityForm.{ValidityForm, HasLength, NeverNull, NoneNull, AllNull, ByBits, flags, length_of}
use Rattle.column_base.specs.declared.error.VortexError.{VortexError}
use Rattle.column_base.specs.declared.error.VortexError.TheVariants.{ColumnLength, EndsNotStrict, NoRunsWindow, OutOfBounds, TypeMismatch}
use Rattle.column_core.specs.Leaf.{Leaf}
use Rattle.column_core.specs.VarBinFault.{VarBinFault}
use Rattle.column_core.specs.VarBinForm.{AreVarBins, IsOfKind, IsWithinBuffer, varbin_with, view_bytes, zero_view}
use Rattle.column_core.specs.declared.varbinview.View.{View}
use Rattle.column_core.specs.declared.varbinview.VarBinKind.{VarBinKind}
use Rattle.runend_array.specs.Array.{column_of}
use Rattle.runend_array.specs.Column.{Column, OfConstant, OfLeaf, OfLists, OfRuns}
use Rattle.runend_array.specs.Fault.{ListsFault}
use Rattle.runend_array.specs.Lists.{AreLists}
use Rattle.runend_array.specs.declared.array_ref.ArrayRef.{ArrayRef}
use Rattle.runend_column.specs.ListParts.{AreListsOver, ListsOverFault, lists_of_parts}
use Rattle.c_columns.specs.Bits.{validity_by, validity_fault}
use Rattle.c_columns.specs.Lists.{PassedListsFault}
use Rattle.c_columns.specs.Makers.{AreCuts, CutsFault, IsRowCut, TextsFault}

-- what holds of itself holds where a call is done
pub all_served : {T E : Type 0} (P : Type 0) (outcome : Result T E) → P → OnOk outcome P
all_served P (Ok value) holds = holds
all_served P (Err error) holds = tt

-- a form that has a length has that many flags
length_told : (form : ValidityForm) (n count : ℕ) → HasLength form n → length_of form ≡ Some count → n ≡ count
length_told NeverNull n count counted told = absurd (cc)
length_told NoneNull n count counted told = absurd (cc)
length_told AllNull n count counted told = absurd (cc)
length_told (ByBits bits) n count counted told = let same : length bits ≡ count = cc in sym counted ∙ same

-- offsets cut the same views
abbrev view_with : ℕ → ℕ → ℕ → View
view_with buffer start size = record { buffer = buffer; start = start; size = size }

same_view : (v w : View) → v.buffer ≡ w.buffer → v.start ≡ w.start → v.size ≡ w.size → v ≡ w
same_view v w buffer start size = ap (λ (n : ℕ). view_with n v.start v.size) buffer ∙ ap (λ (n : ℕ). view_with w.buffer n v.size) start ∙ ap (λ (n : ℕ). view_with w.buffer w.start n) size

cut_alike : (offsets : List ℤ) (views others : List View) → AreCuts offsets views → AreCuts offsets others → (k : ℕ) → k < length views → k < length others
    → slice_index_or others k zero_view ≡ slice_index_or views k zero_view
cut_alike offsets views others cuts other_cuts k below also =
    let v = slice_index_or views k zero_view in
    let w = slice_index_or others k zero_view in
    let starts : pos w.start ≡ pos v.start = other_cuts.starts k also ∙ sym (cuts.starts k below) in
    let stops : pos (w.start + w.size) ≡ pos (v.start + v.size) = other_cuts.stops k also ∙ sym (cuts.stops k below) in
    let start : w.start ≡ v.start = cc in
    let stop : w.start + w.size ≡ v.start + v.size = cc in
    same_view w v (other_cuts.buffers k also ∙ sym (cuts.buffers k below)) start (omega (arith, start, stop))

-- a flat column of texts or bytes has no fault, nor with views that are the same
module _ (kind : VarBinKind) (views others : List View) (buffers : List (List ℕ)) (validity : ValidityForm) where
  varbins_served : AreVarBins (varbin_with kind views buffers validity) → length others ≡ length views → ((k : ℕ) → k < length views → k < length others → slice_index_or others k zero_view ≡ slice_index_or views k zero_view)
      → (error : VortexError) → ¬ VarBinFault (varbin_with kind others buffers validity) error
  varbins_served are count same (ColumnLength left right) fault = fault.2 (fault.0 ∙ count ∙ length_told validity (length views) right are.counted fault.1)
  varbins_served are count same (OutOfBounds index rows) fault =
      let row = fault.2.0 in
      let first = fault.2.1.1 in
      let there : row < length views = subst (λ (n : ℕ). row < n) count first.in_rows in
      let valid = subst (λ (n : ℕ). IsTrue (slice_index_or (flags validity n) row false)) count first.valid in
      first.outside (subst (λ (v : View). IsWithinBuffer buffers v) (sym (same row there first.in_rows)) (are.within row there valid))
  varbins_served are count same TypeMismatch fault =
      let row = fault.2.0 in
      let none = fault.2.1 in
      let there : row < length views = subst (λ (n : ℕ). row < n) count none.in_rows in
      let valid = subst (λ (n : ℕ). IsTrue (slice_index_or (flags validity n) row false)) count none.valid in
      none.otherwise (subst (λ (v : View). IsOfKind kind (view_bytes buffers v)) (sym (same row there none.in_rows)) (are.texts row there valid))
  varbins_served are count same error fault = fault

-- nor have offsets that cut each row
cuts_served : (offsets : List ℤ) (views : List View) → AreCuts offsets views → ((row : ℕ) → row < length views → IsRowCut offsets row) → (error : VortexError) → ¬ CutsFault offsets error
cuts_served offsets views cuts each (NoRunsWindow offset count) fault = absurd (omega (arith, fault.0, cuts.count))
cuts_served offsets views cuts each (EndsNotStrict row) fault = fault.uncut (each row (omega (arith, fault.there, cuts.count)))
cuts_served offsets views cuts each error fault = fault

-- nor texts or bytes that are cut so
pub texts_served : (kind : VarBinKind) (offsets : List ℤ) (bytes : List ℕ) (nulls : ℕ) (bits : List ℕ) (first : ℕ) (views : List View) → AreCuts offsets views → ((row : ℕ) → row < length views → IsRowCut offsets row)
    → validity_fault nulls bits first (length views) ≡ None → AreVarBins (varbin_with kind views (bytes ∷ []) (validity_by nulls bits first (length views))) → (error : VortexError) → ¬ TextsFault kind offsets bytes nulls bits first error
texts_served kind offsets bytes nulls bits first views cuts each enough are error (inl fault) = cuts_served offsets views cuts each error fault
texts_served kind offsets bytes nulls bits first views cuts each enough are error (inr fault) =
    let count : length fault.views ≡ length views = omega (arith, fault.cuts.count, cuts.count) in
    let none : validity_fault nulls bits first (length fault.views) ≡ None = ap (λ (n : ℕ). validity_fault nulls bits first n) count ∙ enough in
    elim fault.is [
      | inl few ↦ absurd (let clash : Some error ≡ None = sym few ∙ none in cc)
      | inr wrong ↦
          varbins_served kind views fault.views (bytes ∷ []) (validity_by nulls bits first (length views)) are count (cut_alike offsets views fault.views cuts fault.cuts) error
          (subst (λ (n : ℕ). VarBinFault (varbin_with kind fault.views (bytes ∷ []) (validity_by nulls bits first n)) error) count wrong.1)
    ]

-- the same, of the parts that the column is made of
pub array_served : (kind : VarBinKind) (offsets : List ℤ) (bytes : List ℕ) (nulls : ℕ) (bits : List ℕ) (first : ℕ) (views : List View) (buffers : List (List ℕ)) (validity : ValidityForm) (count : ℕ)
    → AreCuts offsets views → ((row : ℕ) → row < length views → IsRowCut offsets row) → count ≡ length views → validity_fault nulls bits first count ≡ None → buffers ≡ bytes ∷ []
    → validity ≡ validity_by nulls bits first count → AreVarBins (varbin_with kind views buffers validity) → (error : VortexError) → ¬ TextsFault kind offsets bytes nulls bits first error
array_served kind offsets bytes nulls bits first views buffers validity count cuts each counted enough only told are =
    let rows : validity_fault nulls bits first (length views) ≡ None = subst (λ (n : ℕ). validity_fault nulls bits first n ≡ None) counted enough in
    let same : validity ≡ validity_by nulls bits first (length views) = subst (λ (n : ℕ). validity ≡ validity_by nulls bits first n) counted told in
    let over : AreVarBins (varbin_with kind views (bytes ∷ []) validity) = subst (λ (b : List (List ℕ)). AreVarBins (varbin_with kind views b validity)) only are in
    texts_served kind offsets bytes nulls bits first views cuts each rows (subst (λ (v : ValidityForm). AreVarBins (varbin_with kind views (bytes ∷ []) v)) same over)

-- nor lists
lists_have_none : (elements : Leaf) (offsets sizes : List ℕ) (validity : ValidityForm) → AreLists (lists_of_parts elements offsets sizes validity) → (error : VortexError) → ¬ ListsFault (lists_of_parts elements offsets sizes validity) error
lists_have_none elements offsets sizes validity are (ColumnLength left right) fault =
    elim fault.2 [
      | inl sized ↦ fault.1 (fault.0 ∙ sym are.sized ∙ sym sized)
      | inr told ↦ fault.1 (fault.0 ∙ length_told validity (length offsets) right are.flagged told.1)
    ]
lists_have_none elements offsets sizes validity are (OutOfBounds row count) fault =
    let first = fault.3.2 in
    first.outside (are.within fault.3.0 first.within first.valid)
lists_have_none elements offsets sizes validity are error fault = fault

over_served : (elements c : Column) (offsets sizes : List ℕ) (validity : ValidityForm) → AreListsOver elements offsets sizes validity c → (error : VortexError) → ¬ ListsOverFault elements offsets sizes validity error
over_served (OfLeaf leaf) c offsets sizes validity are error fault = lists_have_none leaf offsets sizes validity are.lists error fault
over_served (OfConstant constant) c offsets sizes validity are error fault = are
over_served (OfLists lists) c offsets sizes validity are error fault = are
over_served (OfRuns ends_type ends values offset count) c offsets sizes validity are error fault = are

pub lists_served : (offsets sizes : List ℕ) (nulls : ℕ) (bits : List ℕ) (first : ℕ) (elements c : ArrayRef Global) (validity : ValidityForm) (count : ℕ) → count ≡ length offsets → validity_fault nulls bits first count ≡ None
    → validity ≡ validity_by nulls bits first count → AreListsOver (column_of elements) offsets sizes validity (column_of c) → (error : VortexError) → ¬ PassedListsFault offsets sizes nulls bits first elements error
lists_served offsets sizes nulls bits first elements c validity count counted enough told are error (inl few) =
    let none : validity_fault nulls bits first (length offsets) ≡ None = subst (λ (n : ℕ). validity_fault nulls bits first n ≡ None) counted enough in
    absurd (let clash : Some error ≡ None = sym few ∙ none in cc)
lists_served offsets sizes nulls bits first elements c validity count counted enough told are error (inr wrong) =
    let same : validity ≡ validity_by nulls bits first (length offsets) = subst (λ (n : ℕ). validity ≡ validity_by nulls bits first n) counted told in
    let here : AreListsOver (column_of elements) offsets sizes (validity_by nulls bits first (length offsets)) (column_of c) = subst (λ (v : ValidityForm). AreListsOver (column_of elements) offsets sizes v (column_of c)) same are in
    over_served (column_of elements) (column_of c) offsets sizes (validity_by nulls bits first (length offsets)) here error wrong.1
