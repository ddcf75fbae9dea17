-- Parts of columns of lists, put together and taken apart.
use Rattle.std.proofs.Common.{◌≡◌, ◌∙◌, ℕ, pos, List, map, refl, sym, subst, ap}
use Rattle.std.specs.Prelude.{unsigned_abs}
use Rattle.column_base.specs.declared.dtype.PType.{PType}
use Rattle.column_base.specs.declared.dtype.PType.TheVariants.{U64}
use Rattle.column_base.specs.declared.dtype.Nullability.{Nullability}
use Rattle.column_base.specs.declared.dtype.Nullability.TheVariants.{NonNullable}
use Rattle.column_base.specs.declared.dtype.DType.TheVariants as column
use Rattle.column_base.specs.declared.error.VortexError.{VortexError}
use Rattle.column_base.specs.declared.error.VortexError.TheVariants.{TypeMismatch, Unsupported}
use Rattle.column_base.specs.ValidityForm.{ValidityForm, NeverNull, NoneNull, AllNull, ByBits, nullability_in}
use Rattle.column_core.specs.declared.varbinview.VarBinKind.{VarBinKind}
use Rattle.column_core.specs.declared.varbinview.VarBinKind.TheVariants.{Utf8, Binary}
use Rattle.column_core.specs.declared.flat.FlatColumn.{FlatColumn}
use Rattle.column_core.specs.FlatColumn.{leaf_of}
use Rattle.column_core.specs.BoolForm.{bool_with}
use Rattle.column_core.specs.PrimitiveForm.{PrimitiveForm}
use Rattle.column_core.specs.VarBinForm.{kind_dtype}
use Rattle.column_core.specs.Leaf.{Leaf, OfNumbers, OfTruths, OfDecimals, OfVarBins}
use Rattle.runend_windows.proofs.StoredNumbers.{naturals-of_pos}
use Rattle.runend_array.specs.Array.{AreListParts, AreListTypes, IsRowValidity, column_of, lists_of, validity_of}
use Rattle.runend_array.specs.Column.{AreParts, AreRuns, Column, OfLeaf, OfConstant, OfLists, OfRuns, IsLeaf, IsPlainEnds, IsPlainTruths, Runs, column_of_runs, end_numbers, end_ptype, runs_of, runs_validity, runs_with, truths_of}
use Rattle.runend_array.specs.Fault.{ListPartsFault, ListsFault}
use Rattle.runend_array.specs.Lists.{AreLists, ByRows, Lists, PlainIndex, lists_with}
use Rattle.runend_array.specs.declared.array_ref.ArrayRef.{ArrayRef}
use Rattle.runend_array.specs.declared.validities.row_validity.RowValidity.{RowValidity}
use Rattle.runend_column.specs.ListParts.{AreListsIn, AreListsOver, IsIndexIn, IsIndexOf, ListsOverFault, flags_column, lists_of_parts, truths_column}

-- numbers of u64 without null are offsets or sizes
pub index_of_numbers : (items : List ℕ) (form : PrimitiveForm) → form.ptype ≡ U64 → form.numbers ≡ map (λ (n : ℕ). pos n) items → form.validity ≡ NeverNull
    → IsIndexOf items (OfLeaf (OfNumbers form))
index_of_numbers items form wide stored never = record {
  index = (λ i. column.Primitive (wide i) (nullability_in (never i)));
  is = ap PlainIndex (ap (map unsigned_abs) stored ∙ naturals-of_pos items);
}

module _ {A : Type 0} (elements : FlatColumn A) (offsets sizes : ArrayRef A) (validity : RowValidity A)
    (leaf : Leaf) (os ss : List ℕ) (form : ValidityForm)
    (same : leaf_of elements ≡ leaf)
    (starts : IsIndexOf os (column_of offsets))
    (counts : IsIndexOf ss (column_of sizes))
    (told : validity_of validity ≡ ByRows form) where
  -- the lists of these parts are those that were asked for
  pub parts_are : lists_of elements offsets sizes validity ≡ lists_of_parts leaf os ss form
  parts_are = (λ i. lists_with (same i) (starts.is i) (counts.is i) (told i))

  -- their types are right
  pub types_are : IsRowValidity validity → AreListTypes offsets sizes validity
  types_are plain = record { first_elements = starts.index; counts = counts.index; flags = plain }

-- a fault of parts whose types are right is one of the lists
fault_of_lists : {A : Type 0} (elements : FlatColumn A) (offsets sizes : ArrayRef A) (validity : RowValidity A) (error : VortexError)
    → AreListTypes offsets sizes validity → ListPartsFault elements offsets sizes validity error → ListsFault (lists_of elements offsets sizes validity) error
fault_of_lists elements offsets sizes validity TypeMismatch types why = absurd (why types)
fault_of_lists elements offsets sizes validity error types why = why.1

-- lists that were made
pub lists_made : (c d : Column) (leaf : Leaf) (os ss : List ℕ) (form : ValidityForm) (lists : Lists)
    → c ≡ OfLeaf leaf → AreLists lists → lists ≡ lists_of_parts leaf os ss form → d ≡ OfLists lists → AreListsOver c os ss form d
lists_made c d leaf os ss form lists flat valid is made =
    subst (λ (k : Column). AreListsOver k os ss form d) (sym flat) (record {
      lists = subst AreLists is valid;
      is = made ∙ ap (λ (l : Lists). OfLists l) is;
    })

-- lists that were not made
lists_refused : (c : Column) (leaf : Leaf) (os ss : List ℕ) (form : ValidityForm) (error : VortexError)
    → c ≡ OfLeaf leaf → ListsFault (lists_of_parts leaf os ss form) error → ListsOverFault c os ss form error
lists_refused c leaf os ss form error flat why = subst (λ (k : Column). ListsOverFault k os ss form error) (sym flat) why

pub parts_refused : {A : Type 0} (elements : FlatColumn A) (offsets sizes : ArrayRef A) (validity : RowValidity A) (c : Column) (leaf : Leaf) (os ss : List ℕ) (form : ValidityForm)
    (error : VortexError) → c ≡ OfLeaf leaf → leaf_of elements ≡ leaf → IsIndexOf os (column_of offsets) → IsIndexOf ss (column_of sizes) → validity_of validity ≡ ByRows form
    → IsRowValidity validity → ListPartsFault elements offsets sizes validity error → ListsOverFault c os ss form error
parts_refused elements offsets sizes validity c leaf os ss form error flat same starts counts told plain why =
    let types = types_are elements offsets sizes validity leaf os ss form same starts counts told plain in
    let fault = fault_of_lists elements offsets sizes validity error types why in
    let is = parts_are elements offsets sizes validity leaf os ss form same starts counts told in
    lists_refused c leaf os ss form error flat (subst (λ (l : Lists). ListsFault l error) is fault)

-- elements that are not flat
pub no_elements : (c : Column) (os ss : List ℕ) (form : ValidityForm) → (¬ IsLeaf c) → ListsOverFault c os ss form Unsupported
no_elements (OfLeaf leaf) os ss form other = absurd (other tt)
no_elements (OfConstant constant) os ss form other = refl
no_elements (OfLists lists) os ss form other = refl
no_elements (OfRuns ends_type ends values offset count) os ss form other = refl

-- copies of the parts of a run column are parts of the same run column
copied_runs : (ends values : Column) (r : Runs) → end_numbers ends ≡ r.ends → end_ptype ends ≡ r.ends_type → values ≡ r.values
    → runs_of ends values r.offset r.count ≡ r
copied_runs ends values r numbers typed is = (λ i. runs_with (typed i) (numbers i) (is i) r.offset r.count)

pub copied_parts : (ends values : Column) (r : Runs) → IsPlainEnds ends → end_numbers ends ≡ r.ends → end_ptype ends ≡ r.ends_type → values ≡ r.values
    → AreRuns r → AreParts ends values r.offset r.count
copied_parts ends values r plain numbers typed is valid = record { plain = plain; runs = subst AreRuns (sym (copied_runs ends values r numbers typed is)) valid }

pub copied_form : (ends values : Column) (r : Runs) → end_numbers ends ≡ r.ends → end_ptype ends ≡ r.ends_type → values ≡ r.values
    → column_of_runs (runs_of ends values r.offset r.count) ≡ column_of_runs r
copied_form ends values r numbers typed is = ap column_of_runs (copied_runs ends values r numbers typed is)

-- flat booleans without null are their bits
never : (v : ValidityForm) → nullability_in v ≡ NonNullable → v ≡ NeverNull
never NeverNull h = refl
never NoneNull h = cc
never AllNull h = cc
never (ByBits bits) h = cc

kind-no_truths : (kind : VarBinKind) (n : Nullability) → ¬ (kind_dtype kind n ≡ column.Bool NonNullable)
kind-no_truths Utf8 n e = cc
kind-no_truths Binary n e = cc

truths_whole : (c : Column) → IsPlainTruths c → c ≡ truths_column (truths_of c)
truths_whole (OfLeaf (OfNumbers form)) h = cc
truths_whole (OfLeaf (OfTruths form)) h =
    let required : nullability_in form.validity ≡ NonNullable = cc in
    ap (λ (v : ValidityForm). OfLeaf (OfTruths (bool_with form.bits v))) (never form.validity required)
truths_whole (OfLeaf (OfDecimals form)) h = cc
truths_whole (OfLeaf (OfVarBins form)) h = absurd (kind-no_truths form.kind _ h)
truths_whole (OfConstant constant) h = absurd h
truths_whole (OfLists lists) h = absurd h
truths_whole (OfRuns ends_type ends values offset count) h = absurd h

-- flags in runs, as a column
pub flags_in_runs : (r : Runs) (c : Column) (count : ℕ) → IsPlainTruths r.values → c ≡ column_of_runs r → c ≡ flags_column (runs_validity r) count
flags_in_runs r c count plain is = is ∙ ap (λ (v : Column). OfRuns r.ends_type r.ends v r.offset r.count) (truths_whole r.values plain)
