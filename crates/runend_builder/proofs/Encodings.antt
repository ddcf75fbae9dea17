-- Builders and encodings.
use Rattle.std.proofs.Common.{◌≡◌, ◌∙◌, ◌-◌, ◌+◌, ◌<◌, ℕ, zero, suc, List, [], ◌∷◌, Option, None, length, refl, sym, ap, subst, inl, inr, arith}
use Rattle.std.specs.Prelude.{IsErrAnd, IsOkUnless, Result, Ok, Err, option_map}
use Rattle.std.proofs.lemmas.List.{length-map}
use Rattle.std.specs.List.Sorted.{IsStrictlyIncreasing}
use Rattle.column_base.specs.declared.dtype.DType.{DType}
use Rattle.column_base.specs.declared.dtype.DType.TheVariants as column
use Rattle.column_base.specs.declared.error.VortexError.{VortexError}
use Rattle.column_base.specs.declared.error.VortexError.TheVariants.{OutOfMemory}
use Rattle.column_base.specs.Types.{IsLeastFor}
use Rattle.column_core.specs.Computed.{IsComputedLeaf}
use Rattle.column_core.specs.Kinds.{list_fault}
use Rattle.column_core.specs.Leaf.{Leaf, leaf_dtype, leaf_rows, single_rows}
use Rattle.column_core.specs.PrimitiveForm.{PrimitiveForm, primitive_dtype}
use Rattle.column_core.specs.Refusal.{IsErrorFor}
use Rattle.column_core.specs.ScalarForm.{ScalarForm}
use Rattle.column_core.specs.Value.{FlatValue, IsLists, PlainColumn, Single, Value}
use Rattle.runend_windows.specs.Cover.{IsTightCover}
use Rattle.runend_windows.specs.Ends.{IsEndsType, ends_of}
use Rattle.runend_windows.specs.Window.{last_end}
use Rattle.runend_array.specs.Column.{OfLeaf}
use Rattle.runend_encode.specs.Encoding.{AreLeastEnds, IsRowEncoding}
use Rattle.runend_builder.proofs.Parts.{parts_of_rows}
use Rattle.runend_builder.specs.Builder.{Built, IsBuilt, built_with, part_rows, shown_rows}
use Rattle.runend_builder.proofs.Builds.{rows_of_cover}

-- only lists are refused
no_fault : (dtype : DType) → ¬ IsLists dtype → list_fault dtype ≡ None
no_fault (column.Bool n) single = refl
no_fault (column.Primitive t n) single = refl
no_fault (column.Decimal d n) single = refl
no_fault (column.Utf8 n) single = refl
no_fault (column.Binary n) single = refl
no_fault (column.List e n) single = absurd (single tt)

-- so only memory refuses
only_error : (fault : Option VortexError) (error : VortexError) → fault ≡ None → IsErrorFor fault error → error ≡ OutOfMemory
only_error fault error none (inl only) = only
only_error fault error none (inr some) = cc

pub passed_only : {T : Type 0} (dtype : DType) (error : VortexError) (result : Result T VortexError) → ¬ IsLists dtype → IsErrorFor (list_fault dtype) error → IsErrAnd result (λ e. e ≡ error)
    → IsOkUnless result OutOfMemory
passed_only dtype error (Ok value) single refused passed = tt
passed_only dtype error (Err other) single refused passed = passed ∙ only_error (list_fault dtype) error (no_fault dtype single) refused

-- an encoding is one of the rows that its runs show
pub rows_of_encoding : (shown : List (Option Value)) (dtype : DType) (ends : PrimitiveForm) (values : Leaf) → IsRowEncoding shown dtype ends values → part_rows ends values ≡ shown
rows_of_encoding shown dtype ends values encoding = rows_of_cover shown (ends_of ends) (single_rows values) encoding.cover

pub encoding_of_itself : (shown : List (Option Value)) (own dtype : DType) (ends : PrimitiveForm) (values : Leaf) → own ≡ dtype → IsRowEncoding shown own ends values
    → IsRowEncoding (part_rows ends values) dtype ends values
encoding_of_itself shown own dtype ends values typed encoding =
    subst (λ (rs : List (Option Value)). IsRowEncoding rs dtype ends values) (sym (rows_of_encoding shown own ends values encoding)) (subst (λ (t : DType). IsRowEncoding shown t ends values) typed encoding)

-- its ends are of an unsigned type
pub plain_of_encoding : (shown : List (Option Value)) (dtype : DType) (ends : PrimitiveForm) (values : Leaf) → IsRowEncoding shown dtype ends values → IsEndsType (primitive_dtype ends)
plain_of_encoding shown dtype ends values encoding = (parts_of_rows shown dtype ends values (length shown) (OfLeaf values) encoding refl refl).plain

positive : (n : ℕ) → ¬ (n ≡ 0) → 0 < n
positive zero some = absurd (some refl)
positive (suc n) some = omega arith

-- without values there are 0 rows
nil_of : {X : Type 0} (xs : List X) → length xs ≡ 0 → xs ≡ []
nil_of [] none = refl
nil_of (x ∷ xs) none = absurd (omega arith)

pub no_rows_of_encoding : (shown : List (Option Value)) (dtype : DType) (ends : PrimitiveForm) (values : Leaf) → IsRowEncoding shown dtype ends values → length (single_rows values) ≡ 0 → shown ≡ []
no_rows_of_encoding shown dtype ends values encoding none =
    let no_ends : ends_of ends ≡ [] = nil_of (ends_of ends) (sym encoding.cover.covers.paired ∙ none) in
    nil_of shown (sym encoding.cover.exact.stop ∙ ap last_end no_ends)

pub some_values : (shown : List (Option Value)) (dtype : DType) (ends : PrimitiveForm) (values : Leaf) (count : ℕ) → IsRowEncoding shown dtype ends values → count ≡ length shown → ¬ (count ≡ 0)
    → 0 < length (leaf_rows values)
some_values shown dtype ends values count encoding counted some =
    let long = length-map (leaf_rows values) (option_map (λ (v : FlatValue). Single v)) in
    positive (length (leaf_rows values)) (λ none. some (counted ∙ ap length (no_rows_of_encoding shown dtype ends values encoding (long ∙ none))))

-- the ends of a builder rise
pub ends_rise : (dtype : DType) (ends : List ℕ) (values : PlainColumn) (last : Option ScalarForm) → IsBuilt dtype ends values last → IsStrictlyIncreasing ends
ends_rise dtype ends values last built = built.cover.covers.window.increasing

-- the encoding of what a builder holds
pub encoding_of_built : (own : Built) (dtype : DType) (ends : List ℕ) (values : PlainColumn) (last : Option ScalarForm) (wide : List ℕ) (least : PrimitiveForm) (leaf : Leaf)
    → built_with dtype (shown_rows ends values.rows) ≡ own → IsBuilt dtype ends values last → wide ≡ ends → AreLeastEnds wide least → single_rows leaf ≡ values.rows → leaf_dtype leaf ≡ values.dtype
    → IsComputedLeaf leaf → IsRowEncoding own.rows own.dtype least leaf
encoding_of_built own dtype ends values last wide least leaf is built same narrow rows typed computed =
    let shown : shown_rows ends values.rows ≡ own.rows = ap (λ (b : Built). b.rows) is in
    let ends_are : ends_of least ≡ ends = narrow.shown ∙ same in
    record {
      cover = subst (λ (rs : List (Option Value)). IsTightCover rs (ends_of least) (single_rows leaf)) shown
          (subst (λ (es : List ℕ). IsTightCover (shown_rows ends values.rows) es (single_rows leaf)) (sym ends_are)
          (subst (λ (vs : List (Option Value)). IsTightCover (shown_rows ends values.rows) ends vs) (sym rows) built.cover));
      typed = typed ∙ built.typed ∙ ap (λ (b : Built). b.dtype) is;
      computed = computed;
      required = narrow.required;
      narrow = subst (λ (es : List ℕ). IsLeastFor (last_end es) least.ptype) (sym narrow.shown) narrow.narrow;
    }
