-- Flat columns that a constant is written out as.
use Rattle.std.proofs.Common.{◌≡◌, ℕ, ℤ, pos, ◌+◌, ◌-◌, zero, suc, List, [], ◌∷◌, Bool, false, Option, Some, None, length, map, replicate, refl, sym, ◌∙◌, ap, arith}
use Rattle.std.specs.Prelude.{IsSome}
use Rattle.std.specs.Option.{option_map}
use Rattle.std.proofs.lemmas.List.{length-replicate, take_all}
use Rattle.column_base.specs.declared.dtype.Nullability.{Nullability}
use Rattle.column_base.specs.declared.dtype.PType.{PType}
use Rattle.column_base.specs.declared.dtype.DecimalDType.{DecimalDType}
use Rattle.column_base.specs.declared.dtype.DType.TheVariants as column
use Rattle.column_base.specs.Types.{nullability_of}
use Rattle.column_base.specs.ValidityForm.{ValidityForm, AllNull}
use Rattle.column_core.specs.declared.varbinview.View.{View}
use Rattle.column_core.specs.declared.varbinview.VarBinKind.{VarBinKind}
use Rattle.column_core.specs.declared.varbinview.VarBinKind.TheVariants.{Utf8, Binary}
use Rattle.column_core.specs.Value.{FlatValue, Value, Single, Truth, Number, DecimalNumber, MayBeNull}
use Rattle.column_core.specs.PrimitiveForm.{PrimitiveForm, primitive_with}
use Rattle.column_core.specs.BoolForm.{BoolForm, bool_with}
use Rattle.column_core.specs.DecimalForm.{DecimalForm, decimal_with}
use Rattle.column_core.specs.VarBinForm.{VarBinForm, varbin_with, varbin_value, kind_dtype, view_bytes, zero_view}
use Rattle.column_core.specs.Leaf.{Leaf, OfNumbers, OfTruths, OfDecimals, OfVarBins, leaf_dtype, leaf_validity}
use Rattle.runend_array.specs.Column.{Constant}
use Rattle.column_core.specs.Computed.{IsWrittenLeaf, without_nulls}
use Rattle.column_core.specs.Leaf.{single_rows}
use Rattle.runend_array.specs.Canonical.{IsConstantLeaf}
use Rattle.runend_windows.proofs.DecodedItems.{rows_of}
use Rattle.runend_windows.proofs.WrittenConstants.{rows-written_null, computed-written_null, rows-written, computed-written, nullability-without_nulls, nullable}

-- what a view of a constant says of its value
pub none-seen : (value : Option FlatValue) → ◌≡◌ {A = Option Value} None (option_map Single value) → value ≡ None
none-seen None seen = refl
none-seen (Some v) seen = cc

pub some-seen : (value : Option FlatValue) (v : FlatValue) → ◌≡◌ {A = Option Value} (Some (Single v)) (option_map Single value) → value ≡ Some v
some-seen None v seen = cc
some-seen (Some w) v seen = cc

-- null, by the parts of a leaf that stores one item everywhere
leaf-of_null : {B : Type 0} (value : B → FlatValue) (blank : B) (constant : Constant) (leaf : Leaf) → constant.value ≡ None
    → single_rows leaf ≡ map (option_map Single) (rows_of value (replicate constant.count blank) AllNull) → leaf_dtype leaf ≡ constant.dtype → IsWrittenLeaf leaf
    → leaf_validity leaf ≡ AllNull → IsConstantLeaf constant leaf
leaf-of_null value blank constant leaf none rows dtype computed null = record {
  rows = rw none (rows ∙ rows-written_null value constant.count blank);
  dtype = dtype;
  written = (computed, (λ _. null), (λ (some : IsSome constant.value). cc));
}

-- a value, by the parts of a leaf that stores its item everywhere
leaf-of_value : {B : Type 0} (value : B → FlatValue) (x : B) (nullability : Nullability) (constant : Constant) (leaf : Leaf) → constant.value ≡ Some (value x)
    → single_rows leaf ≡ map (option_map Single) (rows_of value (replicate constant.count x) (without_nulls nullability)) → leaf_dtype leaf ≡ constant.dtype → IsWrittenLeaf leaf
    → leaf_validity leaf ≡ without_nulls nullability → nullability_of constant.dtype ≡ nullability → IsConstantLeaf constant leaf
leaf-of_value value x nullability constant leaf some rows dtype computed valid typed = record {
  rows = rw some (rows ∙ rows-written value constant.count x nullability);
  dtype = dtype;
  written = (computed, (λ (none : constant.value ≡ None). cc), (λ _. rw typed valid));
}

-- integers
pub numbers-of_null : (constant : Constant) (t : PType) (nullability : Nullability) (array : PrimitiveForm) → constant.dtype ≡ column.Primitive t nullability
    → MayBeNull (nullability_of constant.dtype) → constant.value ≡ None → array ≡ primitive_with t (replicate constant.count (pos 0)) AllNull → IsConstantLeaf constant (OfNumbers array)
numbers-of_null constant t nullability array typed may none made =
    let null = nullable nullability (rw typed at may) in
    rw made
    (leaf-of_null Number (pos 0) constant _ none refl (ap (column.Primitive t) (sym null) ∙ sym typed) (computed-written_null (pos 0) constant.count) refl)

pub numbers-of_value : (constant : Constant) (t : PType) (nullability : Nullability) (z : ℤ) (array : PrimitiveForm) → constant.dtype ≡ column.Primitive t nullability
    → constant.value ≡ Some (Number z) → array ≡ primitive_with t (replicate constant.count z) (without_nulls nullability) → IsConstantLeaf constant (OfNumbers array)
numbers-of_value constant t nullability z array typed some made =
    rw made
    (leaf-of_value Number z nullability constant _ some refl (ap (column.Primitive t) (nullability-without_nulls nullability) ∙ sym typed) (computed-written (pos 0) constant.count z nullability) refl (ap nullability_of typed))

-- booleans
pub truths-of_null : (constant : Constant) (nullability : Nullability) (array : BoolForm) → constant.dtype ≡ column.Bool nullability
    → MayBeNull (nullability_of constant.dtype) → constant.value ≡ None → array ≡ bool_with (replicate constant.count false) AllNull → IsConstantLeaf constant (OfTruths array)
truths-of_null constant nullability array typed may none made =
    let null = nullable nullability (rw typed at may) in
    rw made
    (leaf-of_null Truth false constant _ none refl (ap column.Bool (sym null) ∙ sym typed) (computed-written_null false constant.count) refl)

pub truths-of_value : (constant : Constant) (nullability : Nullability) (truth : Bool) (array : BoolForm) → constant.dtype ≡ column.Bool nullability
    → constant.value ≡ Some (Truth truth) → array ≡ bool_with (replicate constant.count truth) (without_nulls nullability) → IsConstantLeaf constant (OfTruths array)
truths-of_value constant nullability truth array typed some made =
    rw made
    (leaf-of_value Truth truth nullability constant _ some refl (ap column.Bool (nullability-without_nulls nullability) ∙ sym typed) (computed-written false constant.count truth nullability) refl (ap nullability_of typed))

-- decimals
pub decimals-of_null : (constant : Constant) (decimal : DecimalDType) (nullability : Nullability) (array : DecimalForm) → constant.dtype ≡ column.Decimal decimal nullability
    → MayBeNull (nullability_of constant.dtype) → constant.value ≡ None → array ≡ decimal_with decimal (replicate constant.count (pos 0)) AllNull → IsConstantLeaf constant (OfDecimals array)
decimals-of_null constant decimal nullability array typed may none made =
    let null = nullable nullability (rw typed at may) in
    rw made
    (leaf-of_null DecimalNumber (pos 0) constant _ none refl (ap (column.Decimal decimal) (sym null) ∙ sym typed) (computed-written_null (pos 0) constant.count) refl)

pub decimals-of_value : (constant : Constant) (decimal : DecimalDType) (nullability : Nullability) (z : ℤ) (array : DecimalForm) → constant.dtype ≡ column.Decimal decimal nullability
    → constant.value ≡ Some (DecimalNumber z) → array ≡ decimal_with decimal (replicate constant.count z) (without_nulls nullability) → IsConstantLeaf constant (OfDecimals array)
decimals-of_value constant decimal nullability z array typed some made =
    rw made
    (leaf-of_value DecimalNumber z nullability constant _ some refl (ap (column.Decimal decimal) (nullability-without_nulls nullability) ∙ sym typed) (computed-written (pos 0) constant.count z nullability) refl (ap nullability_of typed))

-- texts and bytes
pub map-copies : {B C : Type 0} (f : B → C) (n : ℕ) (x : B) → map f (replicate n x) ≡ replicate n (f x)
map-copies f zero x = refl
map-copies f (suc n) x = ap (λ rows. f x ∷ rows) (map-copies f n x)

nullability-of_kind : (kind : VarBinKind) (nullability : Nullability) → nullability_of (kind_dtype kind nullability) ≡ nullability
nullability-of_kind Utf8 nullability = refl
nullability-of_kind Binary nullability = refl

-- views of one kind, all alike, show copies of the bytes that one of them cuts
rows-of_views : (kind : VarBinKind) (buffers : List (List ℕ)) (n : ℕ) (view : View) (validity : ValidityForm)
    → single_rows (OfVarBins (varbin_with kind (replicate n view) buffers validity)) ≡ map (option_map Single) (rows_of (varbin_value kind) (replicate n (view_bytes buffers view)) validity)
rows-of_views kind buffers n view validity =
    rw (map-copies (view_bytes buffers) n view, length-replicate n view, length-replicate n (view_bytes buffers view)) refl

pub views-of_null : (constant : Constant) (kind : VarBinKind) (nullability : Nullability) (buffers : List (List ℕ)) (array : VarBinForm) → constant.dtype ≡ kind_dtype kind nullability
    → MayBeNull (nullability_of constant.dtype) → constant.value ≡ None → array ≡ varbin_with kind (replicate constant.count zero_view) buffers AllNull → IsConstantLeaf constant (OfVarBins array)
views-of_null constant kind nullability buffers array typed may none made =
    let of_kind = ap nullability_of typed ∙ nullability-of_kind kind nullability in
    let null = nullable nullability (rw of_kind at may) in
    rw made
    (leaf-of_null (varbin_value kind) (view_bytes buffers zero_view) constant _ none (rows-of_views kind buffers constant.count zero_view AllNull)
    (ap (kind_dtype kind) (sym null) ∙ sym typed) (computed-written_null zero_view constant.count) refl)

pub views-of_value : (kind : VarBinKind) (nullability : Nullability) (bytes : List ℕ) (count : ℕ) (buffers : List (List ℕ)) (view : View) (array : VarBinForm) → view_bytes buffers view ≡ bytes
    → array ≡ varbin_with kind (replicate count view) buffers (without_nulls nullability)
    → IsConstantLeaf (record { dtype = kind_dtype kind nullability; value = Some (varbin_value kind bytes); count = count }) (OfVarBins array)
views-of_value kind nullability bytes count buffers view array cut made =
    rw (made, ← cut)
    (leaf-of_value (varbin_value kind) (view_bytes buffers view) nullability _ _ refl (rows-of_views kind buffers count view (without_nulls nullability))
    (ap (kind_dtype kind) (nullability-without_nulls nullability)) (computed-written zero_view count view nullability) refl (nullability-of_kind kind nullability))

-- a view of all the bytes of the one buffer
pub whole-view : (bytes : List ℕ) → view_bytes (bytes ∷ []) (record { buffer = 0; start = 0; size = length bytes }) ≡ bytes
whole-view bytes = take_all (0 + length bytes - 0) bytes (omega arith)
