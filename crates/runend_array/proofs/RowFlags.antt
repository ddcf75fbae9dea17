-- Which rows of a column are valid, by its form.
use Rattle.std.proofs.Common.{◌≡◌, ◌≢◌, ◌<◌, ◌+◌, ℕ, ℤ, List, [], ◌∷◌, Bool, true, false, Option, Some, None, cond, length, map, replicate, refl, sym, ◌∙◌, ap, arith}
use Rattle.std.specs.List.{slice_get}
use Rattle.std.specs.Option.{is_some, option_map}
use Rattle.std.proofs.lemmas.List.{length-map, length-replicate}
use Rattle.std.proofs.lemmas.List.FromFn.{length-map-range_with_len}
use Rattle.std.proofs.lemmas.Option.{slice_get-get_or, slice_get-map}
use Rattle.std.specs.Prelude.{get_or}
use Rattle.column_base.specs.declared.dtype.Nullability.{Nullability}
use Rattle.column_base.specs.declared.dtype.Nullability.TheVariants.{NonNullable, Nullable}
use Rattle.column_base.specs.Types.{nullability_of}
use Rattle.column_base.specs.ValidityForm.{ValidityForm, AllNull, HasLength, flag_at, flags, nullability_in}
use Rattle.column_base.proofs.ValidityRows.{flags-at, length-flags}
use Rattle.column_core.specs.declared.varbinview.VarBinKind.{VarBinKind}
use Rattle.column_core.specs.declared.varbinview.VarBinKind.TheVariants.{Utf8, Binary}
use Rattle.column_core.specs.Value.{FlatValue, Value, Single, Truth, Number, DecimalNumber, MayBeNull}
use Rattle.column_core.specs.ScalarView.{sees}
use Rattle.column_core.specs.declared.view.ScalarView.{ScalarView}
use Rattle.column_core.specs.declared.view.ScalarView.TheVariants as view
use Rattle.column_core.specs.Optionals.{optionals}
use Rattle.column_core.specs.PrimitiveForm.{PrimitiveForm}
use Rattle.column_core.specs.VarBinForm.{kind_dtype, varbin_value, view_bytes}
use Rattle.column_core.specs.Leaf.{Leaf, OfNumbers, OfTruths, OfDecimals, OfVarBins, leaf_count, leaf_validity}
use Rattle.column_core.proofs.OptionalRows.{length-optionals}
use Rattle.runend_windows.specs.Window.{run_at}
use Rattle.runend_array.specs.Lists.{AreLists, ByRows, Lists, RowValidityForm, list_at, list_count, list_rows, row_flag_at, row_flags_of}
use Rattle.runend_array.specs.ListRuns.{IsValidityInRuns}
use Rattle.runend_array.specs.Column.{AreRuns, Column, Constant, OfConstant, OfLeaf, OfLists, Runs, column_dtype, column_of_runs, column_rows}
use Rattle.runend_windows.specs.Ends.{ends_of}
use Rattle.column_core.specs.Computed.{without_nulls}
use Rattle.runend_array.specs.RowFlags.{IsValidityForm, IsValidityOf, constant_validity}
use Rattle.runend_windows.proofs.Ends.{length_ends_of}
use Rattle.runend_windows.proofs.Lists.{equal_by_slice_get, slice_get-replicate}
use Rattle.runend_array.proofs.ListRows.{length-list_rows, slice_get-made}
use Rattle.runend_windows.proofs.RunAt.{run_of_row_within}
use Rattle.runend_windows.proofs.RunRows.{length-run_rows, slice_get-run_rows_of_window}
use Rattle.runend_array.proofs.ShownLists.{flag-in_runs, has_rows-in_runs, nullability-in_runs}

-- flags that say of each row whether it is not null
flags-from_each : (rows : List (Option Value)) (form : RowValidityForm) → ((i : ℕ) (row : Option Value) → i < length rows → slice_get rows i ≡ Some row → row_flag_at form i ≡ is_some row)
    → row_flags_of form (length rows) ≡ map is_some rows
flags-from_each rows form each =
    let made = length-map-range_with_len (row_flag_at form) 0 (length rows) in
    equal_by_slice_get (row_flags_of form (length rows)) (map is_some rows) (made ∙ sym (length-map rows is_some)) (λ i h.
    let within : i < length rows = rw made at h in
    let row = get_or rows i None in
    let here : slice_get rows i ≡ Some row = slice_get-get_or rows i None within in
    slice_get-made (row_flag_at form) (length rows) i within ∙ ap Some (each i row within here) ∙ sym (slice_get-map is_some rows i ∙ ap (option_map is_some) here))

-- and the other way
each-from_flags : (rows : List (Option Value)) (form : RowValidityForm) (i : ℕ) (row : Option Value) → row_flags_of form (length rows) ≡ map is_some rows → i < length rows → slice_get rows i ≡ Some row
    → row_flag_at form i ≡ is_some row
each-from_flags rows form i row same within here =
    let flag : slice_get (row_flags_of form (length rows)) i ≡ Some (row_flag_at form i) = slice_get-made (row_flag_at form) (length rows) i within in
    let shown : slice_get (map is_some rows) i ≡ Some (is_some row) = slice_get-map is_some rows i ∙ ap (option_map is_some) here in
    cc

-- a validity that is held row by row
row_flags-by_rows : (form : ValidityForm) (n : ℕ) → HasLength form n → row_flags_of (ByRows form) n ≡ flags form n
row_flags-by_rows form n fits =
    let made = length-map-range_with_len (row_flag_at (ByRows form)) 0 n in
    equal_by_slice_get (row_flags_of (ByRows form) n) (flags form n) (made ∙ sym (length-flags form n fits)) (λ i h.
    let within : i < n = rw made at h in
    slice_get-made (row_flag_at (ByRows form)) n i within ∙ sym (flags-at form n i fits within))

-- items are not null where their flags are true
flags-of_optionals : {B : Type 0} (value : B → FlatValue) (items : List B) (bits : List Bool) → length bits ≡ length items
    → map is_some (map (option_map (λ (v : FlatValue). Single v)) (map (option_map value) (optionals items bits))) ≡ bits
flags-of_optionals value [] [] same = refl
flags-of_optionals value [] (bit ∷ bits) same = cc
flags-of_optionals value (item ∷ items) [] same = cc
flags-of_optionals value (item ∷ items) (true ∷ bits) same = ap (λ bs. true ∷ bs) (flags-of_optionals value items bits (omega arith))
flags-of_optionals value (item ∷ items) (false ∷ bits) same = ap (λ bs. false ∷ bs) (flags-of_optionals value items bits (omega arith))

-- the validity of a flat column is the one that it stores
IsValidityOf-items : {B : Type 0} (c : Column) (value : B → FlatValue) (items : List B) (form : ValidityForm) (n : ℕ)
    → column_rows c ≡ map (option_map (λ (v : FlatValue). Single v)) (map (option_map value) (optionals items (flags form n))) → length items ≡ n → HasLength form n
    → nullability_in form ≡ nullability_of (column_dtype c) → IsValidityOf c (ByRows form)
IsValidityOf-items {B} c value items form n rows counted fits nullability =
    let flagged : length (flags form n) ≡ length items = length-flags form n fits ∙ sym counted in
    let shown = map (option_map value) (optionals items (flags form n)) in
    let long : length (column_rows c) ≡ n =
    ap length rows ∙ length-map shown (option_map (λ (v : FlatValue). Single v)) ∙ length-map (optionals items (flags form n)) (option_map value) ∙ length-optionals items (flags form n) flagged ∙ counted in
    record {
      counted = rw long fits;
      flags = ap (row_flags_of (ByRows form)) long ∙ row_flags-by_rows form n fits ∙ sym (ap (map is_some) rows ∙ flags-of_optionals value items (flags form n) flagged);
      nullability = nullability;
    }

kind-nullability : (kind : VarBinKind) (n : Nullability) → n ≡ nullability_of (kind_dtype kind n)
kind-nullability Utf8 n = refl
kind-nullability Binary n = refl

pub IsValidityOf-leaf : (leaf : Leaf) → HasLength (leaf_validity leaf) (leaf_count leaf) → IsValidityOf (OfLeaf leaf) (ByRows (leaf_validity leaf))
IsValidityOf-leaf (OfNumbers form) fits = IsValidityOf-items (OfLeaf (OfNumbers form)) (λ (n : ℤ). Number n) form.numbers form.validity (length form.numbers) refl refl fits refl
IsValidityOf-leaf (OfTruths form) fits = IsValidityOf-items (OfLeaf (OfTruths form)) (λ (b : Bool). Truth b) form.bits form.validity (length form.bits) refl refl fits refl
IsValidityOf-leaf (OfDecimals form) fits = IsValidityOf-items (OfLeaf (OfDecimals form)) (λ (n : ℤ). DecimalNumber n) form.numbers form.validity (length form.numbers) refl refl fits refl
IsValidityOf-leaf (OfVarBins form) fits =
    IsValidityOf-items (OfLeaf (OfVarBins form)) (varbin_value form.kind) (map (view_bytes form.buffers) form.views) form.validity (length form.views) refl
    (length-map form.views (view_bytes form.buffers)) fits (kind-nullability form.kind (nullability_in form.validity))

-- so is the validity of lists
valid-list : (b : Bool) (v : Value) → b ≡ is_some (cond b (Some v) None)
valid-list true v = refl
valid-list false v = refl

pub IsValidityOf-lists : (lists : Lists) → AreLists lists → IsValidityOf (OfLists lists) lists.validity
IsValidityOf-lists lists are = record {
  counted = rw (length-list_rows lists) are.flagged;
  flags = flags-from_each (list_rows lists) lists.validity (λ i row h here.
      let within : i < list_count lists = rw (length-list_rows lists) at h in
      let made : slice_get (list_rows lists) i ≡ Some (list_at lists i) = slice_get-made (list_at lists) (list_count lists) i within in
      let same : list_at lists i ≡ row = cc in
      valid-list (row_flag_at lists.validity i) _ ∙ ap is_some same);
  nullability = refl;
}

-- of a constant all rows are valid, or none
nullability-without : (n : Nullability) → nullability_in (without_nulls n) ≡ n
nullability-without NonNullable = refl
nullability-without Nullable = refl

flag-without : (n : Nullability) (i : ℕ) → flag_at (without_nulls n) i ≡ true
flag-without NonNullable i = refl
flag-without Nullable i = refl

HasLength-without : (n : Nullability) (count : ℕ) → HasLength (without_nulls n) count
HasLength-without NonNullable count = tt
HasLength-without Nullable count = tt

nullable-of_null : (n : Nullability) → MayBeNull n → Nullable ≡ n
nullable-of_null NonNullable h = absurd h
nullable-of_null Nullable h = refl

IsValidityOf-copies : (constant : Constant) (form : ValidityForm) → HasLength form (length (column_rows (OfConstant constant))) → ((i : ℕ) → flag_at form i ≡ is_some (option_map (λ (v : FlatValue). Single v) constant.value))
    → nullability_in form ≡ nullability_of constant.dtype → IsValidityOf (OfConstant constant) (ByRows form)
IsValidityOf-copies constant form fits flag nullability = record {
  counted = fits;
  flags = flags-from_each (column_rows (OfConstant constant)) (ByRows form) (λ i row h here.
      let shown = option_map (λ (v : FlatValue). Single v) constant.value in
      let within : i < constant.count = rw (length-replicate constant.count shown) at h in
      let copied : slice_get (replicate constant.count shown) i ≡ Some shown = slice_get-replicate constant.count i shown within in
      let same : shown ≡ row = cc in
      flag i ∙ ap is_some same);
  nullability = nullability;
}

is_some-single : (v : Option FlatValue) → is_some (option_map (λ (x : FlatValue). Single x) v) ≡ is_some v
is_some-single None = refl
is_some-single (Some x) = refl

-- the view of a null shows nothing
pub is_some-of_null : {A : Type 0} (shown : ScalarView A) (v : Option FlatValue) → shown ≡ view.Null → sees shown ≡ option_map (λ (x : FlatValue). Single x) v → is_some v ≡ false
is_some-of_null shown v null value = sym (is_some-single v) ∙ ap is_some (sym value) ∙ ap (λ s. is_some (sees s)) null

-- and each other view something
pub is_some-of_view : {A : Type 0} (shown : ScalarView A) (v : Option FlatValue) → shown ≢ view.Null → sees shown ≡ option_map (λ (x : FlatValue). Single x) v → is_some v ≡ true
is_some-of_view view.Null v some value = absurd (some refl)
is_some-of_view (view.Bool b) v some value = sym (is_some-single v) ∙ ap is_some (sym value)
is_some-of_view (view.Unsigned n) v some value = sym (is_some-single v) ∙ ap is_some (sym value)
is_some-of_view (view.Signed z) v some value = sym (is_some-single v) ∙ ap is_some (sym value)
is_some-of_view (view.Decimal z) v some value = sym (is_some-single v) ∙ ap is_some (sym value)
is_some-of_view (view.Utf8 s) v some value = sym (is_some-single v) ∙ ap is_some (sym value)
is_some-of_view (view.Binary s) v some value = sym (is_some-single v) ∙ ap is_some (sym value)
is_some-of_view (view.List elements start size) v some value = sym (is_some-single v) ∙ ap is_some (sym value)

pub IsValidityOf-null : (constant : Constant) → is_some constant.value ≡ false → MayBeNull (nullability_of constant.dtype) → IsValidityOf (OfConstant constant) (ByRows AllNull)
IsValidityOf-null constant null may = IsValidityOf-copies constant AllNull tt (λ i. sym (is_some-single constant.value ∙ null)) (nullable-of_null (nullability_of constant.dtype) may)

pub IsValidityOf-valid : (constant : Constant) (n : Nullability) → is_some constant.value ≡ true → n ≡ nullability_of constant.dtype → IsValidityOf (OfConstant constant) (ByRows (without_nulls n))
IsValidityOf-valid constant n valid same =
    IsValidityOf-copies constant (without_nulls n) (HasLength-without n _) (λ i. flag-without n i ∙ sym (is_some-single constant.value ∙ valid)) (nullability-without n ∙ same)

-- and its form says which
pub constant_validity-null : (constant : Constant) → is_some constant.value ≡ false → ByRows AllNull ≡ ByRows (constant_validity constant)
constant_validity-null constant null = ap (λ some. ByRows (cond some (without_nulls (nullability_of constant.dtype)) AllNull)) (sym null)

pub constant_validity-valid : (constant : Constant) (n : Nullability) → is_some constant.value ≡ true → n ≡ nullability_of constant.dtype → ByRows (without_nulls n) ≡ ByRows (constant_validity constant)
constant_validity-valid constant n valid same =
    ap (λ m. ByRows (without_nulls m)) same ∙ ap (λ some. ByRows (cond some (without_nulls (nullability_of constant.dtype)) AllNull)) (sym valid)

-- the validity of what runs show, by that of their values
pub IsValidityOf-runs : (r : Runs) (plain : PrimitiveForm) (values rows : RowValidityForm) → AreRuns r → r.ends ≡ ends_of plain → IsValidityOf r.values values
    → IsValidityInRuns plain.ptype (ends_of plain) values (length plain.numbers) r.offset r.count rows → IsValidityOf (column_of_runs r) rows
IsValidityOf-runs r plain values rows are ends valid shown =
    let counted = length-run_rows r.ends (column_rows r.values) r.offset r.count in
    let runs : length (column_rows r.values) ≡ length plain.numbers = are.paired ∙ ap length ends ∙ length_ends_of plain in
    record {
      counted = rw counted (has_rows-in_runs plain.ptype (ends_of plain) r.offset r.count values rows (length plain.numbers) shown);
      flags = flags-from_each (column_rows (column_of_runs r)) rows (λ i row h here.
          let within : i < r.count = rw counted at h in
          let run = run_at r.ends (r.offset + i) in
          let among = run_of_row_within r.ends r.offset r.count i are.window within in
          let paired = are.paired in
          let value : slice_get (column_rows r.values) run ≡ Some row = sym (slice_get-run_rows_of_window r.ends (column_rows r.values) r.offset r.count i are.window are.paired within) ∙ here in
          let place : run_at (ends_of plain) (r.offset + i) ≡ run = ap (λ es. run_at es (r.offset + i)) (sym ends) in
          flag-in_runs plain.ptype (ends_of plain) r.offset r.count values rows (length plain.numbers) i shown (omega arith)
          ∙ ap (row_flag_at values) place
          ∙ each-from_flags (column_rows r.values) values run row valid.flags (omega arith) value);
      nullability = nullability-in_runs plain.ptype (ends_of plain) r.offset r.count values rows (length plain.numbers) shown ∙ valid.nullability;
    }

-- and its form
pub IsValidityForm-runs : (r : Runs) (plain : PrimitiveForm) (values rows : RowValidityForm) → r.ends_type ≡ plain.ptype → r.ends ≡ ends_of plain → IsValidityForm r.values values
    → IsValidityInRuns plain.ptype (ends_of plain) values (length plain.numbers) r.offset r.count rows → IsValidityForm (column_of_runs r) rows
IsValidityForm-runs r plain values rows ends_type ends form shown = (values, (form, rw (ends_type, ends, length_ends_of plain) shown))
