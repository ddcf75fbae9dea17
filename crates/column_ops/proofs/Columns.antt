-- Lemmas on the columns of each kind that calls make.
use Rattle.std.proofs.Common.{◌≡◌, ◌∙◌, ◌+◌, ◌-◌, ◌<◌, ℕ, ℤ, zero, suc, pos, negsuc, List, [], ◌∷◌, ◌++◌, Bool, true, false, Option, Some, None, length, map, get_or, refl, ap, arith}
use Rattle.std.specs.Prelude.{option_map, slice_range, All, IfSome}
use Rattle.std.proofs.lemmas.List.{get_or_append_left, get_or_push, length_push, take_all}
use Rattle.std.proofs.lemmas.List.Elements.{All-nil, All-cons, All-head, All-tail}
use Rattle.column_base.specs.declared.dtype.DecimalDType.{DecimalDType}
use Rattle.column_base.specs.declared.dtype.Nullability.{Nullability}
use Rattle.column_base.specs.declared.dtype.DType.TheVariants as column
use Rattle.column_base.specs.Types.{nullability_of, with_nullability}
use Rattle.column_base.specs.ValidityForm.{ValidityForm, HasLength, flags, nullability_in}
use Rattle.column_core.specs.declared.varbinview.View.{View}
use Rattle.column_core.specs.declared.varbinview.VarBinKind.{VarBinKind}
use Rattle.column_core.specs.declared.varbinview.VarBinKind.TheVariants.{Utf8, Binary}
use Rattle.column_core.specs.Value.{Truth, DecimalNumber}
use Rattle.column_core.specs.Optionals.{optionals}
use Rattle.column_core.specs.BoolForm.{bool_with}
use Rattle.column_core.specs.DecimalForm.{decimal_with}
use Rattle.column_core.specs.VarBinForm.{AreVarBins, IsOfKind, IsWithinBuffer, VarBinForm, kind_dtype, varbin_dtype, varbin_rows, varbin_value, varbin_with, view_bytes, zero_view}
use Rattle.column_ops.proofs.Made.{fill_rows-map, filter_rows-map, take_rows-map}
use Rattle.column_core.specs.Leaf.{OfTruths, OfDecimals, OfVarBins}
use Rattle.column_ops.specs.Computed.{IsMade}
use Rattle.column_ops.specs.Fill.{fill_rows}
use Rattle.column_ops.specs.Filter.{filter_rows}
use Rattle.column_ops.specs.Nullable.{either_nullable}
use Rattle.column_ops.specs.Take.{take_rows, taken_row}
use Rattle.column_ops.specs.Written.{AreStoredAs}
use Rattle.column_ops.proofs.IndexPositions.{optionals-map}

-- written booleans are a column of these rows
pub IsMade-truths : (rows : List (Option Bool)) (wanted : Nullability) (items : List Bool) (form : ValidityForm) → AreStoredAs false rows wanted items form
    → IsMade (map (option_map Truth) rows) (column.Bool wanted) (OfTruths (bool_with items form))
IsMade-truths rows wanted items form written = record {
  rows = ap (map (option_map (λ (b : Bool). Truth b))) written.shown;
  dtype = ap column.Bool written.nullability;
  computed = written.computed;
}

-- written numbers of decimals are a column of these rows
pub IsMade-decimals : (decimal : DecimalDType) (rows : List (Option ℤ)) (wanted : Nullability) (items : List ℤ) (form : ValidityForm) → AreStoredAs (pos 0) rows wanted items form
    → IsMade (map (option_map DecimalNumber) rows) (column.Decimal decimal wanted) (OfDecimals (decimal_with decimal items form))
IsMade-decimals decimal rows wanted items form written = record {
  rows = ap (map (option_map (λ (n : ℤ). DecimalNumber n))) written.shown;
  dtype = ap (column.Decimal decimal) written.nullability;
  computed = written.computed;
}

-- written views are a column of the bytes that they cut
pub IsMade-varbins : (kind : VarBinKind) (buffers : List (List ℕ)) (rows : List (Option View)) (wanted : Nullability) (items : List View) (form : ValidityForm) → AreStoredAs zero_view rows wanted items form
    → IsMade (map (option_map (varbin_value kind)) (map (option_map (view_bytes buffers)) rows)) (kind_dtype kind wanted) (OfVarBins (varbin_with kind items buffers form))
IsMade-varbins kind buffers rows wanted items form written = record {
  rows = ap (map (option_map (varbin_value kind))) (optionals-map (view_bytes buffers) items (flags form (length items)) ∙ ap (map (option_map (view_bytes buffers))) written.shown);
  dtype = ap (kind_dtype kind) written.nullability;
  computed = written.computed;
}

-- the type of texts or bytes with another nullability
pub kind_dtype-either : (kind : VarBinKind) (n m : Nullability) → with_nullability (kind_dtype kind n) (either_nullable (nullability_of (kind_dtype kind n)) m) ≡ kind_dtype kind (either_nullable n m)
kind_dtype-either Utf8 n m = refl
kind_dtype-either Binary n m = refl

-- of the rows each that is not null has the property
abbrev pub EachValid : {B : Type 0} → (B → Type 0) → List (Option B) → Type 0
EachValid P rows = All (λ row. IfSome row P) rows

-- a row that is there has it, and null has it for nothing
row-of_each : {B : Type 0} (P : B → Type 0) (rows : List (Option B)) (k : ℕ) → EachValid P rows → IfSome (get_or rows k None) P
row-of_each P [] k each = tt
row-of_each P (row ∷ rows) zero each = All-head (λ r. IfSome r P) row rows each
row-of_each P (row ∷ rows) (suc k) each = row-of_each P rows k (All-tail (λ r. IfSome r P) row rows each)

taken-of_each : {B : Type 0} (P : B → Type 0) (rows : List (Option B)) (index : Option ℤ) → EachValid P rows → IfSome (taken_row rows index) P
taken-of_each P rows None each = tt
taken-of_each P rows (Some (pos k)) each = row-of_each P rows k each
taken-of_each P rows (Some (negsuc k)) each = tt

-- taken rows have it too
pub EachValid-take : {B : Type 0} (P : B → Type 0) (rows : List (Option B)) (indices : List (Option ℤ)) → EachValid P rows → EachValid P (take_rows rows indices)
EachValid-take P rows [] each = All-nil (λ r. IfSome r P)
EachValid-take P rows (index ∷ indices) each = All-cons (λ r. IfSome r P) (taken_row rows index) (take_rows rows indices) (taken-of_each P rows index each) (EachValid-take P rows indices each)

-- selected rows have it too
pub EachValid-filter : {B : Type 0} (P : B → Type 0) (mask : List Bool) (rows : List (Option B)) → EachValid P rows → EachValid P (filter_rows mask rows)
EachValid-filter P [] rows each = All-nil (λ r. IfSome r P)
EachValid-filter P (b ∷ mask) [] each = All-nil (λ r. IfSome r P)
EachValid-filter P (true ∷ mask) (row ∷ rows) each = All-cons (λ r. IfSome r P) row (filter_rows mask rows) (All-head (λ r. IfSome r P) row rows each) (EachValid-filter P mask rows (All-tail (λ r. IfSome r P) row rows each))
EachValid-filter P (false ∷ mask) (row ∷ rows) each = EachValid-filter P mask rows (All-tail (λ r. IfSome r P) row rows each)

-- a property of valid items, by index
pub EachValid-from : {B : Type 0} (P : B → Type 0) (blank : B) (items : List B) (bits : List Bool) → ((k : ℕ) → k < length items → get_or bits k false ≡ true → P (get_or items k blank)) → EachValid P (optionals items bits)
EachValid-from P blank [] bits each = All-nil (λ r. IfSome r P)
EachValid-from P blank (x ∷ items) [] each = All-nil (λ r. IfSome r P)
EachValid-from P blank (x ∷ items) (true ∷ bits) each = All-cons (λ r. IfSome r P) (Some x) (optionals items bits) (each 0 (omega arith) refl) (EachValid-from P blank items bits (λ k h. each (suc k) (omega arith)))
EachValid-from P blank (x ∷ items) (false ∷ bits) each = All-cons (λ r. IfSome r P) None (optionals items bits) tt (EachValid-from P blank items bits (λ k h. each (suc k) (omega arith)))

pub EachValid-at : {B : Type 0} (P : B → Type 0) (blank : B) (items : List B) (bits : List Bool) (k : ℕ) → EachValid P (optionals items bits) → k < length items → get_or bits k false ≡ true → P (get_or items k blank)
EachValid-at P blank [] bits k each h flag = absurd (omega arith)
EachValid-at P blank (x ∷ items) [] k each h flag = let wrong : ⊥ = cc in absurd wrong
EachValid-at P blank (x ∷ items) (true ∷ bits) zero each h flag = All-head (λ r. IfSome r P) (Some x) (optionals items bits) each
EachValid-at P blank (x ∷ items) (false ∷ bits) zero each h flag = let wrong : ⊥ = cc in absurd wrong
EachValid-at P blank (x ∷ items) (true ∷ bits) (suc k) each h flag = EachValid-at P blank items bits k (All-tail (λ r. IfSome r P) (Some x) (optionals items bits) each) (omega arith) flag
EachValid-at P blank (x ∷ items) (false ∷ bits) (suc k) each h flag = EachValid-at P blank items bits k (All-tail (λ r. IfSome r P) None (optionals items bits) each) (omega arith) flag

-- the view lies within its buffer, and cuts a text where texts are wanted
pub record IsSound (kind : VarBinKind) (buffers : List (List ℕ)) (view : View) : Type 0 where
  pub within : IsWithinBuffer buffers view
  pub text : IsOfKind kind (view_bytes buffers view)

-- each valid view of a column is sound
pub sound_views : (kind : VarBinKind) (buffers : List (List ℕ)) (views : List View) (form : ValidityForm) → AreVarBins (varbin_with kind views buffers form)
    → EachValid (IsSound kind buffers) (optionals views (flags form (length views)))
sound_views kind buffers views form are =
    EachValid-from (IsSound kind buffers) zero_view views (flags form (length views)) (λ k h flag. record { within = are.within k h flag; text = are.texts k h flag })

-- sound views are a column
pub AreVarBins-sound : (kind : VarBinKind) (buffers : List (List ℕ)) (views : List View) (form : ValidityForm) → HasLength form (length views)
    → EachValid (IsSound kind buffers) (optionals views (flags form (length views))) → AreVarBins (varbin_with kind views buffers form)
AreVarBins-sound kind buffers views form fits sound = record {
  counted = fits;
  within = λ k h flag. (EachValid-at (IsSound kind buffers) zero_view views (flags form (length views)) k sound h flag).within;
  texts = λ k h flag. (EachValid-at (IsSound kind buffers) zero_view views (flags form (length views)) k sound h flag).text;
}

-- the optional views of a column, row by row
abbrev pub optional_views : VarBinForm → List (Option View)
optional_views form = optionals form.views (flags form.validity (length form.views))

-- the rows are the bytes that the views cut
pub varbin_rows-of_views : (form : VarBinForm) → varbin_rows form ≡ map (option_map (varbin_value form.kind)) (map (option_map (view_bytes form.buffers)) (optional_views form))
varbin_rows-of_views form = ap (map (option_map (varbin_value form.kind))) (optionals-map (view_bytes form.buffers) form.views (flags form.validity (length form.views)))

-- taken views are sound, and show the rows that are taken
pub taken_views_sound : (own : VarBinForm) (indices : List (Option ℤ)) (wanted : Nullability) (items : List View) (form : ValidityForm) → AreVarBins own
    → AreStoredAs zero_view (take_rows (optional_views own) indices) wanted items form → AreVarBins (varbin_with own.kind items own.buffers form)
taken_views_sound own indices wanted items form are written =
    let sound = EachValid-take (IsSound own.kind own.buffers) (optional_views own) indices (sound_views own.kind own.buffers own.views own.validity are) in
    AreVarBins-sound own.kind own.buffers items form written.fits (rw (written.shown) sound)

pub IsMade-taken_views : (own : VarBinForm) (indices : List (Option ℤ)) (other wanted : Nullability) (items : List View) (form : ValidityForm) → wanted ≡ either_nullable (nullability_in own.validity) other
    → AreStoredAs zero_view (take_rows (optional_views own) indices) wanted items form
    → IsMade (take_rows (varbin_rows own) indices) (with_nullability (varbin_dtype own) (either_nullable (nullability_of (varbin_dtype own)) other)) (OfVarBins (varbin_with own.kind items own.buffers form))
IsMade-taken_views own indices other wanted items form same written =
    rw (
      varbin_rows-of_views own,
      take_rows-map (varbin_value own.kind) (map (option_map (view_bytes own.buffers)) (optional_views own)) indices,
      take_rows-map (view_bytes own.buffers) (optional_views own) indices,
      kind_dtype-either own.kind (nullability_in own.validity) other,
      ← same,
    )
    (IsMade-varbins own.kind own.buffers (take_rows (optional_views own) indices) wanted items form written)

-- selected views are sound, and show the rows that are selected
pub filtered_views_sound : (own : VarBinForm) (mask : List Bool) (wanted : Nullability) (items : List View) (form : ValidityForm) → AreVarBins own
    → AreStoredAs zero_view (filter_rows mask (optional_views own)) wanted items form → AreVarBins (varbin_with own.kind items own.buffers form)
filtered_views_sound own mask wanted items form are written =
    let sound = EachValid-filter (IsSound own.kind own.buffers) mask (optional_views own) (sound_views own.kind own.buffers own.views own.validity are) in
    AreVarBins-sound own.kind own.buffers items form written.fits (rw (written.shown) sound)

pub IsMade-filtered_views : (own : VarBinForm) (mask : List Bool) (items : List View) (form : ValidityForm) → AreStoredAs zero_view (filter_rows mask (optional_views own)) (nullability_in own.validity) items form
    → IsMade (filter_rows mask (varbin_rows own)) (varbin_dtype own) (OfVarBins (varbin_with own.kind items own.buffers form))
IsMade-filtered_views own mask items form written =
    rw (varbin_rows-of_views own, filter_rows-map (option_map (varbin_value own.kind)) mask (map (option_map (view_bytes own.buffers)) (optional_views own)), filter_rows-map (option_map (view_bytes own.buffers)) mask (optional_views own))
    (IsMade-varbins own.kind own.buffers (filter_rows mask (optional_views own)) (nullability_in own.validity) items form written)

-- filled rows have a property that the value has
pub EachValid-fill : {B : Type 0} (P : B → Type 0) (rows : List (Option B)) (value : B) → P value → EachValid P rows → EachValid P (fill_rows rows value)
EachValid-fill P [] value has each = All-nil (λ r. IfSome r P)
EachValid-fill P (None ∷ rows) value has each = All-cons (λ r. IfSome r P) (Some value) (fill_rows rows value) has (EachValid-fill P rows value has (All-tail (λ r. IfSome r P) None rows each))
EachValid-fill P (Some x ∷ rows) value has each =
    All-cons (λ r. IfSome r P) (Some x) (fill_rows rows value) (All-head (λ r. IfSome r P) (Some x) rows each) (EachValid-fill P rows value has (All-tail (λ r. IfSome r P) (Some x) rows each))

-- a property that follows from one that each valid row has
EachValid-then : {B : Type 0} (P Q : B → Type 0) (rows : List (Option B)) → ((x : B) → P x → Q x) → EachValid P rows → EachValid Q rows
EachValid-then P Q [] step each = All-nil (λ r. IfSome r Q)
EachValid-then P Q (None ∷ rows) step each = All-cons (λ r. IfSome r Q) None rows tt (EachValid-then P Q rows step (All-tail (λ r. IfSome r P) None rows each))
EachValid-then P Q (Some x ∷ rows) step each =
    All-cons (λ r. IfSome r Q) (Some x) rows (step x (All-head (λ r. IfSome r P) (Some x) rows each)) (EachValid-then P Q rows step (All-tail (λ r. IfSome r P) (Some x) rows each))

-- a view within its buffer cuts the same bytes where one more buffer follows
view_bytes-more : (buffers : List (List ℕ)) (bytes : List ℕ) (view : View) → IsWithinBuffer buffers view → view_bytes (buffers ++ bytes ∷ []) view ≡ view_bytes buffers view
view_bytes-more buffers bytes view within = ap (λ buffer. slice_range buffer view.start (view.start + view.size)) (get_or_append_left buffers (bytes ∷ []) [] view.buffer within.buffer)

IsSound-more : (kind : VarBinKind) (buffers : List (List ℕ)) (bytes : List ℕ) (view : View) → IsSound kind buffers view → IsSound kind (buffers ++ bytes ∷ []) view
IsSound-more kind buffers bytes view sound =
    let same = get_or_append_left buffers (bytes ∷ []) [] view.buffer sound.within.buffer in
    let more = length_push buffers bytes in
    let inside = sound.within.buffer in
    record {
      within = record { buffer = omega arith; bytes = rw same (sound.within.bytes) };
      text = rw (view_bytes-more buffers bytes view sound.within) (sound.text);
    }

-- the view of the whole last buffer
abbrev pub whole_view : List (List ℕ) → List ℕ → View
whole_view buffers bytes = record { buffer = length buffers; start = 0; size = length bytes }

whole_bytes : (buffers : List (List ℕ)) (bytes : List ℕ) → view_bytes (buffers ++ bytes ∷ []) (whole_view buffers bytes) ≡ bytes
whole_bytes buffers bytes =
    ap (λ buffer. slice_range buffer 0 (0 + length bytes)) (get_or_push buffers bytes [] (length buffers) refl) ∙ take_all (0 + length bytes - 0) bytes (omega arith)

IsSound-whole : (kind : VarBinKind) (buffers : List (List ℕ)) (bytes : List ℕ) → IsOfKind kind bytes → IsSound kind (buffers ++ bytes ∷ []) (whole_view buffers bytes)
IsSound-whole kind buffers bytes text =
    let more = length_push buffers bytes in
    let last = get_or_push buffers bytes [] (length buffers) refl in
    record {
      within = record { buffer = omega arith; bytes = rw last (omega arith) };
      text = rw (whole_bytes buffers bytes) text;
    }

-- the bytes of filled views are filled bytes
filled_bytes : (kind : VarBinKind) (buffers : List (List ℕ)) (bytes : List ℕ) (views : List (Option View)) → EachValid (IsSound kind buffers) views
    → map (option_map (view_bytes (buffers ++ bytes ∷ []))) (fill_rows views (whole_view buffers bytes)) ≡ fill_rows (map (option_map (view_bytes buffers)) views) bytes
filled_bytes kind buffers bytes [] each = refl
filled_bytes kind buffers bytes (None ∷ views) each =
    let rest = filled_bytes kind buffers bytes views (All-tail (λ r. IfSome r (IsSound kind buffers)) None views each) in
    let first = whole_bytes buffers bytes in
    λ i. Some (first i) ∷ rest i
filled_bytes kind buffers bytes (Some view ∷ views) each =
    let rest = filled_bytes kind buffers bytes views (All-tail (λ r. IfSome r (IsSound kind buffers)) (Some view) views each) in
    let sound : IsSound kind buffers view = All-head (λ r. IfSome r (IsSound kind buffers)) (Some view) views each in
    let first = view_bytes-more buffers bytes view sound.within in
    λ i. Some (first i) ∷ rest i

-- filled views are sound, and show the rows that are filled
pub filled_views_sound : (own : VarBinForm) (bytes : List ℕ) (wanted : Nullability) (items : List View) (form : ValidityForm) → AreVarBins own → IsOfKind own.kind bytes
    → AreStoredAs zero_view (fill_rows (optional_views own) (whole_view own.buffers bytes)) wanted items form → AreVarBins (varbin_with own.kind items (own.buffers ++ bytes ∷ []) form)
filled_views_sound own bytes wanted items form are text written =
    let more = own.buffers ++ bytes ∷ [] in
    let old = EachValid-then (IsSound own.kind own.buffers) (IsSound own.kind more) (optional_views own) (IsSound-more own.kind own.buffers bytes) (sound_views own.kind own.buffers own.views own.validity are) in
    let sound = EachValid-fill (IsSound own.kind more) (optional_views own) (whole_view own.buffers bytes) (IsSound-whole own.kind own.buffers bytes text) old in
    AreVarBins-sound own.kind more items form written.fits (rw (written.shown) sound)

pub IsMade-filled_views : (own : VarBinForm) (bytes : List ℕ) (wanted : Nullability) (items : List View) (form : ValidityForm) → AreVarBins own
    → AreStoredAs zero_view (fill_rows (optional_views own) (whole_view own.buffers bytes)) wanted items form
    → IsMade (fill_rows (varbin_rows own) (varbin_value own.kind bytes)) (kind_dtype own.kind wanted) (OfVarBins (varbin_with own.kind items (own.buffers ++ bytes ∷ []) form))
IsMade-filled_views own bytes wanted items form are written =
    rw (
      varbin_rows-of_views own,
      fill_rows-map (varbin_value own.kind) (map (option_map (view_bytes own.buffers)) (optional_views own)) bytes,
      ← filled_bytes own.kind own.buffers bytes (optional_views own) (sound_views own.kind own.buffers own.views own.validity are),
    )
    (IsMade-varbins own.kind (own.buffers ++ bytes ∷ []) (fill_rows (optional_views own) (whole_view own.buffers bytes)) wanted items form written)
