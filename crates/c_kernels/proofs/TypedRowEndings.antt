-- How the call of a row ends, and what it reports.
use Rattle.std.proofs.Common.{◌≡◌, ◌≢◌, ◌∙◌, ℕ, ℤ, pos, List, length, Option, Some, None, Result, Ok, Err, inl, ap, refl, sym, subst}
use Rattle.std.specs.Prelude.{IfErr, IfOk, IsSomeAnd, slice_get}
use Rattle.std.specs.Option.{option_or}
use Rattle.std.specs.Global.{Global}
use Rattle.column_base.specs.declared.dtype.DType.{DType}
use Rattle.column_base.specs.declared.dtype.DType.TheVariants as columns
use Rattle.column_base.specs.declared.dtype.Nullability.TheVariants.{Nullable}
use Rattle.column_base.specs.declared.error.VortexError.{VortexError}
use Rattle.column_base.specs.Error.{number_of}
use Rattle.column_core.specs.Kinds.{list_fault}
use Rattle.column_core.specs.Refusal.{row_fault}
use Rattle.column_core.specs.ScalarView.{sees}
use Rattle.column_core.specs.Value.{PlainColumn, Value}
use Rattle.column_core.specs.declared.view.ScalarView.{ScalarView}
use Rattle.column_core.specs.declared.view.ScalarView.TheVariants as view
use Rattle.float_bits.specs.declared.formats.FloatFormat.{FloatFormat}
use Rattle.float_bits.specs.Format.{IsPattern}
use Rattle.runend_array.specs.Array.{dtype_of, rows}
use Rattle.runend_commands.specs.Refusal.{refusal}
use Rattle.runend_commands.specs.declared.command.Command.TheVariants.{At}
use Rattle.typed_columns.specs.Typed.{typed_of}
use Rattle.typed_columns.specs.declared.typed_column.TypedColumn.{TypedColumn}
use Rattle.typed_kernels.specs.Served.{served}
use Rattle.typed_kernels.specs.Views.{IsShownAs}
use Rattle.typed_kernels.specs.declared.meanings.Served.{Served}
use Rattle.typed_kernels.specs.declared.meanings.Served.TheVariants.{Stored, Floats, Times}
use Rattle.typed_kernels.specs.declared.views.TypedView.TheVariants as shown
use Rattle.c_columns.specs.Ending.{HasFields, IsLookUpFault}
use Rattle.c_columns.specs.Values.{IsRoomFault, IsTold, TellsView}
use Rattle.c_columns.specs.declared.error_fields.ErrorFields.{ErrorFields}
use Rattle.c_columns.specs.declared.row_value.RowValue.{RowValue}
use Rattle.c_columns.proofs.LookUps.{no_fault, room_fault}
use Rattle.c_kernels.specs.TypedRows.{IsDoubleTold, IsFloatRowTold, IsRowTold, IsToldBy}

-- ---- Why a row is not reported ----

-- the row is past the last
pub outside : (before : PlainColumn) (row room : ℕ) (error : VortexError) → list_fault before.dtype ≡ None → row_fault row (length before.rows) ≡ Some error → IsLookUpFault before row room error
outside before row room error flat above = inl (ap (λ (f : Option VortexError). option_or f (row_fault row (length before.rows))) flat ∙ above)

-- the row is there
module _ (before : PlainColumn) (row : ℕ) (Shows : Option Value → Type 0) where
  there_in : (found : Option (Option Value)) → slice_get before.rows row ≡ found → IsSomeAnd found Shows → list_fault before.dtype ≡ None → refusal {A = Global} before (At row) ≡ None
  there_in None same shows flat = absurd shows
  there_in (Some value) same shows flat = no_fault before row value flat same

  pub accepted : list_fault before.dtype ≡ None → IsSomeAnd (slice_get before.rows row) Shows → refusal {A = Global} before (At row) ≡ None
  accepted flat shows = there_in (slice_get before.rows row) refl shows flat

-- a text or bytes that have no room
short_of : (s : Served) (dtype : DType) (before : PlainColumn) (row room : ℕ) (value : Option Value) (v : ScalarView Global) (error : VortexError) → list_fault before.dtype ≡ None → slice_get before.rows row ≡ Some value
    → IsShownAs {A = Global} s dtype value (shown.Stored v) → IsRoomFault (sees v) room error → IsLookUpFault before row room error
short_of Stored dtype before row room value v error flat there shows short =
    room_fault before row room value error flat there (subst (λ (r : Option Value). IsRoomFault r room error) shows.0 short)
short_of (Times t) dtype before row room value v error flat there shows short =
    room_fault before row room value error flat there (subst (λ (r : Option Value). IsRoomFault r room error) shows.0 short)
short_of (Floats f) dtype before row room value v error flat there shows short = absurd (subst (λ (r : Option Value). IsRoomFault r room error) shows.1 short)

short_in : (s : Served) (dtype : DType) (before : PlainColumn) (row room : ℕ) (found : Option (Option Value)) (v : ScalarView Global) (error : VortexError) → list_fault before.dtype ≡ None → slice_get before.rows row ≡ found
    → IsSomeAnd found (λ r. IsShownAs {A = Global} s dtype r (shown.Stored v)) → IsRoomFault (sees v) room error → IsLookUpFault before row room error
short_in s dtype before row room None v error flat there shows short = absurd shows
short_in s dtype before row room (Some value) v error flat there shows short = short_of s dtype before row room value v error flat there shows short

pub no_room : (s : Served) (dtype : DType) (before : PlainColumn) (row room : ℕ) (outcome : Result RowValue VortexError) (v : ScalarView Global) → list_fault before.dtype ≡ None
    → IsSomeAnd (slice_get before.rows row) (λ r. IsShownAs {A = Global} s dtype r (shown.Stored v)) → IfErr outcome (λ error. IsRoomFault (sees v) room error) → IfErr outcome (λ error. IsLookUpFault before row room error)
no_room s dtype before row room (Ok value) v flat shows short = tt
no_room s dtype before row room (Err error) v flat shows short = short_in s dtype before row room (slice_get before.rows row) v error flat refl shows short

-- ---- What is reported of a row ----

found_told : (c : TypedColumn Global) (row : ℕ) (text : List ℕ) (value : RowValue) (Shows : Option Value → Type 0) (found : Option (Option Value)) → slice_get (rows c.array) row ≡ found → IsSomeAnd found Shows
    → ((r : Option Value) → Shows r → IsToldBy (served (typed_of c)) (dtype_of c.array) r value text) → IsRowTold row c text value
found_told c row text value Shows None there shows tell = absurd shows
found_told c row text value Shows (Some r) there shows tell = record { shown = r; there = there; told = tell r shows }

-- null is reported as null, whatever the type
null_told : (v : ScalarView Global) (value : RowValue) (text : List ℕ) → sees v ≡ None → TellsView value text v → value.kind ≡ 0
null_told view.Null value text null tells = tells (columns.Bool Nullable) tt
null_told (view.Bool b) value text null tells = absurd (cc)
null_told (view.Unsigned n) value text null tells = absurd (cc)
null_told (view.Signed z) value text null tells = absurd (cc)
null_told (view.Decimal z) value text null tells = absurd (cc)
null_told (view.Utf8 s) value text null tells = absurd (cc)
null_told (view.Binary s) value text null tells = absurd (cc)
null_told (view.List elements start size) value text null tells = absurd (cc)

told_by_view : (s : Served) (dtype : DType) (v : ScalarView Global) (value : RowValue) (text : List ℕ) → TellsView value text v → (r : Option Value) → IsShownAs {A = Global} s dtype r (shown.Stored v) → IsToldBy s dtype r value text
told_by_view Stored dtype v value text tells r shows = subst (λ (o : Option Value). IsTold dtype o value text) shows.0 (tells dtype shows.1)
told_by_view (Times t) dtype v value text tells r shows = subst (λ (o : Option Value). IsTold dtype o value text) shows.0 (tells dtype shows.1)
told_by_view (Floats f) dtype v value text tells r shows = subst (λ (o : Option ℕ). IsFloatRowTold f o value) (sym shows.0) (null_told v value text shows.1 tells)

pub stored_told : (c : TypedColumn Global) (row : ℕ) (text : List ℕ) (outcome : Result RowValue VortexError) (v : ScalarView Global)
    → IsSomeAnd (slice_get (rows c.array) row) (λ r. IsShownAs {A = Global} (served (typed_of c)) (dtype_of c.array) r (shown.Stored v)) → IfOk outcome (λ value. TellsView value text v) → IfOk outcome (λ value. IsRowTold row c text value)
stored_told c row text (Ok value) v shows tells =
    found_told c row text value (λ r. IsShownAs {A = Global} (served (typed_of c)) (dtype_of c.array) r (shown.Stored v)) (slice_get (rows c.array) row) refl shows (told_by_view (served (typed_of c)) (dtype_of c.array) v value text tells)
stored_told c row text (Err error) v shows tells = tt

told_as_double : (s : Served) (dtype : DType) (g : FloatFormat) (bits : ℕ) (value : RowValue) (text : List ℕ) → IsDoubleTold g bits value → (r : Option Value) → IsShownAs {A = Global} s dtype r (shown.Float g bits) → IsToldBy s dtype r value text
told_as_double Stored dtype g bits value text told r shows = absurd shows
told_as_double (Times t) dtype g bits value text told r shows = absurd shows
told_as_double (Floats f) dtype g bits value text told r shows =
    subst (λ (o : Option ℕ). IsFloatRowTold f o value) (sym shows.0) (subst (λ (h : FloatFormat). IsDoubleTold h bits value) shows.1 told)

pub float_told : (c : TypedColumn Global) (row : ℕ) (text : List ℕ) (value : RowValue) (g : FloatFormat) (bits : ℕ)
    → IsSomeAnd (slice_get (rows c.array) row) (λ r. IsShownAs {A = Global} (served (typed_of c)) (dtype_of c.array) r (shown.Float g bits)) → IsDoubleTold g bits value → IsRowTold row c text value
float_told c row text value g bits shows told =
    found_told c row text value (λ r. IsShownAs {A = Global} (served (typed_of c)) (dtype_of c.array) r (shown.Float g bits)) (slice_get (rows c.array) row) refl shows (told_as_double (served (typed_of c)) (dtype_of c.array) g bits value text told)

-- the bits of a float that is shown are a pattern of its format
pattern_by : (s : Served) (dtype : DType) (g : FloatFormat) (bits : ℕ) (r : Option Value) → IsShownAs {A = Global} s dtype r (shown.Float g bits) → IsPattern g bits
pattern_by Stored dtype g bits r shows = absurd shows
pattern_by (Times t) dtype g bits r shows = absurd shows
pattern_by (Floats f) dtype g bits r shows = subst (λ (h : FloatFormat). IsPattern h bits) (sym shows.1) shows.2

pattern_in : (s : Served) (dtype : DType) (g : FloatFormat) (bits : ℕ) (found : Option (Option Value)) → IsSomeAnd found (λ r. IsShownAs {A = Global} s dtype r (shown.Float g bits)) → IsPattern g bits
pattern_in s dtype g bits None shows = absurd shows
pattern_in s dtype g bits (Some r) shows = pattern_by s dtype g bits r shows

pub pattern_shown : (s : Served) (dtype : DType) (rows : List (Option Value)) (row : ℕ) (g : FloatFormat) (bits : ℕ) → IsSomeAnd (slice_get rows row) (λ r. IsShownAs {A = Global} s dtype r (shown.Float g bits)) → IsPattern g bits
pattern_shown s dtype rows row g bits shows = pattern_in s dtype g bits (slice_get rows row) shows

-- that of the row in the column of a handle
pub row_told : (c : Option (TypedColumn Global)) (a : TypedColumn Global) (row : ℕ) (text : List ℕ) (outcome : Result RowValue VortexError) (code : ℤ) (value : RowValue) (fields : ErrorFields) → c ≡ Some a → IfOk outcome (λ found. IsRowTold row a text found)
    → IfOk outcome (λ found. (code ≡ pos 0) × (value ≡ found)) → IfErr outcome (λ error. (code ≡ pos (number_of error)) × (code ≢ pos 0) × HasFields error fields) → code ≡ pos 0 → IsSomeAnd c (λ x. IsRowTold row x text value)
row_told c a row text (Ok found) code value fields some is ok err zero =
    subst (λ (h : Option (TypedColumn Global)). IsSomeAnd h (λ x. IsRowTold row x text value)) (sym some) (subst (λ (v : RowValue). IsRowTold row a text v) (sym ok.1) is)
row_told c a row text (Err error) code value fields some is ok err zero = absurd (err.1 zero)
