-- How the call of the least and the greatest row ends, and what it reports.
use Rattle.std.proofs.Common.{◌≡◌, ◌≢◌, ◌⊎◌, inl, inr, refl, sym, subst, pos, ℤ, ℕ, List, Bool, true, false, All, map}
use Rattle.std.specs.Prelude.{Option, Some, None, Result, Ok, Err, IfErr, IfOk, IsSomeAnd}
use Rattle.std.proofs.lemmas.Bool.{false≢true}
use Rattle.std.specs.Global.{Global}
use Rattle.column_base.specs.declared.dtype.DType.{DType}
use Rattle.column_base.specs.declared.error.VortexError.{VortexError}
use Rattle.column_base.specs.declared.error.VortexError.TheVariants.{OutOfMemory}
use Rattle.column_base.specs.Error.{number_of}
use Rattle.column_core.specs.Refusal.{IsErrorFor}
use Rattle.column_core.specs.ScalarForm.{ScalarForm}
use Rattle.column_core.specs.Value.{PlainColumn, Value}
use Rattle.column_floats.specs.Extremes.{AreExtremes as AreFloatExtremes, NoneCounts}
use Rattle.column_ops.specs.OrderFacts as order
use Rattle.column_sums.specs.SumAnswer.{number_in}
use Rattle.float_bits.specs.declared.formats.FloatFormat.{FloatFormat}
use Rattle.float_bits.specs.Number.{IsNan}
use Rattle.runend_array.specs.Array.{column_of, dtype_of}
use Rattle.runend_array.specs.declared.array_ref.ArrayRef.{ArrayRef}
use Rattle.runend_array.specs.declared.session.Kernel.TheVariants.{MinMax as min_max_kernel}
use Rattle.runend_commands.specs.Extremes.{AreExtremes, HasBytes, shown}
use Rattle.runend_commands.specs.Meaning.{plain}
use Rattle.runend_commands.specs.Refusal.{refusal}
use Rattle.runend_commands.specs.declared.command.Command.TheVariants.{MinMax}
use Rattle.typed_columns.specs.Typed.{typed_of}
use Rattle.typed_columns.specs.declared.typed_column.TypedColumn.{TypedColumn}
use Rattle.typed_kernels.specs.Served.{served}
use Rattle.typed_kernels.specs.declared.meanings.Served.{Served}
use Rattle.typed_kernels.specs.declared.meanings.Served.TheVariants.{Stored, Floats, Times}
use Rattle.c_columns.specs.Ending.{EndsOnEnds, HasFields, HasNoRoomFor, HasRoomFor, IsEndsFault}
use Rattle.c_columns.specs.Sessions.{IsReadInPlaceIn}
use Rattle.c_columns.specs.Values.{IsExtremeOf, IsFurthestRow, IsRoomFault, IsRoomThere, IsScalarTold, IsTold}
use Rattle.c_columns.specs.declared.error_fields.ErrorFields.{ErrorFields}
use Rattle.c_columns.specs.declared.row_value.RowValue.{RowValue}
use Rattle.c_columns.specs.declared.sessions.Session.{Session}
use Rattle.c_columns.proofs.Short.{extremes_done_never_short, extremes_never_short}
use Rattle.c_kernels.specs.TypedEnds.{IsEndBy, IsEndNeverShortOn, IsEndOf, IsFloatEnd}
use Rattle.c_kernels.specs.TypedRows.{IsDoubleTold}
use Rattle.c_kernels.specs.declared.typed_ends.Ends.{Ends}

abbrev Array : Type 0
Array = Option (ArrayRef Global)

abbrev Held : Type 0
Held = Option (TypedColumn Global)

-- ---- How it ends ----

pub ends_empty : (least greatest : ℕ) (c : Array) (code : ℤ) (fields : ErrorFields) → c ≡ None → code ≡ pos 22 → EndsOnEnds least greatest c code fields
ends_empty least greatest c code fields none is = subst (λ (h : Array). EndsOnEnds least greatest h code fields) (sym none) is

pub ends_done : (least greatest : ℕ) (c : Array) (a : ArrayRef Global) (code : ℤ) (fields : ErrorFields) → c ≡ Some a → refusal {A = Global} (plain a) MinMax ≡ None → code ≡ pos 0 → EndsOnEnds least greatest c code fields
ends_done least greatest c a code fields some accepted is = subst (λ (h : Array). EndsOnEnds least greatest h code fields) (sym some) (inl (is, accepted))

pub ends_refused : (least greatest : ℕ) (c : Array) (a : ArrayRef Global) (error : VortexError) (code : ℤ) (fields : ErrorFields)
    → c ≡ Some a → IsEndsFault (plain a) least greatest error → code ≡ pos (number_of error) → HasFields error fields → EndsOnEnds least greatest c code fields
ends_refused least greatest c a error code fields some why is told = subst (λ (h : Array). EndsOnEnds least greatest h code fields) (sym some) (inr (error, why, (is, told)))

-- ---- Never out of memory ----

pub short_empty : (s : Session) (c : Held) (code : ℤ) → c ≡ None → IsEndNeverShortOn s c code
short_empty s c code none = subst (λ (h : Held). IsEndNeverShortOn s h code) (sym none) tt

pub done_never_short : (s : Session) (c : Held) (a : TypedColumn Global) (code : ℤ) → c ≡ Some a → code ≡ pos 0 → IsEndNeverShortOn s c code
done_never_short s c a code some zero = subst (λ (h : Held). IsEndNeverShortOn s h code) (sym some) (λ other. extremes_done_never_short s (Some a.array) a.array code refl zero)

pub refused_never_short : (s : Session) (c : Held) (a : TypedColumn Global) (outcome : Result Ends VortexError) (error : VortexError) (code : ℤ) → c ≡ Some a
    → (((f : FloatFormat) → served (typed_of a) ≢ Floats f) → ¬ HasBytes (dtype_of a.array) → IsReadInPlaceIn s min_max_kernel (column_of a.array) → outcome ≢ Err OutOfMemory)
    → outcome ≡ Err error → code ≡ pos (number_of error) → IsEndNeverShortOn s c code
refused_never_short s c a outcome error code some memory was number =
    subst (λ (h : Held). IsEndNeverShortOn s h code) (sym some) (λ other. extremes_never_short s (Some a.array) a.array outcome error code refl (memory other) was number)

-- ---- What is reported ----

pub end_told : (greatest : Bool) (c : Held) (a : TypedColumn Global) (text : List ℕ) (value : RowValue) → c ≡ Some a → IsEndOf greatest a text value → IsSomeAnd c (λ x. IsEndOf greatest x text value)
end_told greatest c a text value some is = subst (λ (h : Held). IsSomeAnd h (λ x. IsEndOf greatest x text value)) (sym some) is

-- rows that are not floats are reported as they are stored
as_stored : (s : Served) (greatest : Bool) (before : PlainColumn) (text : List ℕ) (value : RowValue) → ((f : FloatFormat) → s ≢ Floats f) → IsExtremeOf greatest before text value → IsEndBy s greatest before text value
as_stored Stored greatest before text value other is = is
as_stored (Floats f) greatest before text value other is = absurd (other f refl)
as_stored (Times t) greatest before text value other is = is

least_row : (rows : List (Option Value)) (row : Option Value) → order.IsLeast rows row → IsFurthestRow false rows row
least_row rows None is = absurd (false≢true is.value)
least_row rows (Some value) is = is

greatest_row : (rows : List (Option Value)) (row : Option Value) → order.IsGreatest rows row → IsFurthestRow true rows row
greatest_row rows None is = absurd (false≢true is.value)
greatest_row rows (Some value) is = is

pub least_told : (a : TypedColumn Global) (text : List ℕ) (outcome : Result Ends VortexError) (least greatest : ScalarForm) → ((f : FloatFormat) → served (typed_of a) ≢ Floats f) → AreExtremes (plain a.array) least greatest
    → IfOk outcome (λ ends. IsScalarTold least ends.least text) → IfOk outcome (λ ends. IsEndOf false a text ends.least)
least_told a text (Ok both) least greatest other ends told =
    let before = plain a.array in
    let is : IsExtremeOf false before text both.least = record { row = shown least; furthest = least_row before.rows (shown least) ends.least; told = subst (λ (t : DType). IsTold t (shown least) both.least text) ends.first_dtype told } in
    as_stored (served (typed_of a)) false before text both.least other is
least_told a text (Err error) least greatest other ends told = tt

pub greatest_told : (a : TypedColumn Global) (text : List ℕ) (outcome : Result Ends VortexError) (least greatest : ScalarForm) → ((f : FloatFormat) → served (typed_of a) ≢ Floats f) → AreExtremes (plain a.array) least greatest
    → IfOk outcome (λ ends. IsScalarTold greatest ends.greatest text) → IfOk outcome (λ ends. IsEndOf true a text ends.greatest)
greatest_told a text (Ok both) least greatest other ends told =
    let before = plain a.array in
    let is : IsExtremeOf true before text both.greatest = record { row = shown greatest; furthest = greatest_row before.rows (shown greatest) ends.greatest; told = subst (λ (t : DType). IsTold t (shown greatest) both.greatest text) ends.last_dtype told } in
    as_stored (served (typed_of a)) true before text both.greatest other is
greatest_told a text (Err error) least greatest other ends told = tt

-- all rows are null
pub null_told : (a : TypedColumn Global) (greatest : Bool) (text : List ℕ) (value : RowValue) → ((f : FloatFormat) → served (typed_of a) ≢ Floats f) → All (λ row. row ≡ None) (plain a.array).rows → value.kind ≡ 0 → IsEndOf greatest a text value
null_told a greatest text value other nulls kind =
    let is : IsExtremeOf greatest (plain a.array) text value = record { row = None; furthest = nulls; told = kind } in
    as_stored (served (typed_of a)) greatest (plain a.array) text value other is

-- floats
abbrev keys_of : TypedColumn Global → List (Option ℤ)
keys_of a = map number_in (plain a.array).rows

as_floats : (a : TypedColumn Global) (greatest : Bool) (f : FloatFormat) (text : List ℕ) (value : RowValue) → served (typed_of a) ≡ Floats f → IsFloatEnd greatest f (keys_of a) value → IsEndOf greatest a text value
as_floats a greatest f text value is end = subst (λ (s : Served). IsEndBy s greatest (plain a.array) text value) (sym is) end

pub no_number_told : (a : TypedColumn Global) (greatest : Bool) (f : FloatFormat) (text : List ℕ) (value : RowValue) → served (typed_of a) ≡ Floats f → NoneCounts (λ bits. ¬ IsNan f bits) f (map number_in (plain a.array).rows) → value.kind ≡ 0 → IsEndOf greatest a text value
no_number_told a greatest f text value is none kind = as_floats a greatest f text value is (record { float = None; last = none; told = kind })

pub least_number_told : (a : TypedColumn Global) (f : FloatFormat) (least greatest : ℕ) (text : List ℕ) (value : RowValue) → served (typed_of a) ≡ Floats f
    → AreFloatExtremes (λ bits. ¬ IsNan f bits) f (map number_in (plain a.array).rows) least greatest → IsDoubleTold f least value → IsEndOf false a text value
least_number_told a f least greatest text value is ends told =
    as_floats a false f text value is (record { float = Some least; last = (ends.least_is, λ other counted. (ends.bounds other counted).0); told = told })

pub greatest_number_told : (a : TypedColumn Global) (f : FloatFormat) (least greatest : ℕ) (text : List ℕ) (value : RowValue) → served (typed_of a) ≡ Floats f
    → AreFloatExtremes (λ bits. ¬ IsNan f bits) f (map number_in (plain a.array).rows) least greatest → IsDoubleTold f greatest value → IsEndOf true a text value
greatest_number_told a f least greatest text value is ends told =
    as_floats a true f text value is (record { float = Some greatest; last = (ends.greatest_is, λ other counted. (ends.bounds other counted).1); told = told })

-- ---- Why nothing is reported ----

short_ends : (before : PlainColumn) (least_room greatest_room : ℕ) (error : VortexError) (first last : ScalarForm) → refusal {A = Global} before MinMax ≡ None → AreExtremes before first last
    → IsRoomFault (shown first) least_room error ⊎ (IsRoomThere (shown first) least_room × IsRoomFault (shown last) greatest_room error) → IsEndsFault before least_room greatest_room error
short_ends before least_room greatest_room error first last accepted ends (inl short) =
    inl (inr (accepted, record { value = shown first; furthest = least_row before.rows (shown first) ends.least; short = short }))
short_ends before least_room greatest_room error first last accepted ends (inr short) =
    let least : HasRoomFor false before.rows least_room = record { value = shown first; furthest = least_row before.rows (shown first) ends.least; fits = short.0 } in
    let greatest : HasNoRoomFor true before.rows greatest_room error = record { value = shown last; furthest = greatest_row before.rows (shown last) ends.greatest; short = short.1 } in
    inr (accepted, record { least = least; greatest = greatest })

pub both_short : (before : PlainColumn) (least_room greatest_room : ℕ) (outcome : Result Ends VortexError) (first last : ScalarForm) → refusal {A = Global} before MinMax ≡ None → AreExtremes before first last
    → IfErr outcome (λ error. IsRoomFault (shown first) least_room error ⊎ (IsRoomThere (shown first) least_room × IsRoomFault (shown last) greatest_room error)) → IfErr outcome (λ error. IsEndsFault before least_room greatest_room error)
both_short before least_room greatest_room (Ok both) first last accepted ends short = tt
both_short before least_room greatest_room (Err error) first last accepted ends short = short_ends before least_room greatest_room error first last accepted ends short

pub both_refused : (before : PlainColumn) (least_room greatest_room : ℕ) (error : VortexError) → IsErrorFor (refusal {A = Global} before MinMax) error → IsEndsFault before least_room greatest_room error
both_refused before least_room greatest_room error why = inl (inl why)

pub both_accepted : (before : PlainColumn) (outcome : Result Ends VortexError) → refusal {A = Global} before MinMax ≡ None → IfOk outcome (λ _. refusal {A = Global} before MinMax ≡ None)
both_accepted before (Ok both) accepted = accepted
both_accepted before (Err error) accepted = tt
