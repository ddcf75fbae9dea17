-- Refusals for memory: where one is passed on, and where there can be none.
use Rattle.std.proofs.Common.{◌≡◌, ◌≢◌, ◌∙◌, ◌⊎◌, inl, inr, length, refl, sym, ap, subst, pos, ℤ, ℕ, Ok, Err}
use Rattle.std.specs.Prelude.{Option, Some, None, Result, IfErr, IfOk, IsErrAnd, nat_abs, nat_eq, true}
use Rattle.std.proofs.lemmas.Bool.{false≢true}
use Rattle.std.specs.Global.{Global}
use Rattle.column_base.specs.declared.error.VortexError.{VortexError}
use Rattle.column_base.specs.declared.error.VortexError.TheVariants.{EndsNotUnsigned, LengthsDiffer, NoRunsWindow, EndsNotStrict, WindowOverflow, FirstEndBelowOffset, LastEndBelowWindow, OutOfBounds, BadRange, MaskLength, ColumnLength, TypeMismatch, Unsupported, CastOutOfRange, NullNotAllowed, NullFill, BadMetadata, EndsTypeNumber, RunCount, OnlyPrimitive, OutOfMemory}
use Rattle.column_base.specs.Error.{number_of}
use Rattle.column_core.specs.Value.{Value, Single, Items, Number, DecimalNumber, Truth, Text, Bytes}
use Rattle.runend_array.specs.Array.{column_of, dtype_of}
use Rattle.runend_array.specs.declared.array_ref.ArrayRef.{ArrayRef}
use Rattle.runend_array.specs.declared.session.Kernel.{Kernel}
use Rattle.runend_array.specs.declared.session.Kernel.TheVariants.{MinMax}
use Rattle.runend_commands.specs.Extremes.{HasBytes}
use Rattle.c_columns.specs.Ending.{HasFields}
use Rattle.c_columns.specs.InPlace.{IsExtremeNeverShortOn, IsNeverShortOn}
use Rattle.c_columns.specs.Sessions.{IsReadInPlaceIn}
use Rattle.c_columns.specs.Values.{IsRoomFault, IsRoomThere}
use Rattle.c_columns.specs.declared.error_fields.ErrorFields.{ErrorFields}
use Rattle.c_columns.specs.declared.sessions.Session.{Session}

abbrev Held : Type 0
Held = Option (ArrayRef Global)

-- an error that is passed on for memory was that
pub passed_short : {T : Type 0} (error : VortexError) (result : Result T VortexError) → IsErrAnd result (λ e. e ≡ error) → result ≡ Err OutOfMemory → error ≡ OutOfMemory
passed_short error (Ok value) passed short = absurd passed
passed_short error (Err other) passed short = let same : other ≡ OutOfMemory = cc in sym passed ∙ same

-- no other error has the number of `OutOfMemory`: a test of numbers distinguishes each
only_short : (error : VortexError) → nat_eq (number_of error) 21 ≡ true → error ≡ OutOfMemory
only_short EndsNotUnsigned is = absurd (false≢true is)
only_short (LengthsDiffer a b) is = absurd (false≢true is)
only_short (NoRunsWindow a b) is = absurd (false≢true is)
only_short (EndsNotStrict a) is = absurd (false≢true is)
only_short WindowOverflow is = absurd (false≢true is)
only_short (FirstEndBelowOffset a b) is = absurd (false≢true is)
only_short (LastEndBelowWindow a b) is = absurd (false≢true is)
only_short (OutOfBounds a b) is = absurd (false≢true is)
only_short (BadRange a b c) is = absurd (false≢true is)
only_short (MaskLength a b) is = absurd (false≢true is)
only_short (ColumnLength a b) is = absurd (false≢true is)
only_short TypeMismatch is = absurd (false≢true is)
only_short Unsupported is = absurd (false≢true is)
only_short CastOutOfRange is = absurd (false≢true is)
only_short NullNotAllowed is = absurd (false≢true is)
only_short NullFill is = absurd (false≢true is)
only_short BadMetadata is = absurd (false≢true is)
only_short (EndsTypeNumber a) is = absurd (false≢true is)
only_short (RunCount a b) is = absurd (false≢true is)
only_short OnlyPrimitive is = absurd (false≢true is)
only_short OutOfMemory is = refl

pub refused_short : (error : VortexError) (code : ℤ) → code ≡ pos (number_of error) → code ≡ pos (number_of OutOfMemory) → error ≡ OutOfMemory
refused_short error code number short = only_short error (ap (λ (z : ℤ). nat_eq (nat_abs z) 21) (sym number ∙ short))

pub done_not_short : (code : ℤ) → code ≡ pos 0 → code ≢ pos (number_of OutOfMemory)
done_not_short code zero = λ short. absurd (false≢true (ap (λ (z : ℤ). nat_eq (nat_abs z) 21) (sym zero ∙ short)))

-- so a call that did not run out of memory does not answer it
not_short : {T : Type 0} (outcome : Result T VortexError) (code : ℤ) (written : T) (fields : ErrorFields) → outcome ≢ Err OutOfMemory
    → IfOk outcome (λ found. (code ≡ pos 0) × (written ≡ found)) → IfErr outcome (λ error. (code ≡ pos (number_of error)) × (code ≢ pos 0) × HasFields error fields) → code ≢ pos (number_of OutOfMemory)
not_short (Ok found) code written fields long ok err = done_not_short code ok.0
not_short (Err error) code written fields long ok err = λ short. long (ap (λ (e : VortexError). Err e) (refused_short error code err.0 short))

-- a question on the column of a handle
pub short_empty : (s : Session) (kernel : Kernel) (c : Held) (code : ℤ) → c ≡ None → IsNeverShortOn s kernel c code
short_empty s kernel c code none = subst (λ (h : Held). IsNeverShortOn s kernel h code) (sym none) tt

pub never_short : {T : Type 0} (s : Session) (kernel : Kernel) (c : Held) (a : ArrayRef Global) (outcome : Result T VortexError) (code : ℤ) (written : T) (fields : ErrorFields)
    → c ≡ Some a → (IsReadInPlaceIn s kernel (column_of a) → outcome ≢ Err OutOfMemory)
    → IfOk outcome (λ found. (code ≡ pos 0) × (written ≡ found)) → IfErr outcome (λ error. (code ≡ pos (number_of error)) × (code ≢ pos 0) × HasFields error fields) → IsNeverShortOn s kernel c code
never_short s kernel c a outcome code written fields some memory ok err =
    subst (λ (h : Held). IsNeverShortOn s kernel h code) (sym some) (λ read. not_short outcome code written fields (memory read) ok err)

-- that of the least or the greatest row
pub extreme_short_empty : (s : Session) (c : Held) (code : ℤ) → c ≡ None → IsExtremeNeverShortOn s c code
extreme_short_empty s c code none = subst (λ (h : Held). IsExtremeNeverShortOn s h code) (sym none) tt

pub extreme_never_short : {T : Type 0} (s : Session) (c : Held) (a : ArrayRef Global) (outcome : Result T VortexError) (code : ℤ) (written : T) (fields : ErrorFields)
    → c ≡ Some a → (¬ HasBytes (dtype_of a) → IsReadInPlaceIn s MinMax (column_of a) → outcome ≢ Err OutOfMemory)
    → IfOk outcome (λ found. (code ≡ pos 0) × (written ≡ found)) → IfErr outcome (λ error. (code ≡ pos (number_of error)) × (code ≢ pos 0) × HasFields error fields) → IsExtremeNeverShortOn s c code
extreme_never_short s c a outcome code written fields some memory ok err =
    subst (λ (h : Held). IsExtremeNeverShortOn s h code) (sym some) (λ plain read. not_short outcome code written fields (memory plain read) ok err)

pub extremes_done_never_short : (s : Session) (c : Held) (a : ArrayRef Global) (code : ℤ) → c ≡ Some a → code ≡ pos 0 → IsExtremeNeverShortOn s c code
extremes_done_never_short s c a code some zero = subst (λ (h : Held). IsExtremeNeverShortOn s h code) (sym some) (λ plain read. done_not_short code zero)

pub extremes_never_short : {T : Type 0} (s : Session) (c : Held) (a : ArrayRef Global) (outcome : Result T VortexError) (error : VortexError) (code : ℤ) → c ≡ Some a
    → (¬ HasBytes (dtype_of a) → IsReadInPlaceIn s MinMax (column_of a) → outcome ≢ Err OutOfMemory) → outcome ≡ Err error → code ≡ pos (number_of error) → IsExtremeNeverShortOn s c code
extremes_never_short s c a outcome error code some memory was number =
    subst (λ (h : Held). IsExtremeNeverShortOn s h code) (sym some) (λ plain read short. memory plain read (was ∙ ap (λ (e : VortexError). Err e) (refused_short error code number short)))

-- a row that has no room is not refused for memory
room_not_short : (value : Option Value) (room : ℕ) (error : VortexError) → IsRoomFault value room error → error ≢ OutOfMemory
room_not_short None room error fault = absurd fault
room_not_short (Some (Single (Number number))) room error fault = absurd fault
room_not_short (Some (Single (Truth truth))) room error fault = absurd fault
room_not_short (Some (Single (DecimalNumber number))) room error fault = absurd fault
room_not_short (Some (Single (Text bytes))) room error fault = λ short. absurd (let clash : ColumnLength (length bytes) room ≡ OutOfMemory = sym fault.0 ∙ short in cc)
room_not_short (Some (Single (Bytes bytes))) room error fault = λ short. absurd (let clash : ColumnLength (length bytes) room ≡ OutOfMemory = sym fault.0 ∙ short in cc)
room_not_short (Some (Items items)) room error fault = λ short. absurd (let clash : Unsupported ≡ OutOfMemory = sym fault ∙ short in cc)

pub row_not_short : {T : Type 0} (value : Option Value) (room : ℕ) (outcome : Result T VortexError) → IfErr outcome (λ error. IsRoomFault value room error) → outcome ≢ Err OutOfMemory
row_not_short value room (Ok found) fault = λ short. absurd (cc)
row_not_short value room (Err error) fault = λ short. room_not_short value room error fault (cc)

pub rows_not_short : {T : Type 0} (first last : Option Value) (first_room last_room : ℕ) (outcome : Result T VortexError)
    → IfErr outcome (λ error. IsRoomFault first first_room error ⊎ (IsRoomThere first first_room × IsRoomFault last last_room error)) → outcome ≢ Err OutOfMemory
rows_not_short first last first_room last_room (Ok found) fault = λ short. absurd (cc)
rows_not_short first last first_room last_room (Err error) (inl fault) = λ short. room_not_short first first_room error fault (cc)
rows_not_short first last first_room last_room (Err error) (inr fault) = λ short. room_not_short last last_room error fault.1 (cc)
