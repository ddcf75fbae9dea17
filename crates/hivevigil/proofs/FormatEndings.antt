-- How the calls on formats end, and which formats commands leave that are made of a scalar.
use Rattle.std.proofs.Common.{◌≡◌, ◌≢◌, ◌∙◌, ap, inl, inr, refl, sym, subst, pos, ℤ, ℕ, List, []}
use Rattle.std.specs.Prelude.{Option, Some, None, Result, Ok, Err, IfErr, IfOk}
use Rattle.std.specs.Global.{Global}
use Rattle.std.specs.Str.{IsUtf8}
use Rattle.column_base.specs.declared.error.VortexError.{VortexError}
use Rattle.column_base.specs.Error.{number_of}
use Rattle.column_ops.specs.declared.operator.CompareOperator.{CompareOperator}
use Rattle.runend_array.specs.declared.array_ref.ArrayRef.{ArrayRef}
use Rattle.runend_commands.specs.declared.command.Command.{Command}
use Rattle.typed_columns.specs.Typed.{format_of}
use Rattle.typed_columns.specs.declared.typed_column.TypedColumn.{TypedColumn}
use Rattle.c_columns.specs.Calls.{IsPassedBuilt, compare_with_passed, fill_with_passed}
use Rattle.c_columns.specs.Ending.{HasFields, LeavesGiven, WhereBoth}
use Rattle.c_columns.specs.Formats.{EndsOnFormat, EndsOnTyping, IsFormatAtFront, TypingFault, format_after, format_fault, format_given}
use Rattle.c_columns.specs.Handle.{format_in}
use Rattle.c_columns.specs.ReadFaults.{EndsOnlyBy, IsRefusedOnlyBy}
use Rattle.c_columns.specs.declared.error_fields.ErrorFields.{ErrorFields}
use Rattle.c_columns.specs.declared.row_value.RowValue.{RowValue}
use Rattle.c_columns.specs.declared.sessions.Session.{Session}

abbrev Held : Type 0
Held = Option (TypedColumn Global)

abbrev Rows : Type 0
Rows = Option (ArrayRef Global)

-- the call that sets a format
pub typing_empty : (format : List ℕ) (c : Rows) (code : ℤ) (fields : ErrorFields) → c ≡ None → code ≡ pos 22 → EndsOnTyping format c code fields
typing_empty format c code fields none is = subst (λ (h : Rows). EndsOnTyping format h code fields) (sym none) is

pub typing_done : (format : List ℕ) (c : Rows) (a : ArrayRef Global) (code : ℤ) (fields : ErrorFields) → c ≡ Some a → IsUtf8 format → code ≡ pos 0 → EndsOnTyping format c code fields
typing_done format c a code fields some text is = subst (λ (h : Rows). EndsOnTyping format h code fields) (sym some) (inl (is, text))

pub typing_refused : (format : List ℕ) (c : Rows) (a : ArrayRef Global) (error : VortexError) (code : ℤ) (fields : ErrorFields)
    → c ≡ Some a → TypingFault format error → code ≡ pos (number_of error) → HasFields error fields → EndsOnTyping format c code fields
typing_refused format c a error code fields some why is told = subst (λ (h : Rows). EndsOnTyping format h code fields) (sym some) (inr (error, why, (is, told)))

-- the handle is empty
pub format_empty : (room : ℕ) (c : Held) (code : ℤ) (fields : ErrorFields) → c ≡ None → code ≡ pos 22 → EndsOnFormat room c code fields
format_empty room c code fields none is = subst (λ (h : Held). EndsOnFormat room h code fields) (sym none) is

only_ends : (fault : Option VortexError) (outcome : Result ℕ VortexError) (written : ℕ) (code : ℤ) (fields : ErrorFields) → IsRefusedOnlyBy fault outcome → IfOk outcome (λ found. (code ≡ pos 0) × (written ≡ found))
    → IfErr outcome (λ error. (code ≡ pos (number_of error)) × (code ≢ pos 0) × HasFields error fields) → EndsOnlyBy fault code fields
only_ends fault (Ok found) written code fields refused ok err = subst (λ (f : Option VortexError). EndsOnlyBy f code fields) (sym refused) ok.0
only_ends fault (Err why) written code fields refused ok err = subst (λ (f : Option VortexError). EndsOnlyBy f code fields) (sym refused) (err.0, err.2)

-- the call that reads a format ends so
pub format_ends : (room : ℕ) (c : Held) (a : TypedColumn Global) (outcome : Result ℕ VortexError) (written : ℕ) (code : ℤ) (fields : ErrorFields) → c ≡ Some a → IsRefusedOnlyBy (format_fault (format_of a) room) outcome
    → IfOk outcome (λ found. (code ≡ pos 0) × (written ≡ found)) → IfErr outcome (λ error. (code ≡ pos (number_of error)) × (code ≢ pos 0) × HasFields error fields) → EndsOnFormat room c code fields
format_ends room c a outcome written code fields some refused ok err =
    subst (λ (h : Held). EndsOnFormat room h code fields) (sym some) (only_ends (format_fault (format_of a) room) outcome written code fields refused ok err)

-- and writes this
pub format_written : (c : Held) (a : TypedColumn Global) (outcome : Result ℕ VortexError) (written : ℕ) (bytes : List ℕ) (code : ℤ) (fields : ErrorFields) → c ≡ Some a
    → IfOk outcome (λ size. IsFormatAtFront (format_of a) size bytes) → IfOk outcome (λ found. (code ≡ pos 0) × (written ≡ found))
    → IfErr outcome (λ error. (code ≡ pos (number_of error)) × (code ≢ pos 0) × HasFields error fields) → code ≡ pos 0 → IsFormatAtFront (format_in c) written bytes
format_written c a (Ok size) written bytes code fields some put ok err zero =
    subst (λ (h : Held). IsFormatAtFront (format_in h) written bytes) (sym some) (subst (λ (n : ℕ). IsFormatAtFront (format_of a) n bytes) (sym ok.1) put)
format_written c a (Err why) written bytes code fields some put ok err zero = absurd (err.1 zero)

-- a filling keeps the format
pub format_filled : (s : Session) (Given : Type 0) (value : RowValue) (text : List ℕ) (given : Result (Command Global) VortexError) (a : ArrayRef Global) (c d : Option (ArrayRef Global)) (format : List ℕ)
    → IsPassedBuilt Given (fill_with_passed value text a) given → WhereBoth (LeavesGiven s given) c d → format_given given format ≡ format
format_filled s Given value text (Ok n) a c d format built left = ap (λ (m : Command Global). format_after m format) built.0
format_filled s Given value text (Err why) a (Some x) (Some y) format built left = absurd left
format_filled s Given value text (Err why) a (Some x) None format built left = absurd left
format_filled s Given value text (Err why) a None d format built left = absurd left

-- and a comparison has none
pub format_compared : (Given : Type 0) (operator : CompareOperator) (value : RowValue) (text : List ℕ) (given : Result (Command Global) VortexError) (a : ArrayRef Global) (format : List ℕ)
    → IsPassedBuilt Given (compare_with_passed operator value text a) given → format_given given format ≡ []
format_compared Given operator value text (Ok n) a format built = ap (λ (m : Command Global). format_after m format) built.0
format_compared Given operator value text (Err why) a format built = refl
