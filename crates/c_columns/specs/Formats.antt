-- Which formats columns have that calls make, and how calls end that read or set a format.
use Rattle.std.specs.Prelude.{◌≡◌, ◌⊎◌, ℕ, ℤ, pos, Bool, true, false, cond, List, [], length, nat_lt, take, Option, Some, None, Result, Ok, Err}
use Rattle.std.specs.Global.{Global}
use Rattle.std.specs.Str.{IsUtf8}
use Rattle.column_base.specs.declared.error.VortexError.{VortexError}
use Rattle.column_base.specs.declared.error.VortexError.TheVariants.{ColumnLength, OutOfMemory, TypeMismatch}
use Rattle.runend_commands.specs.declared.command.Command.{Command}
use Rattle.runend_commands.specs.declared.command.Command.TheVariants.{Cast, CompareColumn, CompareScalar, TakeFrom}
use Rattle.runend_array.specs.declared.array_ref.ArrayRef.{ArrayRef}
use Rattle.typed_columns.specs.Typed.{format_of}
use Rattle.typed_columns.specs.declared.typed_column.TypedColumn.{TypedColumn}
use Rattle.c_columns.specs.Ending.{IsRefusedAs}
use Rattle.c_columns.specs.ReadFaults.{EndsOnlyBy}
use Rattle.c_columns.specs.declared.error_fields.ErrorFields.{ErrorFields}

-- do the rows that a command leaves mean what the rows before it did? Truths, casts and rows of a dictionary do not
abbrev pub keeps_meaning : Command Global → Bool
keeps_meaning (TakeFrom dictionary) = false
keeps_meaning (CompareScalar operator value) = false
keeps_meaning (CompareColumn operator right) = false
keeps_meaning (Cast dtype) = false
keeps_meaning command = true

-- the format of what a command leaves of a column of this format
abbrev pub format_after : Command Global → List ℕ → List ℕ
format_after command format = cond (keeps_meaning command) format []

-- the format of what a command leaves, if the command could be built
abbrev pub format_given : Result (Command Global) VortexError → List ℕ → List ℕ
format_given (Ok command) format = format_after command format
format_given (Err error) format = []

-- the bytes cannot be a format: they are not UTF-8
pub record IsNoFormat (format : List ℕ) (error : VortexError) : Type 0 where
  pub told : error ≡ TypeMismatch
  pub other : ¬ IsUtf8 format

-- memory was refused: the bytes are a format
pub record IsShortOfType (format : List ℕ) (error : VortexError) : Type 0 where
  pub told : error ≡ OutOfMemory
  pub text : IsUtf8 format

-- why no column is made under these bytes
abbrev pub TypingFault : List ℕ → VortexError → Type 0
TypingFault format error = IsNoFormat format error ⊎ IsShortOfType format error

-- how a call ends that sets a format: with 0 only where it is one, with 22 where the handle is empty
abbrev pub EndsOnTyping : List ℕ → Option (ArrayRef Global) → ℤ → ErrorFields → Type 0
EndsOnTyping format None code fields = code ≡ pos 22
EndsOnTyping format (Some c) code fields =
    ((code ≡ pos 0) × IsUtf8 format) ⊎ ((error : VortexError) × TypingFault format error × IsRefusedAs error code fields)

-- the format is at the front of the buffer, and has this size
pub record IsFormatAtFront (format : List ℕ) (size : ℕ) (bytes : List ℕ) : Type 0 where
  pub size_is : size ≡ length format
  pub front : take size bytes ≡ format

-- the format has no room, reported with its number of bytes and the room
abbrev pub format_fault : List ℕ → ℕ → Option VortexError
format_fault format room = cond (nat_lt room (length format)) (Some (ColumnLength (length format) room)) None

-- how a call ends that reads the format: with 22 where the handle is empty
abbrev pub EndsOnFormat : ℕ → Option (TypedColumn Global) → ℤ → ErrorFields → Type 0
EndsOnFormat room None code fields = code ≡ pos 22
EndsOnFormat room (Some column) code fields = EndsOnlyBy (format_fault (format_of column) room) code fields
