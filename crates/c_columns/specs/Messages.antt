-- The message of a column and its format: where it goes, why it is not written, and why bytes are none.
use Rattle.std.specs.Prelude.{◌≡◌, ◌^◌, ◌<◌, ◌≤◌, ◌⊎◌, ℕ, ℤ, pos, List, length, take, Option, Some, None}
use Rattle.std.specs.Global.{Global}
use Rattle.std.specs.Str.{IsUtf8}
use Rattle.column_base.specs.declared.error.VortexError.{VortexError}
use Rattle.column_base.specs.declared.error.VortexError.TheVariants.{BadMetadata, ColumnLength, OutOfMemory, Unsupported}
use Rattle.column_bytes.specs.Bytes.{column_bytes}
use Rattle.column_bytes.specs.Read.{IsWritable}
use Rattle.column_bytes.specs.Typed.{IsNoTypedMessage, IsTypedMessage, typed_bytes}
use Rattle.runend_array.specs.Array.{column_of}
use Rattle.runend_array.specs.Column.{Column, depth}
use Rattle.typed_columns.specs.Typed.{TypedForm, format_of, typed_of}
use Rattle.typed_columns.specs.declared.typed_column.TypedColumn.{TypedColumn}
use Rattle.c_columns.specs.Ending.{IsRefusedAs}
use Rattle.c_columns.specs.declared.error_fields.ErrorFields.{ErrorFields}

-- the message of a column and its format; without a format that of the rows only
abbrev pub message_of : TypedForm → List ℕ
message_of c = typed_bytes c.format (column_bytes c.column)

-- the column has a message of this size
pub record HasMessage (c : TypedForm) (size : ℕ) : Type 0 where
  pub text : IsUtf8 c.format
  pub writable : IsWritable 16 c.column
  pub size_is : size ≡ length (message_of c)

-- the message is at the front of the buffer, and has this size
pub record IsMessageAtFront (c : TypedForm) (size : ℕ) (bytes : List ℕ) : Type 0 where
  pub has : HasMessage c size
  pub front : take size bytes ≡ message_of c

-- the column has no message: there are too many levels of runs
pub record IsUnwritable (c : TypedForm) (error : VortexError) : Type 0 where
  pub told : error ≡ Unsupported
  pub deep : 16 < depth c.column
  pub none : ¬ IsWritable 16 c.column

-- no count of 64 bits says how many bytes the message has
pub record IsUncounted (c : TypedForm) (error : VortexError) : Type 0 where
  pub told : error ≡ OutOfMemory
  pub shallow : depth c.column ≤ 16
  pub past : 2 ^ 64 ≤ length (message_of c)

-- the message has no room, reported with its number of bytes and the room
pub record HasNoMessageRoom (c : TypedForm) (room : ℕ) (error : VortexError) : Type 0 where
  pub writable : IsWritable 16 c.column
  pub told : error ≡ ColumnLength (length (message_of c)) room
  pub counted : length (message_of c) < 2 ^ 64
  pub short : room < length (message_of c)

-- why a call does not say how many bytes the message has
abbrev pub SizeFault : TypedForm → VortexError → Type 0
SizeFault c error = IsUnwritable c error ⊎ IsUncounted c error

-- why no message is written
abbrev pub MessageFault : ℕ → TypedForm → VortexError → Type 0
MessageFault room c error = SizeFault c error ⊎ HasNoMessageRoom c room error

-- how a call ends that has no faults but these: with 0 exactly where it has none
abbrev pub EndsExactly : (VortexError → Type 0) → ℤ → ErrorFields → Type 0
EndsExactly Fault code fields =
    ((code ≡ pos 0) × ((error : VortexError) → ¬ Fault error)) ⊎ ((error : VortexError) × Fault error × IsRefusedAs error code fields)

-- how a call ends that says how many bytes the message has: with 22 where the handle is empty
abbrev pub EndsOnSize : Option (TypedColumn Global) → ℤ → ErrorFields → Type 0
EndsOnSize None code fields = code ≡ pos 22
EndsOnSize (Some c) code fields = EndsExactly (SizeFault (typed_of c)) code fields

-- how a call ends that writes it: memory is never refused where the message has room
abbrev pub EndsOnWrite : ℕ → Option (TypedColumn Global) → ℤ → ErrorFields → Type 0
EndsOnWrite room None code fields = code ≡ pos 22
EndsOnWrite room (Some c) code fields = EndsExactly (MessageFault room (typed_of c)) code fields

-- the bytes are the message of some column, with or without a format
abbrev pub AreMessage : List ℕ → Type 0
AreMessage bytes = (format : List ℕ) × (c : Column) × IsTypedMessage 16 bytes format c

-- the bytes are the message of no column
pub record IsUnreadable (bytes : List ℕ) (error : VortexError) : Type 0 where
  pub told : error ≡ BadMetadata
  pub none : IsNoTypedMessage 16 bytes

-- memory was refused: the bytes are a message
pub record IsShortOfRead (bytes : List ℕ) (error : VortexError) : Type 0 where
  pub told : error ≡ OutOfMemory
  pub message : AreMessage bytes

abbrev pub ReadFault : List ℕ → VortexError → Type 0
ReadFault bytes error = IsUnreadable bytes error ⊎ IsShortOfRead bytes error

-- how a call ends that reads it: with 0 only where the bytes are a message
abbrev pub EndsOnReading : List ℕ → ℤ → ErrorFields → Type 0
EndsOnReading bytes code fields =
    ((code ≡ pos 0) × ((error : VortexError) → ¬ IsUnreadable bytes error)) ⊎ ((error : VortexError) × ReadFault bytes error × IsRefusedAs error code fields)

-- the column is that of the message, under the format that the message has
abbrev pub IsColumnOfMessage : List ℕ → TypedColumn Global → Type 0
IsColumnOfMessage bytes c = IsTypedMessage 16 bytes (format_of c) (column_of c.array)
