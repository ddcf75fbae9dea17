-- How calls end that say how many bytes a message has, write it or read it.
use Rattle.std.proofs.Common.{◌≡◌, ◌⊎◌, ℕ, ℤ, ◌-◌, ◌^◌, ◌<◌, ◌≤◌, pos, Bool, true, false, List, length, ap, sym, subst, arith, inl, inr}
use Rattle.std.specs.Prelude.{IfOk, Ok, Err, Option, Some, None, Result, min}
use Rattle.std.specs.Bool.{OnTrue, OnFalse}
use Rattle.std.specs.Global.{Global}
use Rattle.std.proofs.lemmas.Bool.{cases_lt}
use Rattle.std.proofs.lemmas.Str.{IsUtf8-had}
use Rattle.column_base.specs.Error.{number_of}
use Rattle.column_base.specs.declared.error.VortexError.{VortexError}
use Rattle.column_base.specs.declared.error.VortexError.TheVariants.{BadMetadata, ColumnLength, OutOfMemory, Unsupported}
use Rattle.column_bytes.specs.Bytes.{column_bytes}
use Rattle.column_bytes.specs.Read.{IsUnsupportedOrMemory, IsWritable}
use Rattle.column_bytes.specs.Typed.{IsNoTypedMessage, IsTypedMessage, typed_bytes}
use Rattle.runend_array.specs.Array.{column_of}
use Rattle.runend_array.specs.Column.{Column, depth}
use Rattle.runend_array.specs.declared.array_ref.ArrayRef.{ArrayRef}
use Rattle.typed_columns.specs.Typed.{TypedForm, format_of, typed_of}
use Rattle.typed_columns.specs.declared.typed_column.TypedColumn.{TypedColumn}
use Rattle.c_columns.specs.Ending.{HasFields}
use Rattle.c_columns.specs.Flags.{Tells, byte_of}
use Rattle.c_columns.specs.Messages.{AreMessage, EndsOnReading, EndsOnSize, EndsOnWrite, HasMessage, HasNoMessageRoom, IsColumnOfMessage, IsUnreadable, MessageFault, ReadFault, SizeFault, message_of}
use Rattle.c_columns.specs.declared.error_fields.ErrorFields.{ErrorFields}

abbrev Held : Type 0
Held = Option (TypedColumn Global)

-- ---- how many bytes

-- the bytes under a name are those of the column under that format
module _ (c : TypedForm) (name : List ℕ) (same : name ≡ c.format) where
  pub same_message : typed_bytes name (column_bytes c.column) ≡ message_of c
  same_message = ap (λ (format : List ℕ). typed_bytes format (column_bytes c.column)) same

  same_length : length (typed_bytes name (column_bytes c.column)) ≡ length (message_of c)
  same_length = ap length same_message

  pub size_refused : (error : VortexError) → IsUnsupportedOrMemory error → (error ≡ Unsupported → 16 < depth c.column) → (error ≡ Unsupported → ¬ IsWritable 16 c.column)
      → (16 < depth c.column → error ≡ Unsupported) → (error ≡ OutOfMemory → 2 ^ 64 ≤ length (typed_bytes name (column_bytes c.column))) → SizeFault c error
  size_refused error (inl refused) deep none exact past = inl (record { told = refused; deep = deep refused; none = none refused })
  size_refused error (inr short) deep none exact past = elim (cases_lt 16 (depth c.column)) [
    | inl more ↦ inl (record { told = exact more; deep = more; none = none (exact more) })
    | inr few ↦ inr (record { told = short; shallow = few; past = omega (arith, past short, same_length) })
  ]

  -- no writer is refused where the message has room
  pub never_cut : (room size : ℕ) (error : VortexError) → size < 2 ^ 64 → HasMessage c size → size ≤ room → IsUnsupportedOrMemory error → (error ≡ Unsupported → ¬ IsWritable 16 c.column)
      → (error ≡ OutOfMemory → min room (2 ^ 64 - 1) < length (typed_bytes name (column_bytes c.column))) → ⊥
  never_cut room size error small has fits (inl deep) refused lacks = refused deep has.writable
  never_cut room size error small has fits (inr memory) refused lacks =
      (let less : min room (2 ^ 64 - 1) < length (typed_bytes name (column_bytes c.column)) = lacks memory in absurd (omega (arith, small, fits, less, has.size_is, same_length)))

-- a column's message has this size
pub size_told : (c : TypedColumn Global) (name : List ℕ) (size : ℕ) → name ≡ format_of c → IsWritable 16 (column_of c.array) → size ≡ length (typed_bytes name (column_bytes (column_of c.array))) → HasMessage (typed_of c) size
size_told c name size same writable is = record { text = IsUtf8-had _ c.format.ok; writable = writable; size_is = omega (arith, is, same_length (typed_of c) name same) }

pub size_served : (c : TypedForm) (size : ℕ) → size < 2 ^ 64 → HasMessage c size → (error : VortexError) → ¬ SizeFault c error
size_served c size small has error (inl deep) = deep.none has.writable
size_served c size small has error (inr past) = absurd (omega (arith, past.past, small, has.size_is))

pub size_empty : (c : Held) (code : ℤ) (fields : ErrorFields) → c ≡ None → code ≡ pos 22 → EndsOnSize c code fields
size_empty c code fields none is = subst (λ (h : Held). EndsOnSize h code fields) (sym none) is

pub size_done : (c : Held) (a : TypedColumn Global) (code : ℤ) (fields : ErrorFields) → c ≡ Some a → ((error : VortexError) → ¬ SizeFault (typed_of a) error) → code ≡ pos 0 → EndsOnSize c code fields
size_done c a code fields some none is = subst (λ (h : Held). EndsOnSize h code fields) (sym some) (inl (is, none))

pub size_ended : (c : Held) (a : TypedColumn Global) (error : VortexError) (code : ℤ) (fields : ErrorFields)
    → c ≡ Some a → SizeFault (typed_of a) error → code ≡ pos (number_of error) → HasFields error fields → EndsOnSize c code fields
size_ended c a error code fields some why is told = subst (λ (h : Held). EndsOnSize h code fields) (sym some) (inr (error, why, (is, told)))

-- ---- written

pub put_served : (c : TypedForm) (room size : ℕ) → size < 2 ^ 64 → HasMessage c size → size ≤ room → (error : VortexError) → ¬ MessageFault room c error
put_served c room size small has fits error (inl fault) = size_served c size small has error fault
put_served c room size small has fits error (inr short) = absurd (omega (arith, short.short, fits, has.size_is))

pub no_room : (c : TypedForm) (room size : ℕ) → size < 2 ^ 64 → HasMessage c size → room < size → HasNoMessageRoom c room (ColumnLength size room)
no_room c room size small has short =
    record { writable = has.writable; told = ap (λ (n : ℕ). ColumnLength n room) has.size_is; counted = omega (arith, small, has.size_is); short = omega (arith, short, has.size_is) }

pub write_empty : (room : ℕ) (c : Held) (code : ℤ) (fields : ErrorFields) → c ≡ None → code ≡ pos 22 → EndsOnWrite room c code fields
write_empty room c code fields none is = subst (λ (h : Held). EndsOnWrite room h code fields) (sym none) is

pub write_done : (room : ℕ) (c : Held) (a : TypedColumn Global) (code : ℤ) (fields : ErrorFields) → c ≡ Some a → ((error : VortexError) → ¬ MessageFault room (typed_of a) error) → code ≡ pos 0 → EndsOnWrite room c code fields
write_done room c a code fields some none is = subst (λ (h : Held). EndsOnWrite room h code fields) (sym some) (inl (is, none))

pub write_refused : (room : ℕ) (c : Held) (a : TypedColumn Global) (error : VortexError) (code : ℤ) (fields : ErrorFields)
    → c ≡ Some a → MessageFault room (typed_of a) error → code ≡ pos (number_of error) → HasFields error fields → EndsOnWrite room c code fields
write_refused room c a error code fields some why is told = subst (λ (h : Held). EndsOnWrite room h code fields) (sym some) (inr (error, why, (is, told)))

-- ---- read

pub read_fault : (bytes : List ℕ) (error : VortexError) → (error ≡ BadMetadata) ⊎ (error ≡ OutOfMemory) → (error ≡ BadMetadata → IsNoTypedMessage 16 bytes) → (error ≡ OutOfMemory → AreMessage bytes) → ReadFault bytes error
read_fault bytes error (inl bad) none message = inl (record { told = bad; none = none bad })
read_fault bytes error (inr short) none message = inr (record { told = short; message = message short })

-- memory was refused for the block of a column that was read
pub read_short : (bytes format : List ℕ) (c : Column) (error : VortexError) → IsTypedMessage 16 bytes format c → error ≡ OutOfMemory → ReadFault bytes error
read_short bytes format c error made short = inr (record { told = short; message = (format, c, made) })

-- the column that is put on the heap is that of the message
pub column_made : {T E : Type 0} (bytes format : List ℕ) (array : ArrayRef Global) (value : T → TypedColumn Global) (result : Result T E) → IsTypedMessage 16 bytes format (column_of array)
    → IfOk result (λ made. (value made).array ≡ array) → IfOk result (λ made. format_of (value made) ≡ format) → IfOk result (λ made. IsColumnOfMessage bytes (value made))
column_made bytes format array value (Ok made) found same typed =
    subst (λ (name : List ℕ). IsTypedMessage 16 bytes name (column_of (value made).array)) (sym typed) (subst (λ (a : ArrayRef Global). IsTypedMessage 16 bytes format (column_of a)) (sym same) found)
column_made bytes format array value (Err error) found same typed = tt

-- the byte says whether they are a message
pub message_told : (truth : Bool) (bytes : List ℕ) → OnTrue truth (AreMessage bytes) → OnFalse truth (IsNoTypedMessage 16 bytes) → Tells (byte_of truth) (AreMessage bytes)
message_told true bytes is _ = is
message_told false bytes _ none = λ found. none.none found.0 found.1 found.2

pub read_served : (bytes format : List ℕ) (c : Column) → IsTypedMessage 16 bytes format c → (error : VortexError) → ¬ IsUnreadable bytes error
read_served bytes format c made error fault = fault.none.none format c made

pub read_done : (bytes : List ℕ) (code : ℤ) (fields : ErrorFields) → ((error : VortexError) → ¬ IsUnreadable bytes error) → code ≡ pos 0 → EndsOnReading bytes code fields
read_done bytes code fields none is = inl (is, none)

pub read_refused : (bytes : List ℕ) (error : VortexError) (code : ℤ) (fields : ErrorFields) → ReadFault bytes error → code ≡ pos (number_of error) → HasFields error fields → EndsOnReading bytes code fields
read_refused bytes error code fields why is told = inr (error, why, (is, told))
