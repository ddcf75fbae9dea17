-- Why many rows of a column are not read at once: one fault or none. A read of a flat column takes no memory.
use Rattle.std.specs.Prelude.{◌≡◌, ℕ, ◌+◌, ◌-◌, ◌/◌, ◌^◌, ℤ, pos, Bool, min, cond, length, nat_eq, nat_lt, slice_range, Option, Some, None, Result, Ok, Err}
use Rattle.std.specs.Option.{option_or}
use Rattle.std.specs.Global.{Global}
use Rattle.column_base.specs.declared.dtype.DType.{DType}
use Rattle.column_base.specs.declared.dtype.DType.TheVariants as column
use Rattle.column_base.specs.declared.dtype.PType.{PType}
use Rattle.column_base.specs.declared.dtype.PType.TheVariants.{U8, U16, U32, U64, I8, I16, I32, I64}
use Rattle.column_base.specs.declared.error.VortexError.{VortexError}
use Rattle.column_base.specs.declared.error.VortexError.TheVariants.{BadRange, ColumnLength, TypeMismatch, Unsupported, CastOutOfRange}
use Rattle.column_base.specs.Error.{number_of}
use Rattle.column_core.specs.Kinds.{list_fault}
use Rattle.column_core.specs.Refusal.{IsRefusedBy}
use Rattle.column_core.specs.Leaf.{Leaf, OfNumbers, OfTruths, OfDecimals, OfVarBins, leaf_count}
use Rattle.runend_array.specs.Array.{column_of}
use Rattle.runend_array.specs.Column.{Column, OfLeaf, column_dtype, column_rows}
use Rattle.runend_array.specs.declared.array_ref.ArrayRef.{ArrayRef}
use Rattle.c_columns.specs.Ending.{EndsBy, HasFields}
use Rattle.c_columns.specs.Kinds.{ptype_number}
use Rattle.c_columns.specs.Reads.{size_between, size_of_rows}
use Rattle.c_columns.specs.declared.error_fields.ErrorFields.{ErrorFields}

-- a number as a field: 2^64 - 1 where none of 64 bits is so large
abbrev pub as_field : ℕ → ℕ
as_field number = min number (2 ^ 64 - 1)

-- a column does not have `count` rows from row `start` on
abbrev pub past_fault : ℕ → ℕ → ℕ → Option VortexError
past_fault start count rows = cond (nat_lt rows (start + count)) (Some (BadRange start (as_field (start + count)) rows)) None

-- the room is not exactly what is needed
abbrev pub room_fault : ℕ → ℕ → Option VortexError
room_fault needed room = cond (nat_eq needed room) None (Some (ColumnLength (as_field needed) room))

-- the number of words is not the one that the bits need
abbrev pub words_fault : ℕ → ℕ → Option VortexError
words_fault count room = room_fault ((count + 63) / 64) room

-- the two native types are one
abbrev pub is_same_type : PType → PType → Bool
is_same_type a b = nat_eq (ptype_number a) (ptype_number b)

-- the type is not one of these integers
abbrev pub numbers_type_fault : PType → DType → Option VortexError
numbers_type_fault ptype (column.Primitive t n) = cond (is_same_type t ptype) None (Some TypeMismatch)
numbers_type_fault ptype t = Some Unsupported

-- the type is none of decimals
abbrev pub decimals_type_fault : DType → Option VortexError
decimals_type_fault (column.Decimal decimal n) = None
decimals_type_fault t = Some Unsupported

-- the type is none of booleans
abbrev pub truths_type_fault : DType → Option VortexError
truths_type_fault (column.Bool n) = None
truths_type_fault t = Some Unsupported

-- the type is none of texts or bytes
abbrev pub texts_type_fault : DType → Option VortexError
texts_type_fault (column.Utf8 n) = None
texts_type_fault (column.Binary n) = None
texts_type_fault t = Some Unsupported

-- the fault of rows of a column that is not flat: a type that is not read so, and then rows past the end
abbrev pub part_fault : Option VortexError → ℕ → ℕ → Column → Option VortexError
part_fault type_fault start count c = option_or type_fault (past_fault start count (length (column_rows c)))

-- `count` numbers of a native type from row `start` on
abbrev pub stored_numbers_fault : PType → ℕ → ℕ → Leaf → Option VortexError
stored_numbers_fault ptype start count (OfNumbers form) = cond (is_same_type form.ptype ptype) (past_fault start count (length form.numbers)) (Some TypeMismatch)
stored_numbers_fault ptype start count leaf = Some Unsupported

abbrev pub numbers_fault : PType → ℕ → ℕ → Column → Option VortexError
numbers_fault ptype start count (OfLeaf leaf) = stored_numbers_fault ptype start count leaf
numbers_fault ptype start count c = part_fault (numbers_type_fault ptype (column_dtype c)) start count c

-- `count` decimals from row `start` on
abbrev pub stored_decimals_fault : ℕ → ℕ → Leaf → Option VortexError
stored_decimals_fault start count (OfDecimals form) = past_fault start count (length form.numbers)
stored_decimals_fault start count leaf = Some Unsupported

abbrev pub decimals_fault : ℕ → ℕ → Column → Option VortexError
decimals_fault start count (OfLeaf leaf) = stored_decimals_fault start count leaf
decimals_fault start count c = part_fault (decimals_type_fault (column_dtype c)) start count c

-- the booleans, with room for a number of words
abbrev pub stored_truths_fault : ℕ → Leaf → Option VortexError
stored_truths_fault room (OfTruths form) = words_fault (length form.bits) room
stored_truths_fault room leaf = Some Unsupported

abbrev pub truths_fault : ℕ → Column → Option VortexError
truths_fault room (OfLeaf leaf) = stored_truths_fault room leaf
truths_fault room c = Some Unsupported

-- those of `count` rows from row `start` on
abbrev pub truths_from_fault : ℕ → ℕ → ℕ → Column → Option VortexError
truths_from_fault start count room c = option_or (part_fault (truths_type_fault (column_dtype c)) start count c) (words_fault count room)

-- which rows are valid, with room for a number of words
abbrev pub flags_fault : ℕ → Column → Option VortexError
flags_fault room (OfLeaf leaf) = words_fault (leaf_count leaf) room
flags_fault room c = Some Unsupported

-- of `count` rows from row `start` on; no lists
abbrev pub flags_from_fault : ℕ → ℕ → ℕ → Column → Option VortexError
flags_from_fault start count room c = option_or (part_fault (list_fault (column_dtype c)) start count c) (words_fault count room)

-- how many bits a number of the type has that is not negative
abbrev pub positive_bits : PType → ℕ
positive_bits U8 = 8
positive_bits U16 = 16
positive_bits U32 = 32
positive_bits U64 = 64
positive_bits I8 = 7
positive_bits I16 = 15
positive_bits I32 = 31
positive_bits I64 = 63

-- the type has no such offset
abbrev pub offset_fault : PType → ℕ → Option VortexError
offset_fault ptype offset = cond (nat_lt offset (2 ^ positive_bits ptype)) None (Some CastOutOfRange)

-- offsets of rows from row `start` on, with room for one more than there are rows: the last is the largest
abbrev pub offsets_room_fault : PType → ℕ → ℕ → ℕ → ℕ → Option VortexError
offsets_room_fault ptype start room count size = cond (nat_eq room 0) (Some (BadRange start start count)) (option_or (past_fault start (room - 1) count) (offset_fault ptype size))

abbrev pub stored_offsets_fault : PType → ℕ → ℕ → Leaf → Option VortexError
stored_offsets_fault ptype start room (OfVarBins form) = offsets_room_fault ptype start room (length form.views) (size_between form start (start + (room - 1)))
stored_offsets_fault ptype start room leaf = Some Unsupported

abbrev pub other_offsets_fault : PType → ℕ → ℕ → Column → Option VortexError
other_offsets_fault ptype start room c =
    option_or (texts_type_fault (column_dtype c)) (offsets_room_fault ptype start room (length (column_rows c)) (size_of_rows (slice_range (column_rows c) start (start + (room - 1)))))

abbrev pub offsets_fault : PType → ℕ → ℕ → Column → Option VortexError
offsets_fault ptype start room (OfLeaf leaf) = stored_offsets_fault ptype start room leaf
offsets_fault ptype start room c = other_offsets_fault ptype start room c

-- the bytes of `count` rows from row `start` on, with room for a number of bytes
abbrev pub stored_bytes_fault : ℕ → ℕ → ℕ → Leaf → Option VortexError
stored_bytes_fault start count room (OfVarBins form) = option_or (past_fault start count (length form.views)) (room_fault (size_between form start (start + count)) room)
stored_bytes_fault start count room leaf = Some Unsupported

abbrev pub other_bytes_fault : ℕ → ℕ → ℕ → Column → Option VortexError
other_bytes_fault start count room c = option_or (part_fault (texts_type_fault (column_dtype c)) start count c) (room_fault (size_of_rows (slice_range (column_rows c) start (start + count))) room)

abbrev pub bytes_fault : ℕ → ℕ → ℕ → Column → Option VortexError
bytes_fault start count room (OfLeaf leaf) = stored_bytes_fault start count room leaf
bytes_fault start count room c = other_bytes_fault start count room c

-- refused by the fault where there is one, and else done
abbrev pub IsRefusedOnlyBy : {T : Type 0} → Option VortexError → Result T VortexError → Type 0
IsRefusedOnlyBy fault (Ok value) = fault ≡ None
IsRefusedOnlyBy fault (Err error) = fault ≡ Some error

-- the call ends by this fault, with its number and its fields; where there is none, with 0
abbrev pub EndsOnlyBy : Option VortexError → ℤ → ErrorFields → Type 0
EndsOnlyBy None code fields = code ≡ pos 0
EndsOnlyBy (Some error) code fields = (code ≡ pos (number_of error)) × HasFields error fields

-- a column that is flat is read where it lies, which takes no memory
abbrev pub IsRefusedIn : {T : Type 0} → Column → Option VortexError → Result T VortexError → Type 0
IsRefusedIn (OfLeaf leaf) fault result = IsRefusedOnlyBy fault result
IsRefusedIn c fault result = IsRefusedBy fault result

-- the call on such a column ends by this fault, and on any other by this or for memory
abbrev pub EndsIn : Column → Option VortexError → ℤ → ErrorFields → Type 0
EndsIn (OfLeaf leaf) fault code fields = EndsOnlyBy fault code fields
EndsIn c fault code fields = EndsBy fault code fields

-- how a read of the column of a handle ends that takes no memory: with 22 where the handle is empty, else by its fault
abbrev pub EndsOnRead : (Column → Option VortexError) → Option (ArrayRef Global) → ℤ → ErrorFields → Type 0
EndsOnRead fault None code fields = code ≡ pos 22
EndsOnRead fault (Some c) code fields = EndsOnlyBy (fault (column_of c)) code fields

-- how a read ends that takes no memory where the column is flat: with 22 where the handle is empty
abbrev pub EndsOnRows : (Column → Option VortexError) → Option (ArrayRef Global) → ℤ → ErrorFields → Type 0
EndsOnRows fault None code fields = code ≡ pos 22
EndsOnRows fault (Some c) code fields = EndsIn (column_of c) (fault (column_of c)) code fields

-- how a read ends that may take memory whatever the form: with 22 where the handle is empty
abbrev pub EndsOnWindow : (Column → Option VortexError) → Option (ArrayRef Global) → ℤ → ErrorFields → Type 0
EndsOnWindow fault None code fields = code ≡ pos 22
EndsOnWindow fault (Some c) code fields = EndsBy (fault (column_of c)) code fields
