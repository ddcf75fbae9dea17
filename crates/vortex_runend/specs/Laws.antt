-- The laws of encodings, stated over lists of optional values, so of integers too, and those of columns as bytes.
use Rattle.std.specs.Prelude.{IsTrue, ◌≡◌, ◌≢◌, ◌+◌, ◌^◌, ◌<◌, ◌≤◌, ◌↔◌, ℕ, ℤ, List, Option, Some, None, length, slice_get, slice_range}
use Rattle.column_core.specs.Refusal.{range_fault}
use Rattle.column_core.specs.Value.{Value}
use Rattle.column_ops.specs.Fill.{fill_rows}
use Rattle.column_ops.specs.Take.{take_rows, take_fault}
use Rattle.runend_windows.specs.Cover.{Covers, IsTightCover}
use Rattle.runend_column.specs.Data.{data_eq, data_writes}
use Rattle.column_bytes.specs.Bytes.{column_bytes}
use Rattle.column_bytes.specs.Read.{IsMessage, IsWritable}
use Rattle.runend_array.specs.Array.{column_of}
use Rattle.runend_array.specs.declared.array_ref.ArrayRef.{ArrayRef}
use Rattle.runend_commands.specs.Laws.{AreNeverShort}
use Rattle.runend_commands.specs.Meaning.{plain}
use Rattle.runend_commands.specs.Step.{IsExecution}
use Rattle.runend_commands.specs.declared.command.Answer.{Answer}
use Rattle.runend_commands.specs.declared.command.Command.{Command}

-- two tight exact covers of a list have equal ends and equal optional values
abbrev pub TightCoverIsUnique : Type 0
TightCoverIsUnique = (rows : List (Option Value)) (ends ends' : List ℕ) (values values' : List (Option Value))
    → IsTightCover rows ends values → IsTightCover rows ends' values' → (ends ≡ ends') × (values ≡ values')

-- no cover of a list, whatever its offset and whatever it hides, has fewer runs than a tight exact cover
abbrev pub NoCoverIsShorter : Type 0
NoCoverIsShorter = (rows : List (Option Value)) (ends ends' : List ℕ) (values values' : List (Option Value)) (offset count : ℕ)
    → IsTightCover rows ends values → Covers rows ends' values' offset count → length ends ≤ length ends'

-- two lists are equal exactly where their tight exact covers have equal ends and equal optional values
abbrev pub EqualListsEqualEncodings : Type 0
EqualListsEqualEncodings = (rows rows' : List (Option Value)) (ends ends' : List ℕ) (values values' : List (Option Value))
    → IsTightCover rows ends values → IsTightCover rows' ends' values' → (rows ≡ rows') ↔ ((ends ≡ ends') × (values ≡ values'))

-- neighbouring values of a tight exact cover differ, null being equal to null
abbrev pub NeighboursDiffer : Type 0
NeighboursDiffer = (rows : List (Option Value)) (ends : List ℕ) (values : List (Option Value)) (k : ℕ) (value next : Option Value)
    → IsTightCover rows ends values → slice_get values k ≡ Some value → slice_get values (k + 1) ≡ Some next → value ≢ next

-- what a tight exact cover of a list shows is the list
abbrev pub DecodingAnEncoding : Type 0
DecodingAnEncoding = (rows rows' : List (Option Value)) (ends : List ℕ) (values : List (Option Value))
    → IsTightCover rows ends values → Covers rows' ends values 0 (length rows) → rows' ≡ rows

-- a range of a range, both within their lists, is the range at the added positions, which is within the list too
abbrev pub SliceOfSlice : Type 0
SliceOfSlice = (rows : List (Option Value)) (start stop first last : ℕ)
    → start ≤ stop → stop ≤ length rows → first ≤ last → last ≤ length (slice_range rows start stop)
    → (slice_range (slice_range rows start stop) first last ≡ slice_range rows (start + first) (start + last)) × (start + last ≤ length rows)

-- what a run column holds in addition to its slots is equal exactly where its offset is, and where it is equal a hash
-- of it makes equal writes
abbrev pub EqualDataHashEqually : Type 0
EqualDataHashEqually = (offset other : ℕ) → (IsTrue (data_eq offset other) ↔ (offset ≡ other)) × (IsTrue (data_eq offset other) → data_writes offset ≡ data_writes other)

-- rows taken from rows that were taken are those that the composed indices take, and where the first indices all name
-- rows, so do these
abbrev pub TakeOfTake : Type 0
TakeOfTake = (rows : List (Option Value)) (first second : List (Option ℤ))
    → (take_rows (take_rows rows first) second ≡ take_rows rows (take_rows first second))
    × (take_fault first (length rows) ≡ None → take_fault (take_rows first second) (length rows) ≡ None)

-- a range of filled rows is the range filled, and is refused exactly where the range of the rows is
abbrev pub FillThenSlice : Type 0
FillThenSlice = (rows : List (Option Value)) (value : Value) (start stop : ℕ)
    → (slice_range (fill_rows rows value) start stop ≡ fill_rows (slice_range rows start stop) value)
    × (range_fault start stop (length (fill_rows rows value)) ≡ range_fault start stop (length rows))

-- ---- columns as bytes

-- a run of commands on a column, and a run of the same on what is read from its message, where neither runs out of
-- memory, have equal answers and end in equal plain columns
abbrev pub ReadRunsAsWritten : Type 0 → Type 0
ReadRunsAsWritten A = (written read written_after read_after : ArrayRef A) (bytes : List ℕ) (commands : List (Command A)) (answers others : List (Answer A))
    → IsWritable 16 (column_of written) → bytes ≡ column_bytes (column_of written) → length bytes < 2 ^ 64 → IsMessage 16 bytes (column_of read)
    → IsExecution written commands answers written_after → IsExecution read commands others read_after
    → AreNeverShort answers → AreNeverShort others → (answers ≡ others) × (plain written_after ≡ plain read_after)
