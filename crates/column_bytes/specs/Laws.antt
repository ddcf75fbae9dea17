-- The laws of columns as bytes.
use Rattle.std.specs.Prelude.{◌≡◌, ℕ, ◌*◌, ◌^◌, ◌<◌, ◌≤◌, List, Option, length}
use Rattle.runend_column.specs.BytesUsed as used
use Rattle.column_base.specs.declared.dtype.DType.{DType}
use Rattle.column_base.specs.Types.{IsLeastFor}
use Rattle.column_core.specs.Value.{IsLists, Value}
use Rattle.runend_array.specs.Column.{Column, Runs, column_dtype, column_of_runs, column_rows, plain_of}
use Rattle.runend_array.specs.Encoding.{IsComputedFlat}
use Rattle.runend_windows.specs.Cover.{IsTightCover}
use Rattle.runend_windows.specs.Window.{last_end}
use Rattle.column_bytes.specs.Bytes.{column_bytes}
use Rattle.column_bytes.specs.Packed.{packed_column}
use Rattle.column_bytes.specs.Read.{IsMessage, IsWritable}
use Rattle.column_bytes.specs.Stored.{IsStored}

-- bytes are those of at most one column; that a column has one spelling needs no law, since that is a function
abbrev pub SpellingIsUnique : Type 0
SpellingIsUnique = (m n : ℕ) (bytes : List ℕ) (c d : Column) → length bytes < 2 ^ 64 → IsMessage m bytes c → IsMessage n bytes d → c ≡ d

-- what is written of a column that is writable is a message: that of the same column, its texts and bytes packed
abbrev pub WrittenIsAMessage : Type 0
WrittenIsAMessage = (levels : ℕ) (c : Column) → IsWritable levels c → IsMessage levels (column_bytes c) (packed_column c)

-- the runs are the encoding of rows of a type, as encoders answer it: a tight exact cover with ends of the least type and
-- flat values, as a call computes them
pub record IsEncodingOf (rows : List (Option Value)) (t : DType) (runs : Runs) : Type 0 where
  pub cover : IsTightCover rows runs.ends (column_rows runs.values)
  pub offset : runs.offset ≡ 0
  pub count : runs.count ≡ length rows
  pub dtype : column_dtype runs.values ≡ t
  pub narrow : IsLeastFor (last_end runs.ends) runs.ends_type
  pub flat : IsComputedFlat runs.values
  pub stored : IsStored runs.values

-- two encodings of the same rows and the same type, which is none of lists, have the same bytes, whichever buffers the
-- texts or bytes of their values lie in
abbrev pub EqualRowsEqualBytes : Type 0
EqualRowsEqualBytes = (rows : List (Option Value)) (t : DType) (first second : Runs) → ¬ IsLists t
    → IsEncodingOf rows t first → IsEncodingOf rows t second → column_bytes (column_of_runs first) ≡ column_bytes (column_of_runs second)

-- columns with the same bytes have the same type and the same rows, whatever the forms
abbrev pub EqualBytesEqualRows : Type 0
EqualBytesEqualRows = (m n : ℕ) (c d : Column) → IsWritable m c → IsWritable n d → length (column_bytes c) < 2 ^ 64 → column_bytes c ≡ column_bytes d → plain_of c ≡ plain_of d

-- a column takes at most 24 bytes for each byte that it is the message of
abbrev pub ReadTakesFewBytes : Type 0
ReadTakesFewBytes = (levels : ℕ) (bytes : List ℕ) (c : Column) → IsMessage levels bytes c → used.column_bytes c ≤ 24 * length bytes
