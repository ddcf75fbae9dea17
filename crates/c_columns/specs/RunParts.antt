-- What run columns are made of, taken apart and written as, and why that is refused.
use Rattle.std.specs.Prelude.{◌≡◌, ◌⊎◌, ℕ, ◌<◌, ◌≤◌, List, length, take, Option, Some, None}
use Rattle.std.specs.Global.{Global}
use Rattle.column_base.specs.declared.dtype.DType.{DType}
use Rattle.column_base.specs.declared.dtype.PType.{PType}
use Rattle.column_base.specs.declared.error.VortexError.{VortexError}
use Rattle.column_base.specs.declared.error.VortexError.TheVariants.{ColumnLength, Unsupported}
use Rattle.runend_array.specs.Array.{column_of}
use Rattle.runend_array.specs.Column.{Column, OfLeaf, OfConstant, OfLists, OfRuns, IsPlainEnds, Runs, depth, end_ptype, end_numbers, runs_with}
use Rattle.runend_array.specs.Fault.{PartsFault}
use Rattle.runend_array.specs.declared.array_ref.ArrayRef.{ArrayRef}
use Rattle.runend_column.specs.Fault.{RecordFault}
use Rattle.runend_column.specs.Record.{record_of}
use Rattle.column_fields.specs.RecordFields.{Means}
use Rattle.column_fields.specs.WrittenRecord.{IsWritten}

-- how many levels of runs a column that C makes has at most
abbrev pub most_levels : ℕ
most_levels = 64

-- runs over these values would have more levels; or they have not, and there is a fault of the parts
abbrev pub IsFaultOver : Column → (VortexError → Type 0) → VortexError → Type 0
IsFaultOver values Fault error = ((error ≡ Unsupported) × (most_levels ≤ depth values)) ⊎ ((depth values < most_levels) × Fault error)

-- the first fault of the parts of a run column
abbrev pub RunsFault : ℕ → ℕ → ArrayRef Global → ArrayRef Global → VortexError → Type 0
RunsFault offset count ends values error = IsFaultOver (column_of values) (PartsFault (column_of ends) (column_of values) offset count) error

-- the first fault of such parts under a record
abbrev pub RecordedFault : List ℕ → DType → ℕ → ArrayRef Global → ArrayRef Global → VortexError → Type 0
RecordedFault bytes dtype count ends values error = IsFaultOver (column_of values) (RecordFault bytes dtype count (column_of ends) (column_of values)) error

-- only a run column is taken apart
abbrev pub no_runs_fault : Column → Option VortexError
no_runs_fault (OfLeaf leaf) = Some Unsupported
no_runs_fault (OfConstant constant) = Some Unsupported
no_runs_fault (OfLists lists) = Some Unsupported
no_runs_fault (OfRuns ends_type ends values offset count) = None

-- the column has these ends: flat, of this unsigned type and without null
pub record AreEndsIn (ends_type : PType) (ends : List ℕ) (column : Column) : Type 0 where
  pub plain : IsPlainEnds column
  pub typed : end_ptype column ≡ ends_type
  pub numbers : end_numbers column ≡ ends

-- the ends of a run column
abbrev pub AreEndsOf : Column → Column → Type 0
AreEndsOf (OfRuns ends_type ends values offset count) column = AreEndsIn ends_type ends column
AreEndsOf c column = ⊥

-- the bytes are the written record of the runs
pub record IsRecordIn (runs : Runs) (bytes : List ℕ) : Type 0 where
  pub written : IsWritten bytes (record_of runs)
  pub means : Means bytes (record_of runs)

abbrev pub IsRecordOf : Column → List ℕ → Type 0
IsRecordOf (OfRuns ends_type ends values offset count) bytes = IsRecordIn (runs_with ends_type ends values offset count) bytes
IsRecordOf c bytes = ⊥

-- the record of the run column is at the front of the buffer, and has `size` bytes
pub record IsRecordAtFront (column : Column) (size : ℕ) (bytes : List ℕ) : Type 0 where
  pub record_bytes : List ℕ
  pub is : IsRecordOf column record_bytes
  pub size_is : size ≡ length record_bytes
  pub front : take (length record_bytes) bytes ≡ record_bytes

-- the record does not fit: the error has its number of bytes and the room
pub record HasNoRecordRoom (runs : Runs) (room : ℕ) (error : VortexError) : Type 0 where
  pub record_bytes : List ℕ
  pub is : IsRecordIn runs record_bytes
  pub told : error ≡ ColumnLength (length record_bytes) room
  pub short : room < length record_bytes

-- why the record is not written
abbrev pub UnwrittenFault : ℕ → Column → VortexError → Type 0
UnwrittenFault room (OfRuns ends_type ends values offset count) error = HasNoRecordRoom (runs_with ends_type ends values offset count) room error
UnwrittenFault room c error = error ≡ Unsupported

abbrev pub SerializeFault : ℕ → ArrayRef Global → VortexError → Type 0
SerializeFault room c error = UnwrittenFault room (column_of c) error
