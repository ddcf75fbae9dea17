-- Why bytes, ends and values do not make a run column: the first fault, in the order in which they are tested.
use Rattle.std.specs.Prelude.{◌≡◌, ◌≢◌, ◌⊎◌, ℕ, List, length}
use Rattle.column_base.specs.declared.dtype.DType.{DType}
use Rattle.column_base.specs.declared.error.VortexError.{VortexError}
use Rattle.column_base.specs.declared.error.VortexError.TheVariants.{TypeMismatch, BadMetadata, EndsTypeNumber, RunCount}
use Rattle.column_fields.specs.RecordFields.{IsRecord, Means, StatesUnknownEndsType}
use Rattle.column_fields.specs.declared.metadata.RunEndMetadata.{RunEndMetadata}
use Rattle.runend_array.specs.Column.{AreParts, Column, Runs, column_dtype, end_numbers, runs_of}
use Rattle.runend_array.specs.Fault.{PartsFault}
use Rattle.runend_column.specs.Record.{AreStatedEnds, HasStatedType}

-- the ends and the values are what the record and the type say
pub record AreStatedSlots (m : RunEndMetadata) (dtype : DType) (ends values : Column) : Type 0 where
  pub ends_stated : AreStatedEnds m ends
  pub values_typed : column_dtype values ≡ dtype

-- the first fault of ends and values that are not what the record and the type say
abbrev pub SlotsFault : RunEndMetadata → DType → Column → Column → VortexError → Type 0
SlotsFault m dtype ends values TypeMismatch = (¬ HasStatedType m ends) ⊎ (AreStatedEnds m ends × (column_dtype values ≢ dtype))
SlotsFault m dtype ends values (RunCount stated found) = HasStatedType m ends × (stated ≡ m.num_runs) × (found ≡ length (end_numbers ends)) × (stated ≢ found)
SlotsFault m dtype ends values error = ⊥

-- the first fault of ends and values under a record: they are not what it says, or they are, and make no run column
abbrev pub StatedFault : RunEndMetadata → DType → ℕ → Column → Column → VortexError → Type 0
StatedFault m dtype count ends values error = SlotsFault m dtype ends values error ⊎ (AreStatedSlots m dtype ends values × PartsFault ends values m.offset count error)

-- the first fault of bytes, ends and values: the bytes are not a record, or state an unknown type of ends, or else a
-- fault under their record
abbrev pub RecordFault : List ℕ → DType → ℕ → Column → Column → VortexError → Type 0
RecordFault bytes dtype count ends values BadMetadata = ¬ IsRecord bytes
RecordFault bytes dtype count ends values (EndsTypeNumber number) = StatesUnknownEndsType bytes number
RecordFault bytes dtype count ends values error = (m : RunEndMetadata) × Means bytes m × StatedFault m dtype count ends values error

-- the bytes mean the record, and the ends and the values are what it says and make a run column under its offset
pub record AreRecorded (m : RunEndMetadata) (bytes : List ℕ) (dtype : DType) (count : ℕ) (ends values : Column) : Type 0 where
  pub means : Means bytes m
  pub slots : AreStatedSlots m dtype ends values
  pub parts : AreParts ends values m.offset count

-- the run column of the ends and the values under the record that the bytes mean
abbrev pub IsRecordedColumn : List ℕ → DType → ℕ → Column → Column → Runs → Type 0
IsRecordedColumn bytes dtype count ends values made = (m : RunEndMetadata) × AreRecorded m bytes dtype count ends values × (made ≡ runs_of ends values m.offset count)
