-- A run column that is made has no fault, nor a record that is written.
use Rattle.std.proofs.Common.{◌≡◌, ◌≤◌, ◌<◌, ◌+◌, ◌-◌, ◌∙◌, inl, inr, sym, ap, subst, ℕ, List, length, arith}
use Rattle.std.specs.Prelude.{OnOk, Result, slice_index}
use Rattle.std.specs.Global.{Global}
use Rattle.std.proofs.lemmas.List.{length-take}
use Rattle.column_base.specs.declared.dtype.DType.{DType}
use Rattle.column_base.specs.declared.error.VortexError.{VortexError}
use Rattle.column_base.specs.declared.error.VortexError.TheVariants.{BadMetadata, EndsNotStrict, EndsNotUnsigned, EndsTypeNumber, FirstEndBelowOffset, LastEndBelowWindow, LengthsDiffer, NoRunsWindow, RunCount, TypeMismatch, Unsupported, WindowOverflow}
use Rattle.runend_windows.specs.Window.{IsWindow}
use Rattle.runend_windows.specs.WindowFault.{WindowFault}
use Rattle.runend_array.specs.Array.{column_of}
use Rattle.runend_array.specs.Column.{AreParts, Column, OfConstant, OfLeaf, OfLists, OfRuns, Runs, column_rows, depth, end_numbers}
use Rattle.runend_array.specs.Fault.{PartsFault}
use Rattle.runend_array.specs.declared.array_ref.ArrayRef.{ArrayRef}
use Rattle.runend_column.specs.Fault.{AreRecorded, AreStatedSlots, IsRecordedColumn, RecordFault, SlotsFault}
use Rattle.column_fields.proofs.Records.{Means-same, Spells-same}
use Rattle.column_fields.proofs.RecordWriting.{one_form}
use Rattle.column_fields.specs.RecordFields.{Field, last_value}
use Rattle.column_fields.specs.declared.metadata.RunEndMetadata.{RunEndMetadata}
use Rattle.c_columns.specs.Ending.{IsShortOr}
use Rattle.c_columns.specs.Makers.{IsCopyOf}
use Rattle.c_columns.specs.RunParts.{IsFaultOver, IsRecordAtFront, RecordedFault, RunsFault, SerializeFault, UnwrittenFault, most_levels}
use Rattle.c_columns.proofs.Served.{all_served}

-- a window over paired runs has none
window_served : (ends : List ℕ) (values offset count : ℕ) → IsWindow ends offset count → values ≡ length ends → (error : VortexError) → ¬ WindowFault ends values offset count error
window_served ends values offset count window paired (LengthsDiffer e v) fault = fault.2 (sym paired)
window_served ends values offset count window paired (NoRunsWindow o n) fault = let none = window.none fault.1 in absurd (omega (arith, none.0, none.1, fault.4))
window_served ends values offset count window paired (EndsNotStrict run) fault =
    let first = fault.1 in
    let back : run - 1 + 1 ≡ run = omega (arith, first.later) in
    let grows : slice_index ends (run - 1) < slice_index ends (run - 1 + 1) = window.increasing (run - 1) (omega (arith, first.later, first.within)) in
    let here : slice_index ends (run - 1) < slice_index ends run = subst (λ (n : ℕ). slice_index ends (run - 1) < slice_index ends n) back grows in
    absurd (omega (arith, here, first.falls))
window_served ends values offset count window paired WindowOverflow fault = absurd (omega (arith, fault.1, window.small))
window_served ends values offset count window paired (FirstEndBelowOffset e o) fault = absurd (omega (arith, window.first fault.4, fault.2, fault.3, fault.5))
window_served ends values offset count window paired (LastEndBelowWindow e r) fault = absurd (omega (arith, window.last fault.5, fault.3, fault.4, fault.6))
window_served ends values offset count window paired error fault = fault

-- nor has a run column
parts_served : (ends values : Column) (offset count : ℕ) → AreParts ends values offset count → (error : VortexError) → ¬ PartsFault ends values offset count error
parts_served ends values offset count are EndsNotUnsigned fault = fault are.plain
parts_served ends values offset count are error fault = window_served (end_numbers ends) (length (column_rows values)) offset count are.runs.window are.runs.paired error fault.1

-- nor ends and values that a record states
slots_served : (m : RunEndMetadata) (dtype : DType) (ends values : Column) → AreStatedSlots m dtype ends values → (error : VortexError) → ¬ SlotsFault m dtype ends values error
slots_served m dtype ends values are TypeMismatch fault =
    elim fault [
      | inl untyped ↦ untyped are.ends_stated.typed
      | inr other ↦ other.1 are.values_typed
    ]
slots_served m dtype ends values are (RunCount stated found) fault = fault.3 (fault.1 ∙ are.ends_stated.counted ∙ sym fault.2)
slots_served m dtype ends values are error fault = fault

-- nor bytes, ends and values that are recorded
recorded_served : (m : RunEndMetadata) (bytes : List ℕ) (dtype : DType) (count : ℕ) (ends values : Column) → AreRecorded m bytes dtype count ends values → (error : VortexError) → ¬ RecordFault bytes dtype count ends values error
recorded_served m bytes dtype count ends values are BadMetadata fault = fault (are.means.0, are.means.1)
recorded_served m bytes dtype count ends values are (EndsTypeNumber number) fault =
    let same : last_value 1 fault.0 ≡ last_value 1 are.means.0 = ap (λ (f : List Field). last_value 1 f) (Spells-same fault.0 are.means.0 bytes fault.1 are.means.1) in
    absurd (omega (arith, same, fault.2, are.means.2))
recorded_served m bytes dtype count ends values are error fault =
    let same : fault.0 ≡ m = Means-same bytes fault.0 m fault.1 are.means in
    elim fault.2 [
      | inl slots ↦ slots_served m dtype ends values are.slots error (subst (λ (n : RunEndMetadata). SlotsFault n dtype ends values error) same slots)
      | inr parts ↦ parts_served ends values m.offset count are.parts error (subst (λ (n : RunEndMetadata). PartsFault ends values n.offset count error) same parts.1)
    ]

-- runs over values that leave room for a level
over_served : (values : Column) (Fault : VortexError → Type 0) → depth values < most_levels → ((error : VortexError) → ¬ Fault error) → (error : VortexError) → ¬ IsFaultOver values Fault error
over_served values Fault fits none error (inl deep) = absurd (omega (arith, deep.1, fits))
over_served values Fault fits none error (inr other) = none error other.1

-- what is copied has the parts and the levels of what it is a copy of
module _ (offset count : ℕ) (ends values copied_ends copied_values : ArrayRef Global) (copied : IsCopyOf ends copied_ends) (also : IsCopyOf values copied_values) (fits : depth (column_of values) < most_levels) where
  pub runs_served : {T : Type 0} (outcome : Result T VortexError) → AreParts (column_of copied_ends) (column_of copied_values) offset count → OnOk outcome ((error : VortexError) → ¬ RunsFault offset count ends values error)
  runs_served outcome are =
      let here : AreParts (column_of ends) (column_of values) offset count = subst (λ (c : Column). AreParts c (column_of values) offset count) copied (subst (λ (c : Column). AreParts (column_of copied_ends) c offset count) also are) in
      all_served _ outcome (over_served (column_of values) (PartsFault (column_of ends) (column_of values) offset count) fits (parts_served (column_of ends) (column_of values) offset count here))

  pub runs_refused : (error : VortexError) → PartsFault (column_of copied_ends) (column_of copied_values) offset count error → IsShortOr (RunsFault offset count ends values) error
  runs_refused error fault =
      let here = subst (λ (c : Column). PartsFault c (column_of values) offset count error) copied (subst (λ (c : Column). PartsFault (column_of copied_ends) c offset count error) also fault) in
      inr (inr (fits, here))

  module _ (bytes : List ℕ) (dtype : DType) where
    pub record_served : {T : Type 0} (outcome : Result T VortexError) (runs : Runs) → IsRecordedColumn bytes dtype count (column_of copied_ends) (column_of copied_values) runs
        → OnOk outcome ((error : VortexError) → ¬ RecordedFault bytes dtype count ends values error)
    record_served outcome runs made =
        let here = subst (λ (c : Column). AreRecorded made.0 bytes dtype count c (column_of values)) copied (subst (λ (c : Column). AreRecorded made.0 bytes dtype count (column_of copied_ends) c) also made.1) in
        all_served _ outcome (over_served (column_of values) (RecordFault bytes dtype count (column_of ends) (column_of values)) fits (recorded_served made.0 bytes dtype count (column_of ends) (column_of values) here))

    pub record_refused : (error : VortexError) → RecordFault bytes dtype count (column_of copied_ends) (column_of copied_values) error → IsShortOr (RecordedFault bytes dtype count ends values) error
    record_refused error fault =
        let here = subst (λ (c : Column). RecordFault bytes dtype count c (column_of values) error) copied (subst (λ (c : Column). RecordFault bytes dtype count (column_of copied_ends) c error) also fault) in
        inr (inr (fits, here))

-- values that leave no room for a level
pub runs_too_deep : (offset count : ℕ) (ends values : ArrayRef Global) (error : VortexError) → error ≡ Unsupported → most_levels ≤ depth (column_of values) → IsShortOr (RunsFault offset count ends values) error
runs_too_deep offset count ends values error is deep = inr (inl (is, deep))

pub record_too_deep : (bytes : List ℕ) (dtype : DType) (count : ℕ) (ends values : ArrayRef Global) (error : VortexError) → error ≡ Unsupported → most_levels ≤ depth (column_of values) → IsShortOr (RecordedFault bytes dtype count ends values) error
record_too_deep bytes dtype count ends values error is deep = inr (inl (is, deep))

-- a record at the front of the room has room there
written_at_front : (column : Column) (size : ℕ) (bytes : List ℕ) → IsRecordAtFront column size bytes → (error : VortexError) → ¬ UnwrittenFault (length bytes) column error
written_at_front (OfLeaf leaf) size bytes front error fault = front.is
written_at_front (OfConstant constant) size bytes front error fault = front.is
written_at_front (OfLists lists) size bytes front error fault = front.is
written_at_front (OfRuns ends_type ends values offset count) size bytes front error fault =
    let same : fault.record_bytes ≡ front.record_bytes = one_form fault.record_bytes front.record_bytes _ fault.is.written front.is.written in
    let whole = ap length front.front in
    let cut = length-take (length front.record_bytes) bytes in
    absurd (omega (arith, ap length same, whole, cut, fault.short))

pub written_served : (array : ArrayRef Global) (size room : ℕ) (bytes : List ℕ) → IsRecordAtFront (column_of array) size bytes → length bytes ≡ room → (error : VortexError) → ¬ SerializeFault room array error
written_served array size room bytes front long = subst (λ (n : ℕ). (error : VortexError) → ¬ SerializeFault n array error) long (written_at_front (column_of array) size bytes front)
