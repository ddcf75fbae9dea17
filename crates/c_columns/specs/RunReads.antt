-- What C reads of the runs of a run column, and why it is refused. A read of runs takes no memory.
use Rattle.std.specs.Prelude.{◌≡◌, ◌⊎◌, ℕ, zero, suc, ◌+◌, ◌<◌, ◌≤◌, ℤ, pos, List, length, slice_get, slice_index_or, Option, Some, None}
use Rattle.std.specs.Global.{Global}
use Rattle.column_base.specs.declared.error.VortexError.{VortexError}
use Rattle.column_base.specs.declared.error.VortexError.TheVariants.{Unsupported}
use Rattle.column_core.specs.Refusal.{row_fault}
use Rattle.column_core.specs.Value.{Value}
use Rattle.runend_array.specs.Array.{column_of}
use Rattle.runend_array.specs.Column.{Column, OfRuns, Runs, column_dtype, column_rows, plain_of, runs_with}
use Rattle.runend_array.specs.declared.array_ref.ArrayRef.{ArrayRef}
use Rattle.runend_windows.specs.Trimmed.{trimmed_ends}
use Rattle.runend_windows.specs.Window.{run_at}
use Rattle.c_columns.specs.Ending.{IsLookUpFault, IsRefusedAs}
use Rattle.c_columns.specs.ReadFaults.{past_fault}
use Rattle.c_columns.specs.Values.{IsTold}
use Rattle.c_columns.specs.declared.error_fields.ErrorFields.{ErrorFields}
use Rattle.c_columns.specs.declared.row_value.RowValue.{RowValue}

-- where a run stops: at the first row of the column that is past it
abbrev pub stop_of : Runs → ℕ → ℕ
stop_of r run = slice_index_or (trimmed_ends r.ends r.offset r.count) run 0

-- where it starts: where the run before stops
abbrev pub start_of : Runs → ℕ → ℕ
start_of r zero = 0
start_of r (suc run) = stop_of r run

-- a fact of the runs of a run column, which no other column has
abbrev pub OfItsRuns : (Runs → Type 0) → Column → Type 0
OfItsRuns P (OfRuns ends_type ends values offset count) = P (runs_with ends_type ends values offset count)
OfItsRuns P c = ⊥

-- how many runs are stored
abbrev pub IsRunCount : ℕ → Column → Type 0
IsRunCount count c = OfItsRuns (λ r. count ≡ length r.ends) c

-- the run of a row of the column
abbrev pub IsRunOfRow : ℕ → ℕ → Column → Type 0
IsRunOfRow row run c = OfItsRuns (λ r. run ≡ run_at r.ends (r.offset + row)) c

abbrev pub run_of_row_fault : ℕ → Column → Option VortexError
run_of_row_fault row (OfRuns ends_type ends values offset count) = row_fault row count
run_of_row_fault row c = Some Unsupported

-- the rows that a run shows, and the value that it shows in them
pub record IsExecution (r : Runs) (run start stop : ℕ) (text : List ℕ) (value : RowValue) : Type 0 where
  pub starts : start ≡ start_of r run
  pub stops : stop ≡ stop_of r run
  pub shown : Option Value
  pub there : slice_get (column_rows r.values) run ≡ Some shown
  pub told : IsTold (column_dtype r.values) shown value text

abbrev pub IsRunTold : ℕ → ℕ → ℕ → List ℕ → RowValue → Column → Type 0
IsRunTold run start stop text value c = OfItsRuns (λ r. IsExecution r run start stop text value) c

-- why a run is not read: the column has no runs, or its value is not read
abbrev pub RunFault : ℕ → ℕ → Column → VortexError → Type 0
RunFault run room (OfRuns ends_type ends values offset count) error = IsLookUpFault (plain_of values) run room error
RunFault run room c error = error ≡ Unsupported

-- how the call of it ends
abbrev pub EndsOnRun : ℕ → ℕ → Option (ArrayRef Global) → ℤ → ErrorFields → Type 0
EndsOnRun run room None code fields = code ≡ pos 22
EndsOnRun run room (Some c) code fields = (code ≡ pos 0) ⊎ ((error : VortexError) × RunFault run room (column_of c) error × IsRefusedAs error code fields)

-- where runs stop, from one run on, each of which is there
pub record AreStops (r : Runs) (first : ℕ) (stops : List ℕ) : Type 0 where
  pub there : first + length stops ≤ length r.ends
  pub each : (k : ℕ) → k < length stops → slice_index_or stops k 0 ≡ stop_of r (first + k)

abbrev pub AreStopsFrom : ℕ → List ℕ → Column → Type 0
AreStopsFrom first stops c = OfItsRuns (λ r. AreStops r first stops) c

abbrev pub stops_fault : ℕ → ℕ → Column → Option VortexError
stops_fault first count (OfRuns ends_type ends values offset whole) = past_fault first count (length ends)
stops_fault first count c = Some Unsupported
