-- A run that is passed to C, from what is passed of its value.
use Rattle.std.proofs.Common.{◌≡◌, ◌∙◌, ◌-◌, ◌<◌, ℕ, List, length, map, min, get_or, sym, ap, subst, arith}
use Rattle.std.specs.Prelude.{Some, slice_get, slice_index_or}
use Rattle.std.specs.Global.{Global}
use Rattle.std.proofs.lemmas.List.{length-map, get_or-map}
use Rattle.std.proofs.lemmas.Option.{slice_get_within}
use Rattle.column_base.specs.declared.error.VortexError.{VortexError}
use Rattle.runend_array.specs.Array.{column_of}
use Rattle.runend_array.specs.Column.{AreRuns, Column, Runs, column_dtype, column_rows, plain_of}
use Rattle.runend_array.specs.declared.array_ref.ArrayRef.{ArrayRef}
use Rattle.runend_commands.specs.Meaning.{plain}
use Rattle.runend_windows.proofs.RunAt.{runs_of_rows}
use Rattle.runend_windows.specs.Trimmed.{trimmed_ends}
use Rattle.c_columns.specs.Ending.{IsLookUpFault}
use Rattle.c_columns.specs.RunReads.{IsExecution, start_of, stop_of}
use Rattle.c_columns.specs.Values.{IsShownAt, IsTold}
use Rattle.c_columns.specs.declared.row_value.RowValue.{RowValue}

-- the value of the run is the row of this number of the values
pub run_told : (r : Runs) (values : ArrayRef Global) (run start stop : ℕ) (text : List ℕ) (value : RowValue) → column_of values ≡ r.values → IsShownAt run values text value → start ≡ start_of r run → stop ≡ stop_of r run
    → IsExecution r run start stop text value
run_told r values run start stop text value same told starts stops = record {
  starts = starts;
  stops = stops;
  shown = told.shown;
  there = subst (λ (c : Column). slice_get (column_rows c) run ≡ Some told.shown) same told.there;
  told = subst (λ (c : Column). IsTold (column_dtype c) told.shown value text) same told.told;
}

-- why it is not passed
pub run_refused : (c : Column) (values : ArrayRef Global) (run room : ℕ) (error : VortexError) → column_of values ≡ c → IsLookUpFault (plain values) run room error → IsLookUpFault (plain_of c) run room error
run_refused c values run room error same fault = subst (λ (d : Column). IsLookUpFault (plain_of d) run room error) same fault

-- a run whose value is passed is there
pub run_there : (r : Runs) (values : ArrayRef Global) (run : ℕ) (text : List ℕ) (value : RowValue) → column_of values ≡ r.values → AreRuns r → IsShownAt run values text value → run < length r.ends
run_there r values run text value same runs told =
    let within : run < length (column_rows (column_of values)) = slice_get_within (column_rows (column_of values)) run told.shown told.there in
    subst (λ (n : ℕ). run < n) runs.paired (subst (λ (c : Column). run < length (column_rows c)) same within)

-- where there is a row, there is a run
pub some_run : (r : Runs) (row : ℕ) → AreRuns r → row < r.count → 0 < length r.ends
some_run r row runs there = runs_of_rows r.ends r.offset r.count runs.window (omega (arith, there))

-- where a run stops
pub stops_at : {T : Type 0} (natural : T → ℕ) (items : List T) (run offset count : ℕ) (item : T) → run < length items → item ≡ get_or items run item
    → min (natural item - offset) count ≡ slice_index_or (trimmed_ends (map natural items) offset count) run 0
stops_at natural items run offset count item there is =
    let long = length-map items natural in
    let end : get_or (map natural items) run 0 ≡ natural item = get_or-map natural items run item 0 there ∙ ap natural (sym is) in
    let trimmed = get_or-map (λ (end : ℕ). min (end - offset) count) (map natural items) run 0 0 (omega (arith, long, there)) in
    sym (trimmed ∙ ap (λ (n : ℕ). min (n - offset) count) end)
