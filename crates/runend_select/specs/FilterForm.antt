-- The form of a filter of a run column.
use Rattle.std.specs.Prelude.{◌≡◌, ◌⊎◌, ℕ, ◌*◌, ◌<◌, List, [], Bool, true, false, count_by, length}
use Rattle.column_base.specs.declared.mask.Mask.{Mask}
use Rattle.column_base.specs.declared.mask.Mask.TheVariants.{AllTrue, AllFalse, Values}
use Rattle.column_core.specs.Kinds.{is_numbers}
use Rattle.column_ops.specs.Filter.{filter_rows}
use Rattle.runend_array.specs.declared.session.Thresholds.{Thresholds}
use Rattle.runend_array.specs.Column.{Column, OfLeaf, OfConstant, OfLists, OfRuns, Runs, runs_with, column_dtype, column_of_runs, column_rows}
use Rattle.runend_array.specs.Encoding.{IsComputedFlat}
use Rattle.runend_select.specs.KeptRuns.{AreKept}
use Rattle.runend_column.specs.MinimalForm.{AreMinimalRuns, IsMinimalForm}

-- rows are taken one by one where few of them are selected, or few for each run
abbrev pub TakesDirectly : ℕ → ℕ → Thresholds → Type 0
TakesDirectly selected runs thresholds = (selected < thresholds.min_run_filter_rows) ⊎ (selected * thresholds.filter_factor < runs)

-- the runs with a selected row, from position 0 on, with ends of the same type and flat values
pub record AreSelectedRuns (whole : Runs) (bits : List Bool) (part : Runs) : Type 0 where
  pub kept : List Bool
  pub ends : AreKept whole.ends whole.offset bits kept part.ends
  pub values : column_rows part.values ≡ filter_rows kept (column_rows whole.values)
  pub ends_type : part.ends_type ≡ whole.ends_type
  pub flat : IsComputedFlat part.values
  pub window : (part.offset ≡ 0) × (part.count ≡ count_by (λ bit. bit) bits)

-- the runs that are left: integers in minimal form, other types as the runs with a selected row
abbrev pub AreLeftRuns : Bool → Runs → List Bool → Runs → Type 0
AreLeftRuns true whole bits part = AreMinimalRuns whole.ends_type part
AreLeftRuns false whole bits part = AreSelectedRuns whole bits part

-- rows that were taken one by one are flat, and else these runs are left
abbrev pub IsSelectedForm : Type 0 → Runs → List Bool → Column → Type 0
IsSelectedForm directly whole bits (OfLeaf leaf) = directly × IsComputedFlat (OfLeaf leaf)
IsSelectedForm directly whole bits (OfConstant constant) = ⊥
IsSelectedForm directly whole bits (OfLists lists) = directly
IsSelectedForm directly whole bits (OfRuns ends_type ends values offset count) =
    (¬ directly) × AreLeftRuns (is_numbers (column_dtype whole.values)) whole bits (runs_with ends_type ends values offset count)

-- all rows: integers in minimal form, other types as the column was
abbrev pub IsWholeForm : Bool → Runs → Column → Type 0
IsWholeForm true whole column = IsMinimalForm whole.ends_type column
IsWholeForm false whole column = column ≡ column_of_runs whole

-- a run column without runs, with ends of the same type and flat values
abbrev pub HasNoRuns : Runs → Column → Type 0
HasNoRuns whole (OfLeaf leaf) = ⊥
HasNoRuns whole (OfConstant constant) = ⊥
HasNoRuns whole (OfLists lists) = ⊥
HasNoRuns whole (OfRuns ends_type ends values offset count) = (ends_type ≡ whole.ends_type) × (ends ≡ []) × (column_rows values ≡ []) × IsComputedFlat values × (offset ≡ 0) × (count ≡ 0)

-- no rows: no runs, which is the minimal form of no rows
abbrev pub IsEmptyForm : Runs → Column → Type 0
IsEmptyForm whole column = HasNoRuns whole column × IsMinimalForm whole.ends_type column

-- the form of a filter, by whether the mask selects all rows by its form, or none. Every run column of integers that it leaves is in minimal form
abbrev pub IsFilterForm : {A : Type 0} → Thresholds → Runs → Mask A → Column → Type 0
IsFilterForm thresholds whole (AllTrue n) column = IsWholeForm (is_numbers (column_dtype whole.values)) whole column
IsFilterForm thresholds whole (AllFalse n) column = IsEmptyForm whole column
IsFilterForm thresholds whole (Values bits) column = IsSelectedForm (TakesDirectly (count_by (λ bit. bit) bits) (length whole.ends) thresholds) whole bits column
