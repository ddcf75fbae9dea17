-- Running totals: the answers for the rows from the first one up to the end of each run.
use Rattle.std.specs.Prelude.{◌≡◌, ◌⊎◌, ℕ, ℤ, ◌<◌, List, Option, Some, None, length, map, slice_get, slice_index, take}
use Rattle.column_base.specs.declared.dtype.DType.{DType}
use Rattle.column_base.specs.declared.error.VortexError.{VortexError}
use Rattle.column_base.specs.declared.error.VortexError.TheVariants.{OutOfMemory}
use Rattle.column_base.specs.Types.{HasNumber}
use Rattle.column_core.specs.Leaf.{Leaf}
use Rattle.column_core.specs.PrimitiveForm.{PrimitiveForm}
use Rattle.column_core.specs.Value.{Value}
use Rattle.column_sums.specs.SumAnswer.{number_in}
use Rattle.runend_encode.specs.Encoding.{IsRowEncoding}
use Rattle.runend_windows.specs.Cover.{IsTightCover}
use Rattle.runend_pairs.specs.GroupFaults.{numbers_fault}
use Rattle.runend_pairs.specs.Groups.{IsNumberIn}
use Rattle.runend_pairs.specs.Sums.{sum_of, summed_ptype}
use Rattle.runend_pairs.specs.declared.total_fault.TotalError.{TotalError}
use Rattle.runend_pairs.specs.declared.total_fault.TotalError.TheVariants.{Refused, Overflow}

-- the rows up to the end of a run
abbrev pub rows_through : {X : Type 0} → List ℕ → List X → ℕ → List X
rows_through ends rows run = take (slice_index ends run) rows

-- an answer for each run, from exactly the rows up to its end
pub record AreRunningAnswers {X Y : Type 0} (answer_of : List X → Y) (ends : List ℕ) (rows : List X) (answers : List Y) : Type 0 where
  pub counted : length answers ≡ length ends
  pub each : (run : ℕ) → run < length ends → slice_get answers run ≡ Some (answer_of (rows_through ends rows run))

-- the ends of the encoding of rows of a type
pub record AreRunEnds (rows : List (Option Value)) (dtype : DType) (ends : PrimitiveForm) : Type 0 where
  pub values : Leaf
  pub encoding : IsRowEncoding rows dtype ends values

-- the first run at whose end a type does not have the answer
pub record IsFirstLargeRun {X : Type 0} (has : ℤ → Type 0) (answer_of : List X → Option ℤ) (ends : List ℕ) (rows : List X) (run : ℕ) : Type 0 where
  pub within : run < length ends
  pub here : ¬ IsNumberIn has (answer_of (rows_through ends rows run))
  pub before : (earlier : ℕ) → earlier < run → IsNumberIn has (answer_of (rows_through ends rows earlier))

-- runs with these ends are refused: for memory, or with the first that has no answer
abbrev pub IsRunningRefusal : {X : Type 0} → (ℤ → Type 0) → (List X → Option ℤ) → List ℕ → List X → TotalError → Type 0
IsRunningRefusal has answer_of ends rows (Refused error) = error ≡ OutOfMemory
IsRunningRefusal has answer_of ends rows (Overflow run) = IsFirstLargeRun has answer_of ends rows run

-- the first run of equal neighbouring rows at whose end the total does not fit the type of sums
pub record IsFirstLargeTotal (dtype : DType) (rows : List (Option Value)) (run : ℕ) : Type 0 where
  pub ends : List ℕ
  pub values : List (Option Value)
  pub cover : IsTightCover rows ends values
  pub first : IsFirstLargeRun (HasNumber (summed_ptype dtype)) sum_of ends (map number_in rows) run

-- totals of a column of a type are refused as not of integers, else with the first run without one, and else only for
-- memory
abbrev pub IsTotalRefusal : DType → List (Option Value) → TotalError → Type 0
IsTotalRefusal dtype rows (Refused error) = (error ≡ OutOfMemory) ⊎ (numbers_fault dtype ≡ Some error)
IsTotalRefusal dtype rows (Overflow run) = (numbers_fault dtype ≡ None) × IsFirstLargeTotal dtype rows run
