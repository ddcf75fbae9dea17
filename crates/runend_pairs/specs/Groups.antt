-- Groups of rows, by the rows before which they end, and the answer for each.
use Rattle.std.specs.Prelude.{◌≡◌, ℕ, ℤ, zero, suc, ◌<◌, Bool, List, Option, Some, None, IfSome, length, option_map, slice_get, slice_index, slice_range}
use Rattle.column_base.specs.ValidityForm.{ValidityForm, HasLength}
use Rattle.column_core.specs.Optionals.{optionals}
use Rattle.column_core.specs.PrimitiveForm.{PrimitiveForm, primitive_dtype}
use Rattle.runend_windows.specs.Ends.{IsEndsType, ends_of}
use Rattle.runend_windows.specs.Window.{last_end, run_at, run_rows, IsWindow}

-- the first row of a group
abbrev pub first_row : List ℕ → ℕ → ℕ
first_row ends zero = 0
first_row ends (suc group) = slice_index ends group

-- the rows of a group
abbrev pub group_rows : {X : Type 0} → List ℕ → List X → ℕ → List X
group_rows ends rows group = slice_range rows (first_row ends group) (slice_index ends group)

-- ends of runs of rows from the first row on, which is in the first run, up to the end of the last run
pub record AreWholeRuns (ends : PrimitiveForm) : Type 0 where
  pub plain : IsEndsType (primitive_dtype ends)
  pub window : IsWindow (ends_of ends) 0 (last_end (ends_of ends))
  pub begun : run_at (ends_of ends) 0 ≡ 0

-- runs of `count` stored numbers, with this validity
pub record AreValueRuns (ends : PrimitiveForm) (count : ℕ) (validity : ValidityForm) : Type 0 where
  pub whole : AreWholeRuns ends
  pub paired : count ≡ length (ends_of ends)
  pub flagged : HasLength validity count

-- an answer for each group, from exactly its rows
pub record AreGroupAnswers {X Y : Type 0} (answer_of : List X → Y) (ends : List ℕ) (rows : List X) (answers : List Y) : Type 0 where
  pub counted : length answers ≡ length ends
  pub each : (group : ℕ) → group < length ends → slice_get answers group ≡ Some (answer_of (group_rows ends rows group))

-- null, or a number that a type has
abbrev pub IsNumberIn : (ℤ → Type 0) → Option ℤ → Type 0
IsNumberIn has answer = IfSome answer has

-- the value of an answer in a type, or nothing exactly where the type does not have it
abbrev pub IsAnswerOf : {S : Type 0} → (S → ℤ) → (ℤ → Type 0) → Option ℤ → Option (Option S) → Type 0
IsAnswerOf number has answer None = ¬ IsNumberIn has answer
IsAnswerOf number has answer (Some found) = IsNumberIn has answer × (option_map number found ≡ answer)

-- the rows that runs show from the first on: optional numbers, stored as these
abbrev pub shown_numbers : List ℕ → List ℤ → List Bool → List (Option ℤ)
shown_numbers ends numbers flags = run_rows ends (optionals numbers flags) 0 (last_end ends)
