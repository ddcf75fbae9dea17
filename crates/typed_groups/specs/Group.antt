-- The answers of groups that are asked one by one.
use Rattle.std.specs.Prelude.{◌≡◌, ◌<◌, ℕ, List, Option, None, length, slice_index_or}
use Rattle.column_base.specs.declared.error.VortexError.TheVariants.{OutOfMemory}
use Rattle.column_core.specs.Value.{Value}
use Rattle.runend_pairs.specs.Groups.{group_rows}
use Rattle.runend_pairs.specs.declared.group_fault.GroupError.{GroupError}
use Rattle.runend_pairs.specs.declared.group_fault.GroupError.TheVariants.{Refused, SumOverflow}
use Rattle.typed_groups.specs.declared.question.Question.{Question}
use Rattle.typed_groups.specs.Questions.{HasAnswer, IsAnswer}

-- a group is refused for memory, or since its rows have no answer
abbrev pub IsGroupRefusal : Question → List (Option Value) → ℕ → GroupError → Type 0
IsGroupRefusal question rows group (Refused error) = error ≡ OutOfMemory
IsGroupRefusal question rows group (SumOverflow place) = (place ≡ group) × ¬ HasAnswer question rows

-- an answer for each of the first groups
pub record AreAnswersTo (question : Question) (ends : List ℕ) (rows : List (Option Value)) (count : ℕ) (answers : List (Option Value)) : Type 0 where
  pub counted : length answers ≡ count
  pub each : (group : ℕ) → group < count → IsAnswer question (group_rows ends rows group) (slice_index_or answers group None)

-- the first group whose rows have none
pub record IsFirstWithout (question : Question) (ends : List ℕ) (rows : List (Option Value)) (group : ℕ) : Type 0 where
  pub within : group < length ends
  pub here : ¬ HasAnswer question (group_rows ends rows group)
  pub before : (earlier : ℕ) → earlier < group → HasAnswer question (group_rows ends rows earlier)

-- groups are refused for memory, or by the first that has no answer
abbrev pub IsEachRefusal : Question → List ℕ → List (Option Value) → GroupError → Type 0
IsEachRefusal question ends rows (Refused error) = error ≡ OutOfMemory
IsEachRefusal question ends rows (SumOverflow group) = IsFirstWithout question ends rows group
