-- Why groups are refused.
use Rattle.std.specs.Prelude.{◌≡◌, ◌⊎◌, ℕ, ℤ, ◌<◌, List, Option, Some, None, if◌then◌else◌, length}
use Rattle.std.specs.Option.{option_or}
use Rattle.column_base.specs.declared.dtype.DType.{DType}
use Rattle.column_base.specs.declared.error.VortexError.{VortexError}
use Rattle.column_base.specs.declared.error.VortexError.TheVariants.{OutOfMemory, Unsupported}
use Rattle.column_core.specs.Kinds.{is_numbers, list_fault}
use Rattle.column_core.specs.Value.{Value}
use Rattle.column_ops.specs.CompareFault.{length_fault}
use Rattle.runend_windows.specs.Cover.{IsTightCover}
use Rattle.column_base.specs.Types.{HasNumber}
use Rattle.runend_pairs.specs.Groups.{group_rows, IsNumberIn}
use Rattle.runend_pairs.specs.Sums.{sum_of, summed_ptype}
use Rattle.runend_pairs.specs.declared.group_fold.GroupFold.{GroupFold}
use Rattle.runend_pairs.specs.declared.group_fold.GroupFold.TheVariants.{Sum}
use Rattle.runend_pairs.specs.declared.group_fault.GroupError.{GroupError}
use Rattle.runend_pairs.specs.declared.group_fault.GroupError.TheVariants.{Refused, SumOverflow}

-- values that are not integers
abbrev pub numbers_fault : DType → Option VortexError
numbers_fault t = if is_numbers t then None else Some Unsupported

-- why keys and values of these types and numbers of rows are refused: unless keys are not lists, values are integers,
-- and there are as many of either
abbrev pub groups_fault : DType → DType → ℕ → ℕ → Option VortexError
groups_fault keys values key_count value_count = option_or (list_fault keys) (option_or (numbers_fault values) (length_fault key_count value_count))

-- the first group whose answer a type does not have
pub record IsFirstLarge {X : Type 0} (has : ℤ → Type 0) (answer_of : List X → Option ℤ) (ends : List ℕ) (rows : List X) (group : ℕ) : Type 0 where
  pub within : group < length ends
  pub here : ¬ IsNumberIn has (answer_of (group_rows ends rows group))
  pub before : (earlier : ℕ) → earlier < group → IsNumberIn has (answer_of (group_rows ends rows earlier))

-- groups that end before these rows are refused: for memory, or with the first that has no answer
abbrev pub IsFoldRefusal : {X : Type 0} → (ℤ → Type 0) → (List X → Option ℤ) → List ℕ → List X → GroupError → Type 0
IsFoldRefusal has answer_of ends rows (Refused error) = error ≡ OutOfMemory
IsFoldRefusal has answer_of ends rows (SumOverflow group) = IsFirstLarge has answer_of ends rows group

-- the first group of equal neighbouring keys whose answer a type does not have
pub record IsFirstLargeGroup (has : ℤ → Type 0) (answer_of : List (Option ℤ) → Option ℤ) (keys : List (Option Value)) (rows : List (Option ℤ)) (group : ℕ) : Type 0 where
  pub ends : List ℕ
  pub group_keys : List (Option Value)
  pub cover : IsTightCover keys ends group_keys
  pub first : IsFirstLarge has answer_of ends rows group

-- the group for which a fold has no answer: only a sum can be too large
abbrev pub large_group : GroupFold → DType → List (Option Value) → List (Option ℤ) → ℕ → Type 0
large_group Sum t keys rows group = IsFirstLargeGroup (HasNumber (summed_ptype t)) sum_of keys rows group
large_group fold t keys rows group = ⊥

-- refused by the fault where there is one, else by the first group without an answer where there is one, and else only
-- for memory
abbrev pub IsGroupRefusal : Option VortexError → (ℕ → Type 0) → GroupError → Type 0
IsGroupRefusal fault large (Refused error) = (error ≡ OutOfMemory) ⊎ (fault ≡ Some error)
IsGroupRefusal fault large (SumOverflow group) = (fault ≡ None) × large group
