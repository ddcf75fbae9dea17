-- Which groups of rows are refused, by what is asked.
use Rattle.std.proofs.Common.{◌≡◌, ℕ, ℤ, List, Option, None, inl}
use Rattle.column_base.specs.declared.dtype.DType.{DType}
use Rattle.column_base.specs.declared.error.VortexError.{VortexError}
use Rattle.column_core.specs.Value.{Value}
use Rattle.runend_windows.specs.Cover.{IsTightCover}
use Rattle.runend_pairs.specs.GroupAnswers.{answer_of, IsGiven}
use Rattle.runend_pairs.specs.GroupFaults.{large_group, IsFirstLarge, IsFoldRefusal, IsGroupRefusal}
use Rattle.runend_pairs.specs.Groups.{group_rows}
use Rattle.runend_pairs.specs.declared.group_fault.GroupError.{GroupError}
use Rattle.runend_pairs.specs.declared.group_fault.GroupError.TheVariants.{Refused, SumOverflow}
use Rattle.runend_pairs.specs.declared.group_fold.GroupFold.{GroupFold}
use Rattle.runend_pairs.specs.declared.group_fold.GroupFold.TheVariants.{Sum, Rows, Count, Least, Greatest, First, Last}
use Rattle.runend_pairs.proofs.GroupPicked.{each_given}

module _ (dtype : DType) (keys : List (Option Value)) (rows : List (Option ℤ)) (ends : List ℕ) (group_keys : List (Option Value)) (cover : IsTightCover keys ends group_keys) (group : ℕ) where
  -- only a sum is too large
  large_in : (fold : GroupFold) → IsFirstLarge (IsGiven fold dtype) (answer_of fold) ends rows group → large_group fold dtype keys rows group
  large_in Sum first = record { ends = ends; group_keys = group_keys; cover = cover; first = first }
  large_in Rows first = absurd (first.here (each_given (answer_of Rows (group_rows ends rows group))))
  large_in Count first = absurd (first.here (each_given (answer_of Count (group_rows ends rows group))))
  large_in Least first = absurd (first.here (each_given (answer_of Least (group_rows ends rows group))))
  large_in Greatest first = absurd (first.here (each_given (answer_of Greatest (group_rows ends rows group))))
  large_in First first = absurd (first.here (each_given (answer_of First (group_rows ends rows group))))
  large_in Last first = absurd (first.here (each_given (answer_of Last (group_rows ends rows group))))

-- groups that a fold refuses are refused of the keys
pub refused_groups : (fold : GroupFold) (dtype : DType) (keys : List (Option Value)) (rows : List (Option ℤ)) (ends : List ℕ) (group_keys : List (Option Value)) (fault : Option VortexError) (error : GroupError)
    → IsTightCover keys ends group_keys → fault ≡ None → IsFoldRefusal (IsGiven fold dtype) (answer_of fold) ends rows error → IsGroupRefusal fault (large_group fold dtype keys rows) error
refused_groups fold dtype keys rows ends group_keys fault (Refused error) cover none refused = inl refused
refused_groups fold dtype keys rows ends group_keys fault (SumOverflow group) cover none refused = (none, large_in dtype keys rows ends group_keys cover group fold refused)
