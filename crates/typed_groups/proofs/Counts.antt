-- Numbers of rows of groups.
use Rattle.std.proofs.Common.{◌≡◌, ◌∙◌, ◌-◌, ℕ, ℤ, pos, List, Option, Some, ap, drop, length, length-drop, length-take, min, slice_index, sym}
use Rattle.std.proofs.lemmas.List.{length-replicate}
use Rattle.column_base.specs.declared.dtype.DType.{DType}
use Rattle.column_base.specs.declared.error.VortexError.TheVariants.{OutOfMemory}
use Rattle.column_core.specs.Value.{Number, Single}
use Rattle.runend_array.specs.Column.{column_rows}
use Rattle.runend_pairs.specs.GroupAnswers.{IsGiven, answer_of, row_count_of}
use Rattle.runend_pairs.specs.GroupFaults.{IsFoldRefusal}
use Rattle.runend_pairs.specs.Groups.{AreGroupAnswers, first_row, group_rows}
use Rattle.runend_pairs.specs.declared.group_fault.GroupError.{GroupError}
use Rattle.runend_pairs.specs.declared.group_fault.GroupError.TheVariants as groups
use Rattle.runend_pairs.specs.declared.group_fold.GroupFold.TheVariants as fold
use Rattle.typed_groups.specs.Zeros.{zeros_of}

-- a group has as many rows of one column as of another
group_long : (ends : List ℕ) (xs ys : List (Option ℤ)) (group : ℕ) → length xs ≡ length ys → length (group_rows ends xs group) ≡ length (group_rows ends ys group)
group_long ends xs ys group same =
    let start = first_row ends group in
    let count = slice_index ends group - start in
    length-take count (drop start xs) ∙ ap (min count) (length-drop start xs ∙ ap (λ (n : ℕ). n - start) same ∙ sym (length-drop start ys)) ∙ sym (length-take count (drop start ys))

pub counts_alike : (ends : List ℕ) (xs ys answers : List (Option ℤ)) → length xs ≡ length ys → AreGroupAnswers row_count_of ends xs answers → AreGroupAnswers row_count_of ends ys answers
counts_alike ends xs ys answers same made = record {
  counted = made.counted;
  each = λ group within. made.each group within ∙ ap (λ (n : ℕ). Some (Some (pos n))) (group_long ends xs ys group same);
}

pub zeros_long : (count : ℕ) → length (column_rows (zeros_of count)) ≡ count
zeros_long count = length-replicate count (Some (Single (Number (pos 0))))

-- they are refused only for memory
pub count_refused : (t : DType) (ends : List ℕ) (values : List (Option ℤ)) (error : GroupError) → IsFoldRefusal (IsGiven fold.Rows t) (answer_of fold.Rows) ends values error → error ≡ groups.Refused OutOfMemory
count_refused t ends values (groups.Refused error) refused = ap groups.Refused refused
count_refused t ends values (groups.SumOverflow group) refused = absurd (refused.here tt)
