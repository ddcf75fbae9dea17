-- Why answers are refused, whichever way they are made.
use Rattle.std.proofs.Common.{◌≡◌, ◌∙◌, ℕ, List, Option, Some, map, refl, subst, sym}
use Rattle.std.proofs.lemmas.Option.{same_Some}
use Rattle.column_base.specs.declared.dtype.DType.{DType}
use Rattle.column_base.specs.declared.error.VortexError.TheVariants.{OutOfMemory}
use Rattle.column_core.specs.Value.{Value}
use Rattle.column_sums.specs.SumAnswer.{number_in}
use Rattle.runend_pairs.specs.GroupAnswers.{IsGiven, answer_of}
use Rattle.runend_pairs.specs.GroupFaults.{IsFoldRefusal}
use Rattle.runend_pairs.specs.declared.group_fault.GroupError.{GroupError}
use Rattle.runend_pairs.specs.declared.group_fault.GroupError.TheVariants.{Refused, SumOverflow}
use Rattle.runend_pairs.specs.declared.group_fold.GroupFold.{GroupFold}
use Rattle.typed_columns.specs.Typed.{TypedForm}
use Rattle.runend_array.specs.Column.{column_dtype, column_rows}
use Rattle.typed_groups.specs.declared.answering.Answering.{Answering}
use Rattle.typed_groups.specs.declared.answering.Answering.TheVariants.{Numbers, Each}
use Rattle.typed_groups.specs.declared.question.Question.{Question}
use Rattle.typed_groups.specs.Answering.{answering_of}
use Rattle.typed_groups.specs.Answers.{IsFoldedRefusal, IsLargeBy, IsLargeGroup, IsRefusalBy}
use Rattle.typed_groups.specs.Group.{IsEachRefusal}

-- for memory
pub refused_short : (by : Answering) (asks : GroupFold) (t : DType) (ends : List ℕ) (rows : List (Option Value)) (error : GroupError) → error ≡ Refused OutOfMemory → IsRefusalBy by asks t ends rows error
refused_short by asks t ends rows error short = subst (IsRefusalBy by asks t ends rows) (sym short) refl

-- as folds are
pub refused_fold : (asks : GroupFold) (t : DType) (ends : List ℕ) (rows : List (Option Value)) (error : GroupError) → IsFoldRefusal (IsGiven asks t) (answer_of asks) ends (map number_in rows) error → IsRefusalBy Numbers asks t ends rows error
refused_fold asks t ends rows (Refused error) refused = refused
refused_fold asks t ends rows (SumOverflow group) refused = refused

-- as groups are that are asked one by one
pub refused_each : (question : Question) (asks : GroupFold) (t : DType) (ends : List ℕ) (rows : List (Option Value)) (error : GroupError) → IsEachRefusal question ends rows error → IsRefusalBy (Each question) asks t ends rows error
refused_each question asks t ends rows (Refused error) refused = refused
refused_each question asks t ends rows (SumOverflow group) refused = refused

-- of a column that is answered so
pub refused_answer : (by : Answering) (asks : GroupFold) (ends : List ℕ) (source : TypedForm) (error : GroupError) → answering_of asks source ≡ Some by → IsRefusalBy by asks (column_dtype source.column) ends (column_rows source.column) error → IsFoldedRefusal ends asks source error
refused_answer by asks ends source (Refused error) answered refused = refused
refused_answer by asks ends source (SumOverflow group) answered refused = record { by = by; answered = answered; large = refused }

-- no group is too large where none is in the way in which the column is answered
pub none_large_group : (by : Answering) (asks : GroupFold) (ends : List ℕ) (source : TypedForm) → answering_of asks source ≡ Some by → ((group : ℕ) → ¬ IsLargeBy by asks (column_dtype source.column) ends (column_rows source.column) group) → (group : ℕ) → ¬ IsLargeGroup ends asks source group
none_large_group by asks ends source answered fits group large =
    let same : large.by ≡ by = same_Some large.by by (sym large.answered ∙ answered) in
    fits group (subst (λ (b : Answering). IsLargeBy b asks (column_dtype source.column) ends (column_rows source.column) group) same large.large)
