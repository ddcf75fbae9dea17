-- The answers of groups of rows of a column, and why they are refused.
use Rattle.std.specs.Prelude.{◌≡◌, ℕ, List, [], Option, Some, length, map}
use Rattle.column_base.specs.declared.dtype.DType.{DType}
use Rattle.column_base.specs.declared.dtype.DType.TheVariants as column
use Rattle.column_base.specs.declared.dtype.Nullability.TheVariants.{Nullable}
use Rattle.column_base.specs.declared.dtype.PType.TheVariants.{U64}
use Rattle.column_base.specs.declared.error.VortexError.TheVariants.{OutOfMemory}
use Rattle.column_core.specs.Value.{Value}
use Rattle.column_sums.specs.SumAnswer.{number_in}
use Rattle.float_bits.specs.declared.formats.FloatFormat.TheVariants.{F64}
use Rattle.logical_types.specs.Formats.{float_format}
use Rattle.runend_array.specs.Column.{column_dtype, column_rows}
use Rattle.runend_pairs.specs.GroupAnswers.{IsGiven, answer_of, answer_ptype, row_count_of}
use Rattle.runend_pairs.specs.GroupFaults.{IsFirstLarge}
use Rattle.runend_pairs.specs.Groups.{AreGroupAnswers}
use Rattle.runend_pairs.specs.declared.group_fault.GroupError.{GroupError}
use Rattle.runend_pairs.specs.declared.group_fault.GroupError.TheVariants.{Refused, SumOverflow}
use Rattle.runend_pairs.specs.declared.group_fold.GroupFold.{GroupFold}
use Rattle.runend_pairs.specs.declared.group_fold.GroupFold.TheVariants as fold
use Rattle.typed_columns.specs.Typed.{TypedForm}
use Rattle.typed_kernels.specs.Served.{served}
use Rattle.typed_kernels.specs.declared.meanings.Served.{Served}
use Rattle.typed_kernels.specs.declared.meanings.Served.TheVariants as served_as
use Rattle.typed_groups.specs.declared.answering.Answering.{Answering}
use Rattle.typed_groups.specs.declared.answering.Answering.TheVariants.{Rows, Numbers, Each}
use Rattle.typed_groups.specs.Answering.{answering_of}
use Rattle.typed_groups.specs.Group.{AreAnswersTo, IsFirstWithout}
use Rattle.typed_groups.specs.Questions.{question_dtype}

-- what the groups of rows are answered in this way
abbrev pub AreAnswersBy : Answering → GroupFold → List ℕ → List (Option Value) → List (Option Value) → Type 0
AreAnswersBy Rows asks ends rows answers = AreGroupAnswers row_count_of ends (map number_in rows) (map number_in answers)
AreAnswersBy Numbers asks ends rows answers = AreGroupAnswers (answer_of asks) ends (map number_in rows) (map number_in answers)
AreAnswersBy (Each question) asks ends rows answers = AreAnswersTo question ends rows (length ends) answers

-- the type of the answers
abbrev pub answer_dtype : Answering → GroupFold → DType → DType
answer_dtype Rows asks t = column.Primitive U64 Nullable
answer_dtype Numbers asks t = column.Primitive (answer_ptype asks t) Nullable
answer_dtype (Each question) asks t = question_dtype question t

-- the first group whose sum does not fit
abbrev pub IsLargeBy : Answering → GroupFold → DType → List ℕ → List (Option Value) → ℕ → Type 0
IsLargeBy Rows asks t ends rows group = ⊥
IsLargeBy Numbers asks t ends rows group = IsFirstLarge (IsGiven asks t) (answer_of asks) ends (map number_in rows) group
IsLargeBy (Each question) asks t ends rows group = IsFirstWithout question ends rows group

-- answers are refused for memory, or by such a group
abbrev pub IsRefusalBy : Answering → GroupFold → DType → List ℕ → List (Option Value) → GroupError → Type 0
IsRefusalBy by asks t ends rows (Refused error) = error ≡ OutOfMemory
IsRefusalBy by asks t ends rows (SumOverflow group) = IsLargeBy by asks t ends rows group

-- the format of a sum: that of lengths of time, of floats that of 64 bits, else none
abbrev pub sum_format : Served → List ℕ → List ℕ
sum_format served_as.Stored format = []
sum_format (served_as.Floats f) format = float_format F64
sum_format (served_as.Times t) format = format

-- the format of an answer: a value of the column has that of the column, and a number of rows or values none
abbrev pub answer_format : GroupFold → Served → List ℕ → List ℕ
answer_format fold.Sum s format = sum_format s format
answer_format fold.Rows s format = []
answer_format fold.Count s format = []
answer_format fold.Least s format = format
answer_format fold.Greatest s format = format
answer_format fold.First s format = format
answer_format fold.Last s format = format

-- the answers of groups of rows of a column that end before these rows
pub record IsFolded (ends : List ℕ) (asks : GroupFold) (source answer : TypedForm) : Type 0 where
  pub by : Answering
  pub answered : answering_of asks source ≡ Some by
  pub answers : AreAnswersBy by asks ends (column_rows source.column) (column_rows answer.column)
  pub counted : length (column_rows answer.column) ≡ length ends
  pub typed : column_dtype answer.column ≡ answer_dtype by asks (column_dtype source.column)
  pub format : answer.format ≡ answer_format asks (served source) source.format

-- the first of them whose sum does not fit
pub record IsLargeGroup (ends : List ℕ) (asks : GroupFold) (source : TypedForm) (group : ℕ) : Type 0 where
  pub by : Answering
  pub answered : answering_of asks source ≡ Some by
  pub large : IsLargeBy by asks (column_dtype source.column) ends (column_rows source.column) group

-- they are refused for memory, or by it
abbrev pub IsFoldedRefusal : List ℕ → GroupFold → TypedForm → GroupError → Type 0
IsFoldedRefusal ends asks source (Refused error) = error ≡ OutOfMemory
IsFoldedRefusal ends asks source (SumOverflow group) = IsLargeGroup ends asks source group
