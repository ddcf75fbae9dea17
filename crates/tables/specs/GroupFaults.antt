-- Why rows are not grouped.
use Rattle.std.specs.Prelude.{◌≡◌, ◌+◌, ◌<◌, ℕ, All, List, Some, length, map, slice_get}
use Rattle.std.specs.List.{AllZip}
use Rattle.column_base.specs.declared.error.VortexError.TheVariants.{OutOfMemory}
use Rattle.runend_array.specs.Column.{column_rows}
use Rattle.runend_pairs.specs.declared.group_fault.GroupError.{GroupError}
use Rattle.runend_pairs.specs.declared.group_fault.GroupError.TheVariants as groups
use Rattle.row_groups.specs.Groups.{AreGroupEnds}
use Rattle.tables.specs.declared.fault.TableError.{TableError}
use Rattle.tables.specs.declared.fault.TableError.TheVariants.{Refused, RepeatedAnswer, SumOverflow, UnknownColumn, UnsupportedAnswer}
use Rattle.tables.specs.Grouping.{AskedForm, group_names}
use Rattle.tables.specs.KeyFaults.{AreKeys, IsKeyFault}
use Rattle.tables.specs.TableFaults.{IsFirstRepeated}
use Rattle.tables.specs.Tables.{AreDistinct, IsNamed, IsUnknown, TableForm}
use Rattle.typed_columns.specs.Typed.{TypedForm}
use Rattle.typed_groups.specs.Answering.{IsAnswered}
use Rattle.typed_groups.specs.Answers.{IsLargeGroup}

-- an answer of a column that is there, and whose rows have it
pub record IsServed (t : TableForm) (asked : AskedForm) : Type 0 where
  pub column : TypedForm
  pub named : IsNamed t asked.column column
  pub answered : IsAnswered asked.fold column

-- the first answer that is not served
pub record IsFirstUnserved (t : TableForm) (asked : List AskedForm) (place : ℕ) (asks : AskedForm) : Type 0 where
  pub there : slice_get asked place ≡ Some asks
  pub before : (k : ℕ) (other : AskedForm) → k < place → slice_get asked k ≡ Some other → IsServed t other

-- since its column is not there
pub record IsFirstWithoutColumn (t : TableForm) (asked : List AskedForm) (place : ℕ) : Type 0 where
  pub asks : AskedForm
  pub first : IsFirstUnserved t asked place asks
  pub unknown : IsUnknown t.names asks.column

-- since the rows of its column have none
pub record IsFirstWithoutAnswer (t : TableForm) (asked : List AskedForm) (place : ℕ) : Type 0 where
  pub asks : AskedForm
  pub first : IsFirstUnserved t asked place asks
  pub column : TypedForm
  pub named : IsNamed t asks.column column
  pub unanswered : ¬ IsAnswered asks.fold column

-- what may be asked of groups: keys, answers under names of their own, and each served
pub record AreAnswers (t : TableForm) (keys : List (List ℕ)) (asked : List AskedForm) : Type 0 where
  pub keyed : AreKeys t keys
  pub distinct : AreDistinct (group_names keys asked) (length (group_names keys asked))
  pub served : All (IsServed t) asked

-- an answer that is not served
abbrev pub IsAskedFault : TableForm → List AskedForm → TableError → Type 0
IsAskedFault t asked (UnknownColumn place) = IsFirstWithoutColumn t asked place
IsAskedFault t asked (UnsupportedAnswer place) = IsFirstWithoutAnswer t asked place
IsAskedFault t asked error = ⊥

-- keys, and names of answers that are distinct
pub record AreDistinctAnswers (t : TableForm) (keys : List (List ℕ)) (asked : List AskedForm) : Type 0 where
  pub keyed : AreKeys t keys
  pub distinct : AreDistinct (group_names keys asked) (length (group_names keys asked))

-- why groups are not made: the first of these that holds
abbrev pub IsGroupsFault : TableForm → List (List ℕ) → List AskedForm → TableError → Type 0
IsGroupsFault t keys asked (RepeatedAnswer earlier place) = AreKeys t keys × IsFirstRepeated (group_names keys asked) earlier (length keys + place)
IsGroupsFault t keys asked (UnknownColumn place) = AreDistinctAnswers t keys asked × IsFirstWithoutColumn t asked place
IsGroupsFault t keys asked (UnsupportedAnswer place) = AreDistinctAnswers t keys asked × IsFirstWithoutAnswer t asked place
IsGroupsFault t keys asked error = IsKeyFault t keys error

-- the first of the groups that end there whose sum does not fit
pub record IsLargeSum (t : TableForm) (ends : List ℕ) (asks : AskedForm) (group : ℕ) : Type 0 where
  pub column : TypedForm
  pub named : IsNamed t asks.column column
  pub first : IsLargeGroup ends asks.fold column group

-- of the first answer that has one
pub record IsFirstLargeSum (t : TableForm) (ends : List ℕ) (asked : List AskedForm) (place group : ℕ) : Type 0 where
  pub asks : AskedForm
  pub there : slice_get asked place ≡ Some asks
  pub large : IsLargeSum t ends asks group
  pub before : (k : ℕ) (other : AskedForm) → k < place → slice_get asked k ≡ Some other → (earlier : ℕ) → ¬ IsLargeSum t ends other earlier

-- of the groups of neighbouring rows that are equal in the keys
pub record IsLargeGroupSum (t : TableForm) (keys : List (List ℕ)) (asked : List AskedForm) (place group : ℕ) : Type 0 where
  pub columns : List TypedForm
  pub named : AllZip (IsNamed t) keys columns
  pub ends : List ℕ
  pub covered : AreGroupEnds (map (λ c. column_rows c.column) columns) t.count ends
  pub first : IsFirstLargeSum t ends asked place group

-- why one answer of groups that end there is refused
abbrev pub IsAnswerRefusal : TableForm → List ℕ → AskedForm → GroupError → Type 0
IsAnswerRefusal t ends asks (groups.SumOverflow group) = IsLargeSum t ends asks group
IsAnswerRefusal t ends asks (groups.Refused error) = error ≡ OutOfMemory

-- the error of an answer at a place
abbrev pub IsErrorOf : ℕ → GroupError → TableError → Type 0
IsErrorOf place (groups.SumOverflow group) made = made ≡ SumOverflow place group
IsErrorOf place (groups.Refused error) made = made ≡ Refused error

-- why answers of groups that end there are refused
abbrev pub IsAnswersRefusal : TableForm → List ℕ → List AskedForm → TableError → Type 0
IsAnswersRefusal t ends asked (SumOverflow place group) = IsFirstLargeSum t ends asked place group
IsAnswersRefusal t ends asked (Refused error) = error ≡ OutOfMemory
IsAnswersRefusal t ends asked error = ⊥

-- why groups are not made: by a fault, else by the first sum that does not fit, or for memory
abbrev pub IsGroupsError : TableForm → List (List ℕ) → List AskedForm → TableError → Type 0
IsGroupsError t keys asked (SumOverflow place group) = AreAnswers t keys asked × IsLargeGroupSum t keys asked place group
IsGroupsError t keys asked (Refused error) = (error ≡ OutOfMemory) × AreAnswers t keys asked
IsGroupsError t keys asked error = IsGroupsFault t keys asked error
