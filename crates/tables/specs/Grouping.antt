-- Groups of rows that are equal in several columns, and what is answered of each.
use Rattle.std.specs.Prelude.{◌≡◌, ◌++◌, ℕ, List, length, map, drop, take}
use Rattle.std.specs.List.{AllZip}
use Rattle.std.specs.String.{string_bytes}
use Rattle.runend_array.specs.Column.{column_dtype, column_rows}
use Rattle.runend_encode.specs.Starts.{rows_at}
use Rattle.runend_pairs.specs.declared.group_fold.GroupFold.{GroupFold}
use Rattle.runend_windows.specs.Starts.{starts_from}
use Rattle.row_groups.specs.Groups.{AreGroupEnds}
use Rattle.tables.specs.declared.groups.Asked.{Asked}
use Rattle.tables.specs.Tables.{IsNamed, TableForm}
use Rattle.typed_columns.specs.Typed.{TypedForm}
use Rattle.typed_groups.specs.Answers.{IsFolded}

-- what is asked: the name of the answer, that of the column, and what is answered of its rows
pub record AskedForm : Type 0 where
  pub name : List ℕ
  pub column : List ℕ
  pub fold : GroupFold

-- it as it is held
abbrev pub asked_of : {A : Type 0} → Asked A → AskedForm
asked_of asked = record { name = string_bytes asked.name; column = string_bytes asked.column; fold = asked.fold }

-- the names of keys and of answers
abbrev pub group_names : List (List ℕ) → List AskedForm → List (List ℕ)
group_names keys asked = keys ++ map (λ a. a.name) asked

-- an answer of the column of this name
pub record IsAnswerColumn (before : TableForm) (ends : List ℕ) (asked : AskedForm) (answer : TypedForm) : Type 0 where
  pub source : TypedForm
  pub named : IsNamed before asked.column source
  pub folded : IsFolded ends asked.fold source answer

-- the rows of a column at which groups begin
pub record IsHeadColumn (ends : List ℕ) (source head : TypedForm) : Type 0 where
  pub rows : column_rows head.column ≡ rows_at (column_rows source.column) (starts_from 0 ends)
  pub typed : column_dtype head.column ≡ column_dtype source.column
  pub format : head.format ≡ source.format

-- the columns of groups of rows that are equal in the columns of these names and are neighbours, which end before these
-- rows: the keys, then the answers
pub record AreColumnsOf (before : TableForm) (keys : List (List ℕ)) (asked : List AskedForm) (ends : List ℕ) (made : List TypedForm) : Type 0 where
  pub columns : List TypedForm
  pub named : AllZip (IsNamed before) keys columns
  pub covered : AreGroupEnds (map (λ c. column_rows c.column) columns) before.count ends
  pub heads : AllZip (IsHeadColumn ends) columns (take (length keys) made)
  pub answers : AllZip (IsAnswerColumn before ends) asked (drop (length keys) made)

-- they have a row for each such group
pub record AreGroups (before : TableForm) (keys : List (List ℕ)) (asked : List AskedForm) (made : List TypedForm) (count : ℕ) : Type 0 where
  pub ends : List ℕ
  pub columns : AreColumnsOf before keys asked ends made
  pub counted : count ≡ length ends

-- the table of these columns, under the names of keys and of answers
pub record AreGroupsOf (before : TableForm) (keys : List (List ℕ)) (asked : List AskedForm) (after : TableForm) : Type 0 where
  pub groups : AreGroups before keys asked after.columns after.count
  pub names : after.names ≡ group_names keys asked
