-- Why groups are refused, by what refuses their keys, their answers and their columns.
use Rattle.std.proofs.Common.{◌≡◌, ℕ, List, None, Option, Some, length, map, subst, sym}
use Rattle.std.specs.Prelude.{All, Err, IfErr, IsErrAnd, MatchOption, Ok, Result}
use Rattle.std.specs.List.{AllZip}
use Rattle.column_base.specs.declared.error.VortexError.{VortexError}
use Rattle.column_base.specs.declared.error.VortexError.TheVariants.{OutOfMemory}
use Rattle.runend_array.specs.Column.{column_rows}
use Rattle.row_groups.specs.Groups.{AreGroupEnds}
use Rattle.typed_columns.specs.Typed.{TypedForm}
use Rattle.tables.specs.declared.fault.TableError.{TableError}
use Rattle.tables.specs.declared.fault.TableError.TheVariants.{Refused, NameCount, RowCount, RepeatedName, UnknownName, NewNameCount, RepeatedNewName, OtherNames, OtherType, NoKeys, UnsupportedKey, RepeatedAnswer, UnknownColumn, UnsupportedAnswer, SumOverflow}
use Rattle.tables.specs.GroupFaults.{AreAnswers, AreDistinctAnswers, IsAnswersRefusal, IsAskedFault, IsGroupsError, IsGroupsFault, IsServed}
use Rattle.tables.specs.Grouping.{AskedForm, group_names}
use Rattle.tables.specs.KeyFaults.{AreKeys, IsKeyFault}
use Rattle.tables.specs.Tables.{AreDistinct, IsNamed, TableForm}

-- what refuses keys refuses groups
pub by_group_keys : (t : TableForm) (keys : List (List ℕ)) (asked : List AskedForm) (error : TableError) → IsKeyFault t keys error → IsGroupsFault t keys asked error
by_group_keys t keys asked (RepeatedName earlier place) refused = refused
by_group_keys t keys asked (UnknownName place) refused = refused
by_group_keys t keys asked NoKeys refused = refused
by_group_keys t keys asked (UnsupportedKey place) refused = refused
by_group_keys t keys asked (RepeatedAnswer earlier place) refused = absurd refused
by_group_keys t keys asked (UnknownColumn place) refused = absurd refused
by_group_keys t keys asked (UnsupportedAnswer place) refused = absurd refused
by_group_keys t keys asked (SumOverflow place group) refused = absurd refused
by_group_keys t keys asked (NameCount n m) refused = absurd refused
by_group_keys t keys asked (RowCount place found wanted) refused = absurd refused
by_group_keys t keys asked (NewNameCount n m) refused = absurd refused
by_group_keys t keys asked (RepeatedNewName earlier place) refused = absurd refused
by_group_keys t keys asked OtherNames refused = absurd refused
by_group_keys t keys asked (OtherType place) refused = absurd refused
by_group_keys t keys asked (Refused error) refused = absurd refused

-- and so does an answer that is not served
pub by_asked : (t : TableForm) (keys : List (List ℕ)) (asked : List AskedForm) (error : TableError) → AreDistinctAnswers t keys asked → IsAskedFault t asked error → IsGroupsFault t keys asked error
by_asked t keys asked (UnknownColumn place) distinct refused = (distinct, refused)
by_asked t keys asked (UnsupportedAnswer place) distinct refused = (distinct, refused)
by_asked t keys asked (RepeatedName earlier place) distinct refused = absurd refused
by_asked t keys asked (UnknownName place) distinct refused = absurd refused
by_asked t keys asked NoKeys distinct refused = absurd refused
by_asked t keys asked (UnsupportedKey place) distinct refused = absurd refused
by_asked t keys asked (RepeatedAnswer earlier place) distinct refused = absurd refused
by_asked t keys asked (SumOverflow place group) distinct refused = absurd refused
by_asked t keys asked (NameCount n m) distinct refused = absurd refused
by_asked t keys asked (RowCount place found wanted) distinct refused = absurd refused
by_asked t keys asked (NewNameCount n m) distinct refused = absurd refused
by_asked t keys asked (RepeatedNewName earlier place) distinct refused = absurd refused
by_asked t keys asked OtherNames distinct refused = absurd refused
by_asked t keys asked (OtherType place) distinct refused = absurd refused
by_asked t keys asked (Refused error) distinct refused = absurd refused

-- all are, or one is not
pub answers_or_fault : (t : TableForm) (keys : List (List ℕ)) (asked : List AskedForm) (fault : Option TableError) → AreKeys t keys → AreDistinct (group_names keys asked) (length (group_names keys asked))
    → MatchOption fault (All (IsServed t) asked) (IsAskedFault t asked) → MatchOption fault (AreAnswers t keys asked) (IsGroupsFault t keys asked)
answers_or_fault t keys asked None keyed distinct served = record { keyed = keyed; distinct = distinct; served = served }
answers_or_fault t keys asked (Some error) keyed distinct refused = by_asked t keys asked error (record { keyed = keyed; distinct = distinct }) refused

-- a fault is why groups are not made
pub by_groups_fault : (t : TableForm) (keys : List (List ℕ)) (asked : List AskedForm) (error : TableError) → IsGroupsFault t keys asked error → IsGroupsError t keys asked error
by_groups_fault t keys asked (RepeatedName earlier place) refused = refused
by_groups_fault t keys asked (UnknownName place) refused = refused
by_groups_fault t keys asked NoKeys refused = refused
by_groups_fault t keys asked (UnsupportedKey place) refused = refused
by_groups_fault t keys asked (RepeatedAnswer earlier place) refused = refused
by_groups_fault t keys asked (UnknownColumn place) refused = refused
by_groups_fault t keys asked (UnsupportedAnswer place) refused = refused
by_groups_fault t keys asked (SumOverflow place group) refused = absurd refused
by_groups_fault t keys asked (NameCount n m) refused = refused
by_groups_fault t keys asked (RowCount place found wanted) refused = refused
by_groups_fault t keys asked (NewNameCount n m) refused = refused
by_groups_fault t keys asked (RepeatedNewName earlier place) refused = refused
by_groups_fault t keys asked OtherNames refused = refused
by_groups_fault t keys asked (OtherType place) refused = refused
by_groups_fault t keys asked (Refused error) refused = absurd refused

-- and so is the first answer that is refused
pub by_answers : (t : TableForm) (keys : List (List ℕ)) (asked : List AskedForm) (columns : List TypedForm) (ends : List ℕ) (error : TableError) → AreAnswers t keys asked → AllZip (IsNamed t) keys columns
    → AreGroupEnds (map (λ (c : TypedForm). column_rows c.column) columns) t.count ends → IsAnswersRefusal t ends asked error → IsGroupsError t keys asked error
by_answers t keys asked columns ends (SumOverflow place group) allowed named covered refused = (allowed, record { columns = columns; named = named; ends = ends; covered = covered; first = refused })
by_answers t keys asked columns ends (Refused error) allowed named covered refused = (refused, allowed)
by_answers t keys asked columns ends (RepeatedName earlier place) allowed named covered refused = absurd refused
by_answers t keys asked columns ends (UnknownName place) allowed named covered refused = absurd refused
by_answers t keys asked columns ends NoKeys allowed named covered refused = absurd refused
by_answers t keys asked columns ends (UnsupportedKey place) allowed named covered refused = absurd refused
by_answers t keys asked columns ends (RepeatedAnswer earlier place) allowed named covered refused = absurd refused
by_answers t keys asked columns ends (UnknownColumn place) allowed named covered refused = absurd refused
by_answers t keys asked columns ends (UnsupportedAnswer place) allowed named covered refused = absurd refused
by_answers t keys asked columns ends (NameCount n m) allowed named covered refused = absurd refused
by_answers t keys asked columns ends (RowCount place found wanted) allowed named covered refused = absurd refused
by_answers t keys asked columns ends (NewNameCount n m) allowed named covered refused = absurd refused
by_answers t keys asked columns ends (RepeatedNewName earlier place) allowed named covered refused = absurd refused
by_answers t keys asked columns ends OtherNames allowed named covered refused = absurd refused
by_answers t keys asked columns ends (OtherType place) allowed named covered refused = absurd refused

-- where memory was refused
pub short_of_groups : {T : Type 0} (result : Result T TableError) (t : TableForm) (keys : List (List ℕ)) (asked : List AskedForm) (error : VortexError) → IsErrAnd result (λ given. given ≡ Refused error) → error ≡ OutOfMemory
    → AreAnswers t keys asked → IfErr result (IsGroupsError t keys asked)
short_of_groups (Ok value) t keys asked error given short allowed = absurd given
short_of_groups (Err other) t keys asked error given short allowed = subst (IsGroupsError t keys asked) (sym given) (short, allowed)

-- a refusal that is passed on
pub passed_on_groups : {T : Type 0} (result : Result T TableError) (t : TableForm) (keys : List (List ℕ)) (asked : List AskedForm) (error : TableError) → IsErrAnd result (λ given. given ≡ error) → IsGroupsError t keys asked error
    → IfErr result (IsGroupsError t keys asked)
passed_on_groups (Ok value) t keys asked error given refused = absurd given
passed_on_groups (Err other) t keys asked error given refused = subst (IsGroupsError t keys asked) (sym given) refused
