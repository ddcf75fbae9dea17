-- The columns of groups, put together from those of the keys and of the answers.
use Rattle.std.proofs.Common.{◌≡◌, ◌∙◌, ◌+◌, ◌^◌, ◌<◌, ◌≤◌, ◌++◌, ℕ, List, [], ◌∷◌, Option, ap, arith, drop, get_or, length, length-drop, length-take, map, subst, sym, take}
use Rattle.std.specs.Prelude.{All, String}
use Rattle.std.specs.List.{AllZip}
use Rattle.std.specs.String.{string_bytes}
use Rattle.std.proofs.lemmas.List.{drop-append-le, drop-map, length-append, length-map, drop_all, take-append-drop, take-append-le, take-map, take_all}
use Rattle.std.proofs.lemmas.List.Elements.{All-append, All-cons, All-nil}
use Rattle.std.proofs.lemmas.Option.{get_or_from_slice_get}
use Rattle.column_core.specs.Value.{Value}
use Rattle.runend_array.specs.Array.{rows}
use Rattle.runend_array.specs.Column.{column_rows}
use Rattle.runend_windows.specs.Starts.{starts_from}
use Rattle.row_groups.specs.Groups.{AreGroupEnds}
use Rattle.row_groups.proofs.Changes.{length-starts}
use Rattle.typed_columns.specs.declared.typed_column.TypedColumn.{TypedColumn}
use Rattle.typed_columns.specs.Typed.{TypedForm, typed_of}
use Rattle.tables.specs.declared.groups.Asked.{Asked}
use Rattle.tables.specs.GroupFaults.{AreAnswers, IsServed}
use Rattle.tables.specs.Grouping.{AreColumnsOf, AreGroups, AskedForm, IsAnswerColumn, IsHeadColumn, asked_of, group_names}
use Rattle.tables.specs.Tables.{AreDistinct, AreEven, IsNamed, IsTable, TableForm, table_with}
use Rattle.tables.proofs.Keyed.{rows_held}
use Rattle.tables.proofs.NameLists.{formats_utf8, mapped_at, texts_utf8}
use Rattle.tables.proofs.Selections.{zip_long, zipped_more}

-- an answer is served
pub served_at : {A : Type 0} (t : TableForm) (asked : List (Asked A)) (place : ℕ) (asks : Asked A) → All (IsServed t) (map asked_of asked) → place < length asked → asks ≡ get_or asked place asks → IsServed t (asked_of asks)
served_at t asked place asks served within here =
    let at = get_or_from_slice_get (map asked_of asked) place (asked_of asks) (asked_of asks) (mapped_at asked_of asked place asks within here) in
    subst (IsServed t) at (served place (asked_of asks) (omega (arith, within, length-map asked asked_of)))

-- ---- columns that are put after others

-- the heads, and after them the answers so far
pub record AreBehind {A : Type 0} (t : TableForm) (ends : List ℕ) (asked : List (Asked A)) (heads made : List (TypedColumn A)) (place : ℕ) : Type 0 where
  pub heads_stay : take (length heads) made ≡ heads
  pub answers : AllZip (IsAnswerColumn t ends) (map asked_of (take place asked)) (map typed_of (drop (length heads) made))

pub none_behind : {A : Type 0} (t : TableForm) (ends : List ℕ) (asked : List (Asked A)) (heads : List (TypedColumn A)) → AreBehind t ends asked heads heads 0
none_behind t ends asked heads = record {
  heads_stay = take_all (length heads) heads (omega arith);
  answers = subst (λ (l : List (TypedColumn _)). AllZip (IsAnswerColumn t ends) [] (map typed_of l)) (sym (drop_all (length heads) heads (omega arith))) tt;
}

pub behind_more : {A : Type 0} (t : TableForm) (ends : List ℕ) (asked : List (Asked A)) (heads made next : List (TypedColumn A)) (place : ℕ) (asks : Asked A) (column : TypedColumn A) → place < length asked → asks ≡ get_or asked place asks
    → IsAnswerColumn t ends (asked_of asks) (typed_of column) → AreBehind t ends asked heads made place → next ≡ made ++ column ∷ [] → AreBehind t ends asked heads next (place + 1)
behind_more {A} t ends asked heads made next place asks column within here answer before pushed =
    let n = length heads in
    let long : n ≤ length made = omega (arith, ap length before.heads_stay, length-take n made) in
    let rest : drop n next ≡ drop n made ++ column ∷ [] = ap (drop n) pushed ∙ drop-append-le n made (column ∷ []) long in
    record {
      heads_stay = ap (take n) pushed ∙ take-append-le n made (column ∷ []) long ∙ before.heads_stay;
      answers = zipped_more (IsAnswerColumn t ends) asked_of typed_of asked (drop n made) (drop n next) place asks column within here answer before.answers rest;
    }

pub all_behind : {A : Type 0} (t : TableForm) (ends : List ℕ) (asked : List (Asked A)) (heads made : List (TypedColumn A)) (place : ℕ) → length asked ≤ place → AreBehind t ends asked heads made place
    → AllZip (IsAnswerColumn t ends) (map asked_of asked) (map typed_of (drop (length heads) made))
all_behind {A} t ends asked heads made place all before =
    subst (λ (l : List (Asked A)). AllZip (IsAnswerColumn t ends) (map asked_of l) (map typed_of (drop (length heads) made))) (take_all place asked all) before.answers

-- ---- the columns of groups

-- there is a head for each key
pub heads_long : {A : Type 0} (ends : List ℕ) (columns heads : List (TypedColumn A)) → AllZip (IsHeadColumn ends) (map typed_of columns) (map typed_of heads) → length heads ≡ length columns
heads_long ends columns heads begun =
    let paired = zip_long (IsHeadColumn ends) (map typed_of columns) (map typed_of heads) begun in
    omega (arith, paired, length-map heads typed_of, length-map columns typed_of)

pub heads_first : {A : Type 0} (ends : List ℕ) (columns heads made : List (TypedColumn A)) → AllZip (IsHeadColumn ends) (map typed_of columns) (map typed_of heads) → take (length heads) made ≡ heads
    → AllZip (IsHeadColumn ends) (map typed_of columns) (map typed_of (take (length columns) made))
heads_first {A} ends columns heads made begun stay =
    let same = heads_long ends columns heads begun in
    subst (λ (l : List (TypedColumn A)). AllZip (IsHeadColumn ends) (map typed_of columns) (map typed_of l)) (sym stay ∙ ap (λ (n : ℕ). take n made) same) begun

pub columns_of_groups : {A : Type 0} (t : TableForm) (keys : List (List ℕ)) (asked : List AskedForm) (ends : List ℕ) (columns made : List (TypedColumn A)) → AllZip (IsNamed t) keys (map typed_of columns)
    → AreGroupEnds (map (λ (column : TypedColumn A). rows column.array) columns) t.count ends → AllZip (IsHeadColumn ends) (map typed_of columns) (map typed_of (take (length columns) made))
    → AllZip (IsAnswerColumn t ends) asked (map typed_of (drop (length columns) made)) → AreColumnsOf t keys asked ends (map typed_of made)
columns_of_groups {A} t keys asked ends columns made named covered begun answers =
    let n = length columns in
    let paired = zip_long (IsNamed t) keys (map typed_of columns) named in
    let long : n ≡ length keys = omega (arith, paired, length-map columns typed_of) in
    let front : map typed_of (take n made) ≡ take (length keys) (map typed_of made) = sym (take-map typed_of n made) ∙ ap (λ (m : ℕ). take m (map typed_of made)) long in
    let back : map typed_of (drop n made) ≡ drop (length keys) (map typed_of made) = sym (drop-map typed_of n made) ∙ ap (λ (m : ℕ). drop m (map typed_of made)) long in
    record {
      columns = map typed_of columns;
      named = named;
      covered = subst (λ (all : List (List (Option Value))). AreGroupEnds all t.count ends) (sym (rows_held columns)) covered;
      heads = subst (AllZip (IsHeadColumn ends) (map typed_of columns)) front begun;
      answers = subst (AllZip (IsAnswerColumn t ends) asked) back answers;
    }

-- each has a row for each group
heads_even : (ends : List ℕ) (columns heads : List TypedForm) → AllZip (IsHeadColumn ends) columns heads → AreEven heads (length ends)
heads_even ends [] [] zipped = All-nil (λ c. length (column_rows c.column) ≡ length ends)
heads_even ends [] (head ∷ heads) zipped = absurd zipped
heads_even ends (column ∷ columns) [] zipped = absurd zipped
heads_even ends (column ∷ columns) (head ∷ heads) zipped =
    let starts = starts_from 0 ends in
    All-cons (λ c. length (column_rows c.column) ≡ length ends) head heads (ap length zipped.0.rows ∙ length-map starts _ ∙ length-starts 0 ends) (heads_even ends columns heads zipped.1)

answers_even : (t : TableForm) (ends : List ℕ) (asked : List AskedForm) (answers : List TypedForm) → AllZip (IsAnswerColumn t ends) asked answers → AreEven answers (length ends)
answers_even t ends [] [] zipped = All-nil (λ c. length (column_rows c.column) ≡ length ends)
answers_even t ends [] (answer ∷ answers) zipped = absurd zipped
answers_even t ends (asks ∷ asked) [] zipped = absurd zipped
answers_even t ends (asks ∷ asked) (answer ∷ answers) zipped =
    All-cons (λ c. length (column_rows c.column) ≡ length ends) answer answers zipped.0.folded.counted (answers_even t ends asked answers zipped.1)

columns_even : (t : TableForm) (keys : List (List ℕ)) (asked : List AskedForm) (ends : List ℕ) (made : List TypedForm) → AreColumnsOf t keys asked ends made → AreEven made (length ends)
columns_even t keys asked ends made are =
    let n = length keys in
    subst (λ (l : List TypedForm). AreEven l (length ends)) (take-append-drop n made)
    (All-append (λ c. length (column_rows c.column) ≡ length ends) (take n made) (drop n made) (heads_even ends are.columns (take n made) are.heads) (answers_even t ends asked (drop n made) are.answers))

-- one for each key and each answer
columns_long : (t : TableForm) (keys : List (List ℕ)) (asked : List AskedForm) (ends : List ℕ) (made : List TypedForm) → AreColumnsOf t keys asked ends made → length made ≡ length keys + length asked
columns_long t keys asked ends made are =
    let n = length keys in
    let paired = zip_long (IsNamed t) keys are.columns are.named in
    let headed = zip_long (IsHeadColumn ends) are.columns (take n made) are.heads in
    let answered = zip_long (IsAnswerColumn t ends) asked (drop n made) are.answers in
    omega (arith, paired, headed, answered, length-take n made, length-drop n made)

-- the table of groups
pub groups_table : {A : Type 0} (t : TableForm) (keys : List (List ℕ)) (asked : List AskedForm) (names : List (String A)) (made : List (TypedColumn A)) (count : ℕ) → AreAnswers t keys asked → map string_bytes names ≡ group_names keys asked
    → count < 2 ^ 64 → AreGroups t keys asked (map typed_of made) count → IsTable (table_with (map string_bytes names) (map typed_of made) count)
groups_table t keys asked names made count allowed copied small are = record {
  named = ap length copied ∙ length-append keys (map (λ (a : AskedForm). a.name) asked) ∙ ap (λ (n : ℕ). length keys + n) (length-map asked (λ (a : AskedForm). a.name)) ∙ sym (columns_long t keys asked are.ends (map typed_of made) are.columns);
  distinct = subst (λ (l : List (List ℕ)). AreDistinct l (length l)) (sym copied) allowed.distinct;
  texts = texts_utf8 names;
  formats = formats_utf8 made;
  even = subst (AreEven (map typed_of made)) (sym are.counted) (columns_even t keys asked are.ends (map typed_of made) are.columns);
  small = small;
}
