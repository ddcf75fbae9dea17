-- Names and numbers of folds as what is asked of groups.
use Rattle.std.proofs.Common.{◌≡◌, ◌∙◌, ◌+◌, ◌<◌, ◌++◌, ℕ, zero, suc, List, [], ◌∷◌, Option, None, Some, ap, arith, get_or, inl, inr, length, map, refl, subst, sym, take, true}
use Rattle.std.specs.Global.{Global}
use Rattle.std.specs.List.{zip}
use Rattle.std.specs.Option.{option_or}
use Rattle.std.specs.Prelude.{Err, IfErr, IsErrAnd, Ok, Result, is_some, slice_get}
use Rattle.std.specs.String.{string_bytes}
use Rattle.std.specs.declared.string.String.{String}
use Rattle.std.proofs.lemmas.List.{map-append, take_all, take_more}
use Rattle.std.proofs.lemmas.Option.{get_or_from_slice_get, slice_get-get_or, slice_get_within}
use Rattle.column_base.specs.declared.error.VortexError.{VortexError}
use Rattle.column_base.specs.declared.error.VortexError.TheVariants.{OutOfMemory}
use Rattle.column_core.specs.Refusal.{IsErrorFor, IsRefusedBy, first_fault}
use Rattle.column_core.specs.Value.{Value}
use Rattle.runend_array.specs.Array.{dtype_of, rows}
use Rattle.runend_array.specs.declared.array_ref.ArrayRef.{ArrayRef}
use Rattle.runend_pairs.specs.declared.group_fold.GroupFold.{GroupFold}
use Rattle.c_columns.specs.Reads.{bytes_of}
use Rattle.c_kernels.specs.Grouped.{fold_numbered}
use Rattle.c_tables.specs.Groups.{IsAskedBy, IsFold, IsGroupRefusal, IsGroupedBy, IsGroupingError, asked_fault, asked_shape_fault, grouping_fault, row_at, two_names_fault}
use Rattle.c_tables.specs.Sorts.{shape_fault}
use Rattle.c_tables.specs.TableCalls.{names_fault, names_in, row_name_fault}
use Rattle.c_tables.proofs.NameRows.{after_none, fault_front, faults_more, names_more}
use Rattle.c_tables.proofs.Refusals.{by_fault, by_memory, by_table, first_of_two, no_two, second_of_two}
use Rattle.c_tables.proofs.SortKeys.{one_flag_each}
use Rattle.tables.specs.GroupFaults.{AreAnswers, IsGroupsError}
use Rattle.tables.specs.Grouping.{AreGroupsOf, AskedForm, asked_of}
use Rattle.tables.specs.Tables.{TableForm}
use Rattle.tables.specs.declared.fault.TableError.{TableError}
use Rattle.tables.specs.declared.fault.TableError.TheVariants.{Refused}
use Rattle.tables.specs.declared.groups.Asked.{Asked}

-- the number of a fold that is found
pub fold_here : (found : Option GroupFold) (number : ℕ) → found ≡ fold_numbered number → is_some found ≡ true → IsFold number
fold_here None number is some = cc
fold_here (Some fold) number is some = record { fold = fold; numbered = sym is }

-- the pairs of two lists
pub zip_at : {A B : Type 0} (xs : List A) (ys : List B) (k : ℕ) (x : A) (y : B) → slice_get xs k ≡ Some x → slice_get ys k ≡ Some y → slice_get (zip xs ys) k ≡ Some (x, y)
zip_at [] ys k x y there other = cc
zip_at (a ∷ xs) [] k x y there other = cc
zip_at (a ∷ xs) (b ∷ ys) zero x y there other = cc
zip_at (a ∷ xs) (b ∷ ys) (suc k) x y there other = zip_at xs ys k x y there other

pub take_zip : {A B : Type 0} (xs : List A) (ys : List B) → length xs ≡ length ys → take (length xs) (zip xs ys) ≡ zip xs ys
take_zip [] ys same = refl
take_zip (x ∷ xs) [] same = cc
take_zip {A} {B} (x ∷ xs) (y ∷ ys) same = ap (λ (l : List (A × B)). (x, y) ∷ l) (take_zip xs ys (omega (arith, same)))

-- two names of a row
module _ (answers columns : ArrayRef Global) (row : ℕ) where
  at : (c : ArrayRef Global) (item : Option Value) → slice_get (rows c) row ≡ Some item → row_at c row ≡ item
  at c item there = get_or_from_slice_get (rows c) row item None there

  pub text_at : (c : ArrayRef Global) (item : Option Value) (text : List ℕ) → slice_get (rows c) row ≡ Some item → text ≡ bytes_of item → text ≡ bytes_of (row_at c row)
  text_at c item text there is = is ∙ sym (ap bytes_of (at c item there))

  pub first_refused : {T : Type 0} (item : Option Value) (error : VortexError) (result : Result T VortexError) → slice_get (rows answers) row ≡ Some item → IsErrorFor (row_name_fault item) error → IsErrAnd result (λ passed. passed ≡ error)
      → IsRefusedBy (two_names_fault (row_at answers row, row_at columns row)) result
  first_refused item error (Ok value) there refused passed = absurd passed
  first_refused item error (Err other) there refused passed =
      let fault = row_name_fault (row_at columns row) in
      let here = subst (λ (i : Option Value). IsErrorFor (row_name_fault i) error) (sym (at answers item there)) refused in
      subst (IsErrorFor (option_or (row_name_fault (row_at answers row)) fault)) (sym passed) (first_of_two (row_name_fault (row_at answers row)) fault error here)

  pub second_refused : (item column : Option Value) (error : VortexError) → slice_get (rows answers) row ≡ Some item → row_name_fault item ≡ None → slice_get (rows columns) row ≡ Some column → IsErrorFor (row_name_fault column) error
      → IsErrorFor (two_names_fault (row_at answers row, row_at columns row)) error
  second_refused item column error there none other refused =
      second_of_two (row_name_fault (row_at answers row)) (row_name_fault (row_at columns row)) error (ap row_name_fault (at answers item there) ∙ none)
      (subst (λ (i : Option Value). IsErrorFor (row_name_fault i) error) (sym (at columns column other)) refused)

  pub both_named : (item column : Option Value) → slice_get (rows answers) row ≡ Some item → row_name_fault item ≡ None → slice_get (rows columns) row ≡ Some column → row_name_fault column ≡ None
      → two_names_fault (row_at answers row, row_at columns row) ≡ None
  both_named item column there none other fine =
      no_two (row_name_fault (row_at answers row)) (row_name_fault (row_at columns row)) (ap row_name_fault (at answers item there) ∙ none) (ap row_name_fault (at columns column other) ∙ fine)

module _ (answers columns : ArrayRef Global) (folds : List ℕ) (shaped : asked_shape_fault answers columns (length folds) ≡ None) where
  abbrev pairs : List (Option Value × Option Value)
  pairs = zip (rows answers) (rows columns)

  abbrev pub AreFine : ℕ → Type 0
  AreFine row = first_fault two_names_fault (take row pairs) ≡ None

  each : (shape_fault (dtype_of answers) (length (rows answers)) (length folds) ≡ None) × (shape_fault (dtype_of columns) (length (rows columns)) (length folds) ≡ None)
  each = after_none (shape_fault (dtype_of answers) (length (rows answers)) (length folds)) (shape_fault (dtype_of columns) (length (rows columns)) (length folds)) shaped

  pub answers_long : length (rows answers) ≡ length folds
  answers_long = one_flag_each (dtype_of answers) (length (rows answers)) (length folds) each.0

  pub columns_long : length (rows columns) ≡ length folds
  columns_long = one_flag_each (dtype_of columns) (length (rows columns)) (length folds) each.1

  there : (c : ArrayRef Global) (row : ℕ) → length (rows c) ≡ length folds → row < length folds → slice_get (rows c) row ≡ Some (row_at c row)
  there c row long within = slice_get-get_or (rows c) row None (omega (arith, long, within))

  pair_there : (row : ℕ) → row < length folds → slice_get pairs row ≡ Some (row_at answers row, row_at columns row)
  pair_there row within = zip_at (rows answers) (rows columns) row (row_at answers row) (row_at columns row) (there answers row answers_long within) (there columns row columns_long within)

  -- a row without two names refuses what is asked
  pub row_refused : {T : Type 0} (row : ℕ) (error : VortexError) (result : Result T VortexError) → row < length folds → AreFine row → IsErrorFor (two_names_fault (row_at answers row, row_at columns row)) error
      → IsErrAnd result (λ passed. passed ≡ error) → IsRefusedBy (asked_fault answers columns folds) result
  row_refused row error (Ok value) within fine refused passed = absurd passed
  row_refused row error (Err other) within fine (inl short) passed = inl (passed ∙ short)
  row_refused row error (Err other) within fine (inr has) passed =
      inr (ap (λ (f : Option VortexError). option_or f (first_fault two_names_fault pairs)) shaped
      ∙ fault_front two_names_fault pairs row (row_at answers row, row_at columns row) other (pair_there row within) fine (has ∙ ap Some (sym passed)))

  -- one row more
  pub fine_more : (row : ℕ) → row < length folds → AreFine row → two_names_fault (row_at answers row, row_at columns row) ≡ None → AreFine (row + 1)
  fine_more row within fine both =
      let is = pair_there row within in
      faults_more two_names_fault pairs row (row_at answers row, row_at columns row) (slice_get_within pairs row (row_at answers row, row_at columns row) is) is fine both

  text_more : (c : ArrayRef Global) (text : AskedForm → List ℕ) (items : List (Asked Global)) (one : Asked Global) (row : ℕ) → length (rows c) ≡ length folds → row < length folds
      → map text (map asked_of items) ≡ map bytes_of (take row (rows c)) → text (asked_of one) ≡ bytes_of (row_at c row) → map text (map asked_of (items ++ one ∷ [])) ≡ map bytes_of (take (row + 1) (rows c))
  text_more c text items one row long within so_far is =
      ap (map text) (map-append asked_of items (one ∷ [])) ∙ map-append text (map asked_of items) (asked_of one ∷ [])
      ∙ names_more (rows c) row (row_at c row) (map text (map asked_of items)) (text (asked_of one)) (omega (arith, long, within)) (there c row long within) so_far is

  pub names_so_far : (items : List (Asked Global)) (one : Asked Global) (row : ℕ) → row < length folds → map (λ a. a.name) (map asked_of items) ≡ map bytes_of (take row (rows answers)) → string_bytes one.name ≡ bytes_of (row_at answers row)
      → map (λ a. a.name) (map asked_of (items ++ one ∷ [])) ≡ map bytes_of (take (row + 1) (rows answers))
  names_so_far items one row within so_far is = text_more answers (λ a. a.name) items one row answers_long within so_far is

  pub columns_so_far : (items : List (Asked Global)) (one : Asked Global) (row : ℕ) → row < length folds → map (λ a. a.column) (map asked_of items) ≡ map bytes_of (take row (rows columns)) → string_bytes one.column ≡ bytes_of (row_at columns row)
      → map (λ a. a.column) (map asked_of (items ++ one ∷ [])) ≡ map bytes_of (take (row + 1) (rows columns))
  columns_so_far items one row within so_far is = text_more columns (λ a. a.column) items one row columns_long within so_far is

  pub folds_so_far : (items : List (Asked Global)) (one : Asked Global) (row : ℕ) → row < length folds → map (λ a. Some a.fold) (map asked_of items) ≡ map fold_numbered (take row folds) → Some one.fold ≡ fold_numbered (get_or folds row 0)
      → map (λ a. Some a.fold) (map asked_of (items ++ one ∷ [])) ≡ map fold_numbered (take (row + 1) folds)
  folds_so_far items one row within so_far is =
      ap (map (λ (a : AskedForm). Some a.fold)) (map-append asked_of items (one ∷ [])) ∙ map-append (λ (a : AskedForm). Some a.fold) (map asked_of items) (asked_of one ∷ [])
      ∙ ap (λ (l : List (Option GroupFold)). l ++ Some one.fold ∷ []) so_far ∙ ap (λ (o : Option GroupFold). map fold_numbered (take row folds) ++ o ∷ []) is
      ∙ sym (ap (map fold_numbered) (take_more folds row 0 within) ∙ map-append fold_numbered (take row folds) (get_or folds row 0 ∷ []))

  -- all rows
  all_of : (c : ArrayRef Global) (row : ℕ) → length (rows c) ≡ length folds → row ≡ length folds → take row (rows c) ≡ rows c
  all_of c row long end = ap (λ (n : ℕ). take n (rows c)) (end ∙ sym long) ∙ take_all (length (rows c)) (rows c) (omega arith)

  pub all_asked : (items : List (Asked Global)) (row : ℕ) → row ≡ length folds → map (λ a. a.name) (map asked_of items) ≡ map bytes_of (take row (rows answers)) → map (λ a. a.column) (map asked_of items) ≡ map bytes_of (take row (rows columns))
      → map (λ a. Some a.fold) (map asked_of items) ≡ map fold_numbered (take row folds) → IsAskedBy answers columns folds (map asked_of items)
  all_asked items row end names looked numbers = record {
    named = names ∙ ap (map bytes_of) (all_of answers row answers_long end);
    looked_at = looked ∙ ap (map bytes_of) (all_of columns row columns_long end);
    numbered = numbers ∙ ap (map fold_numbered) (ap (λ (n : ℕ). take n folds) end ∙ take_all (length folds) folds (omega arith));
  }

  pub all_fine : (row : ℕ) → row ≡ length folds → AreFine row → asked_fault answers columns folds ≡ None
  all_fine row end fine =
      let whole = ap (λ (n : ℕ). take n pairs) (end ∙ sym answers_long) ∙ take_zip (rows answers) (rows columns) (answers_long ∙ sym columns_long) in
      no_two (asked_shape_fault answers columns (length folds)) (first_fault two_names_fault pairs) shaped (sym (ap (first_fault two_names_fault) whole) ∙ fine)

-- how groups are made or refused
module _ (keys answers columns : ArrayRef Global) (folds : List ℕ) (t : TableForm) where
  abbrev Error : TableError → Type 0
  Error = IsGroupRefusal keys answers columns folds t

  abbrev Why : TableError → Type 0
  Why = IsGroupingError keys answers columns folds t

  pub keys_refused : (error : VortexError) → IsErrorFor (names_fault keys) error → Error (Refused error)
  keys_refused error refused = by_fault (grouping_fault keys answers columns folds) Why error (first_of_two (names_fault keys) (asked_fault answers columns folds) error refused)

  pub asked_refused : (error : VortexError) → names_fault keys ≡ None → IsErrorFor (asked_fault answers columns folds) error → Error (Refused error)
  asked_refused error none refused = by_fault (grouping_fault keys answers columns folds) Why error (second_of_two (names_fault keys) (asked_fault answers columns folds) error none refused)

  pub groups_short : (error : VortexError) → error ≡ OutOfMemory → Error (Refused error)
  groups_short error short = by_memory (grouping_fault keys answers columns folds) Why (Refused error) (ap Refused short)

  module _ (names lent : List (String Global)) (asked held : List (Asked Global)) (same : lent ≡ names) (alike : held ≡ asked) (none : names_fault keys ≡ None) (fine : asked_fault answers columns folds ≡ None)
      (named : map string_bytes names ≡ names_in keys) (by : IsAskedBy answers columns folds (map asked_of asked)) where
    of_names : (P : List (List ℕ) → List AskedForm → Type 0) → P (map string_bytes lent) (map asked_of held) → P (names_in keys) (map asked_of asked)
    of_names P has =
        subst (λ (a : List (Asked Global)). P (names_in keys) (map asked_of a)) alike (subst (λ (l : List (List ℕ)). P l (map asked_of held)) (ap (map string_bytes) same ∙ named) has)

    -- what refuses the table's own groups refuses these
    pub groups_failed : {T : Type 0} (result : Result T TableError) (error : TableError) → IsGroupsError t (map string_bytes lent) (map asked_of held) error → IsErrAnd result (λ passed. passed ≡ error) → IfErr result Error
    groups_failed (Ok value) error refused passed = tt
    groups_failed (Err other) error refused passed =
        by_table (grouping_fault keys answers columns folds) Why other (no_two (names_fault keys) (asked_fault answers columns folds) none fine)
        (record { asked = map asked_of asked; asked_by = by; refused = of_names (λ n a. IsGroupsError t n a other) (subst (IsGroupsError t (map string_bytes lent) (map asked_of held)) (sym passed) refused) })

    pub groups_made : (made after : TableForm) → after ≡ made → AreAnswers t (map string_bytes lent) (map asked_of held) → AreGroupsOf t (map string_bytes lent) (map asked_of held) made → IsGroupedBy keys answers columns folds t after
    groups_made made after back allowed groups =
        subst (λ (u : TableForm). IsGroupedBy keys answers columns folds t u) (sym back) (record {
          accepted = no_two (names_fault keys) (asked_fault answers columns folds) none fine;
          asked = map asked_of asked;
          asked_by = by;
          allowed = of_names (AreAnswers t) allowed;
          groups = of_names (λ n a. AreGroupsOf t n a made) groups;
        })
