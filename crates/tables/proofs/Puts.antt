-- Columns put into a table.
use Rattle.std.proofs.Common.{◌≡◌, ◌∙◌, ◌^◌, ◌<◌, ◌≤◌, ◌++◌, ◌⊎◌, ℕ, zero, suc, List, [], ◌∷◌, Some, ap, arith, inl, inr, length, length-append, map, refl, set, subst, sym}
use Rattle.std.specs.Prelude.{Err, IfErr, Ok, OnOk, Result, String, slice_get}
use Rattle.std.specs.String.{string_bytes}
use Rattle.std.proofs.lemmas.Bool.{cases_lt}
use Rattle.std.proofs.lemmas.List.{map-append, map-set}
use Rattle.runend_array.specs.Column.{column_rows}
use Rattle.runend_array.specs.Array.{rows}
use Rattle.runend_windows.proofs.Lists.{slice_get-append}
use Rattle.column_base.specs.declared.error.VortexError.TheVariants.{OutOfMemory}
use Rattle.typed_columns.specs.declared.typed_column.TypedColumn.{TypedColumn}
use Rattle.tables.specs.declared.fault.TableError.{TableError}
use Rattle.tables.specs.declared.fault.TableError.TheVariants.{Refused}
use Rattle.tables.specs.Put.{IsAdded, IsPlaceFor, IsPut, IsPutError, Takes}
use Rattle.tables.specs.Tables.{AreDistinct, AreEven, IsPlaceOf, IsTable, IsUnknown, TableForm, table_with}
use Rattle.typed_columns.specs.Typed.{TypedForm, typed_of}
use Rattle.tables.proofs.NameLists.{formats_utf8, texts_utf8}

-- a table that has a column keeps its number of rows
pub count_stays : (t : TableForm) (count place : ℕ) → Takes t count → place < length t.columns → count ≡ t.count
count_stays t count place (inl same) within = same
count_stays t count place (inr none) within = absurd (omega (arith, none.0, within))

-- ---- in the place of another one

even_set : (xs : List TypedForm) (place count : ℕ) (c : TypedForm) → AreEven xs count → length (column_rows c.column) ≡ count → AreEven (set xs place c) count
even_set [] place count c even same k d within = absurd (omega (arith, within))
even_set (x ∷ xs) zero count c even same zero d within = same
even_set (x ∷ xs) zero count c even same (suc k) d within = even (suc k) d (omega (arith, within))
even_set (x ∷ xs) (suc place) count c even same zero d within = even 0 d (omega arith)
even_set (x ∷ xs) (suc place) count c even same (suc k) d within = even_set xs place count c (λ i e below. even (suc i) e (omega (arith, below))) same k d (omega (arith, within))

set_long : {X : Type 0} (xs : List X) (place : ℕ) (x : X) → length (set xs place x) ≡ length xs
set_long [] place x = refl
set_long (y ∷ xs) zero x = refl
set_long (y ∷ xs) (suc place) x = ap suc (set_long xs place x)

pub replaced_columns : {A : Type 0} (columns next : List (TypedColumn A)) (own : List TypedForm) (place : ℕ) (column : TypedColumn A) → next ≡ set columns place column → map typed_of columns ≡ own
    → map typed_of next ≡ set own place (typed_of column)
replaced_columns columns next own place column is seen =
    ap (map typed_of) is ∙ map-set typed_of columns place column ∙ ap (λ (l : List TypedForm). set l place (typed_of column)) seen

pub replaced_table : {A : Type 0} (names : List (List ℕ)) (columns next : List (TypedColumn A)) (count made place : ℕ) (column : TypedColumn A) → IsTable (table_with names (map typed_of columns) count) → next ≡ set columns place column
    → made ≡ count → length (rows column.array) ≡ made → IsTable (table_with names (map typed_of next) made)
replaced_table names columns next count made place column table is counted same =
    let shown = replaced_columns columns next (map typed_of columns) place column is refl in
    record {
      named = table.named ∙ sym (ap length shown ∙ set_long (map typed_of columns) place (typed_of column));
      distinct = table.distinct;
      texts = table.texts;
      formats = formats_utf8 next;
      even = subst (λ (l : List TypedForm). AreEven l made) (sym shown) (even_set (map typed_of columns) place made (typed_of column) (subst (AreEven (map typed_of columns)) (sym counted) table.even) same);
      small = omega (arith, table.small, counted);
    }

-- ---- after the last

push_even : (xs : List TypedForm) (count : ℕ) (c : TypedForm) → AreEven xs count → length (column_rows c.column) ≡ count → AreEven (xs ++ c ∷ []) count
push_even [] count c even same zero d within = same
push_even [] count c even same (suc k) d within = absurd (omega (arith, within))
push_even (x ∷ xs) count c even same zero d within = even 0 d (omega arith)
push_even (x ∷ xs) count c even same (suc k) d within = push_even xs count c (λ i e below. even (suc i) e (omega (arith, below))) same k d (omega (arith, within))

even_push : (xs : List TypedForm) (count made : ℕ) (c : TypedForm) → AreEven xs count → (made ≡ count) ⊎ ((length xs ≡ 0) × (count ≡ 0)) → length (column_rows c.column) ≡ made → AreEven (xs ++ c ∷ []) made
even_push xs count made c even (inl is) same = push_even xs made c (subst (AreEven xs) (sym is) even) same
even_push [] count made c even (inr none) same = push_even [] made c (λ k d within. absurd (omega (arith, within))) same
even_push (x ∷ xs) count made c even (inr none) same = absurd (omega (arith, none.0))

at_last : (names : List (List ℕ)) (name : List ℕ) → slice_get (names ++ name ∷ []) (length names) ≡ Some name
at_last [] name = refl
at_last (x ∷ names) name = at_last names name

distinct_push : (names : List (List ℕ)) (name : List ℕ) → AreDistinct names (length names) → IsUnknown names name → AreDistinct (names ++ name ∷ []) (length (names ++ name ∷ []))
distinct_push names name distinct unknown i j before below same = elim (cases_lt j (length names)) [
  | inl under ↦ distinct i j before under (sym (slice_get-append names (name ∷ []) i (omega (arith, before, under))) ∙ same ∙ slice_get-append names (name ∷ []) j under)
  | inr past ↦ let at : j ≡ length names = omega (arith, past, below, length-append names (name ∷ [])) in
      let under : i < length names = omega (arith, before, at) in
      unknown i (record { within = under; there = sym (slice_get-append names (name ∷ []) i under) ∙ same ∙ ap (slice_get (names ++ name ∷ [])) at ∙ at_last names name })
]

pub added_names : {A : Type 0} (names next : List (String A)) (own : List (List ℕ)) (name : String A) → next ≡ names ++ name ∷ [] → map string_bytes names ≡ own → map string_bytes next ≡ own ++ string_bytes name ∷ []
added_names names next own name is seen = ap (map string_bytes) is ∙ map-append string_bytes names (name ∷ []) ∙ ap (λ (l : List (List ℕ)). l ++ string_bytes name ∷ []) seen

pub added_columns : {A : Type 0} (columns next : List (TypedColumn A)) (own : List TypedForm) (column : TypedColumn A) → next ≡ columns ++ column ∷ [] → map typed_of columns ≡ own → map typed_of next ≡ own ++ typed_of column ∷ []
added_columns columns next own column is seen = ap (map typed_of) is ∙ map-append typed_of columns (column ∷ []) ∙ ap (λ (l : List TypedForm). l ++ typed_of column ∷ []) seen

pub added_table : {A : Type 0} (names next_names : List (String A)) (columns next : List (TypedColumn A)) (count made : ℕ) (name : String A) (column : TypedColumn A) → IsTable (table_with (map string_bytes names) (map typed_of columns) count)
    → Takes (table_with (map string_bytes names) (map typed_of columns) count) made → IsUnknown (map string_bytes names) (string_bytes name) → next_names ≡ names ++ name ∷ [] → next ≡ columns ++ column ∷ [] → length (rows column.array) ≡ made
    → made < 2 ^ 64 → IsTable (table_with (map string_bytes next_names) (map typed_of next) made)
added_table names next_names columns next count made name column table takes unknown is_names is_columns same small =
    let shown_names = added_names names next_names (map string_bytes names) name is_names refl in
    let shown = added_columns columns next (map typed_of columns) column is_columns refl in
    record {
      named = omega (
        arith,
        ap length shown_names,
        ap length shown,
        length-append (map string_bytes names) (string_bytes name ∷ []),
        length-append (map typed_of columns) (typed_of column ∷ []),
        table.named,
      );
      distinct = subst (λ (l : List (List ℕ)). AreDistinct l (length l)) (sym shown_names) (distinct_push (map string_bytes names) (string_bytes name) table.distinct unknown);
      texts = texts_utf8 next_names;
      formats = formats_utf8 next;
      even = subst (λ (l : List TypedForm). AreEven l made) (sym shown) (even_push (map typed_of columns) count made (typed_of column) table.even takes same);
      small = small;
    }

-- ---- where it goes, and why not

pub placed_as : (seen own : List (List ℕ)) (name : List ℕ) (place : ℕ) → seen ≡ own → IsPlaceFor seen name place → IsPlaceFor own name place
placed_as seen own name place is there = subst (λ (l : List (List ℕ)). IsPlaceFor l name place) is there

-- a place before the end is that of a column
pub placed_at : (t : TableForm) (name : List ℕ) (place : ℕ) → IsTable t → IsPlaceFor t.names name place → place < length t.columns → IsPlaceOf t.names name place
placed_at t name place table (inl there) within = there
placed_at t name place table (inr none) within = absurd (omega (arith, table.named, none.1, within))

-- at the end no column has the name
pub placed_last : (t : TableForm) (name : List ℕ) (place : ℕ) → IsTable t → IsPlaceFor t.names name place → length t.columns ≤ place → IsUnknown t.names name
placed_last t name place table (inl there) past = absurd (omega (arith, table.named, there.within, past))
placed_last t name place table (inr none) past = none.0

pub put_short : {T : Type 0} (before : TableForm) (name : List ℕ) (column : TypedForm) (result : Result T TableError) → Takes before (length (column_rows column.column)) → IfErr result (λ error. error ≡ Refused OutOfMemory)
    → IfErr result (IsPutError before name column)
put_short before name column (Ok value) takes only = tt
put_short before name column (Err error) takes only = subst (λ (e : TableError). IsPutError before name column e) (sym only) (refl, takes)

pub put_added : {T : Type 0} (before after : TableForm) (name : List ℕ) (column : TypedForm) (result : Result T TableError) → OnOk result (IsAdded before name column after) → OnOk result (after.count ≡ length (column_rows column.column))
    → OnOk result (IsPut before name column after)
put_added before after name column (Ok value) added counted = record { put = inr added; count = counted }
put_added before after name column (Err error) added counted = tt
