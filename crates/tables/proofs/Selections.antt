-- Columns that are chosen by their names.
use Rattle.std.proofs.Common.{◌≡◌, ◌∙◌, ◌+◌, ◌<◌, ◌++◌, ℕ, List, [], ◌∷◌, suc, Bool, false, true, Option, None, Some, ap, arith, get_or, inl, inr, length, map, not, refl, subst, sym, take}
use Rattle.std.specs.Prelude.{Err, IfErr, IfNone, IfSome, IsErrAnd, Ok, Result, String, is_some, slice_get}
use Rattle.std.specs.List.{AllZip}
use Rattle.std.specs.Prelude.{All}
use Rattle.std.specs.String.{string_bytes}
use Rattle.std.proofs.lemmas.Bool.{cases_lt}
use Rattle.std.proofs.lemmas.List.{length-map, map-append, take_more}
use Rattle.std.proofs.lemmas.List.Elements.{All-cons, All-nil}
use Rattle.std.proofs.lemmas.Option.{get_or_from_slice_get}
use Rattle.runend_array.specs.Column.{column_rows}
use Rattle.column_base.specs.declared.error.VortexError.{VortexError}
use Rattle.column_base.specs.declared.error.VortexError.TheVariants.{OutOfMemory}
use Rattle.typed_columns.specs.declared.typed_column.TypedColumn.{TypedColumn}
use Rattle.tables.specs.declared.fault.TableError.{TableError}
use Rattle.tables.specs.declared.fault.TableError.TheVariants.{Refused, NameCount, RowCount, RepeatedName, UnknownName, NewNameCount, RepeatedNewName, OtherNames, OtherType, NoKeys, UnsupportedKey, RepeatedAnswer, UnknownColumn, UnsupportedAnswer, SumOverflow}
use Rattle.tables.specs.Put.{IsPlaceFor}
use Rattle.tables.specs.TableFaults.{AreAsked, IsFirstUnknown, IsNameFault, IsNamingError, IsRenameError, IsSelectError}
use Rattle.tables.specs.Tables.{AreDistinct, AreEven, IsKnown, IsNamed, IsPlaceOf, IsRenamedTo, IsRenaming, IsTable, IsUnknown, TableForm, table_with}
use Rattle.typed_columns.specs.Typed.{TypedForm, typed_of}
use Rattle.tables.proofs.NameLists.{formats_utf8, mapped_at, texts_utf8}

-- a place that was found
pub known_by : (found : Option ℕ) (none : Bool) (own : List (List ℕ)) (name : List ℕ) → is_some found ≡ not none → none ≡ false → IfSome found (IsPlaceOf own name) → IsKnown own name
known_by None none own name tested passed there = let never = tested ∙ ap not passed in cc
known_by (Some place) none own name tested passed there = record { place = place; there = there }

-- one name more that is known
pub known_more : (own names : List (List ℕ)) (place : ℕ) (name : List ℕ) → slice_get names place ≡ Some name → IsKnown own name → ((k : ℕ) (d : List ℕ) → k < place → IsKnown own (get_or names k d))
    → (k : ℕ) (d : List ℕ) → k < place + 1 → IsKnown own (get_or names k d)
known_more own names place name there known before k d below = elim (cases_lt k place) [
  | inl under ↦ before k d under
  | inr past ↦ let at : k ≡ place = omega (arith, past, below) in
      subst (IsKnown own) (sym (ap (λ (i : ℕ). get_or names i d) at ∙ get_or_from_slice_get names place name d there)) known
]

-- the first name that is unknown
pub unknown_at : (found : Option ℕ) (none : Bool) (own names : List (List ℕ)) (place : ℕ) (name : List ℕ) → slice_get names place ≡ Some name → is_some found ≡ not none → none ≡ true → IfNone found (IsUnknown own name)
    → ((k : ℕ) (d : List ℕ) → k < place → IsKnown own (get_or names k d)) → IsFirstUnknown own names place
unknown_at None none own names place name there tested passed unknown before = record {
  name = name;
  there = there;
  unknown = unknown;
  before = λ k other below is. subst (IsKnown own) (get_or_from_slice_get names k other other is) (before k other below);
}
unknown_at (Some found) none own names place name there tested passed unknown before = let never : true ≡ false = tested ∙ ap not passed in absurd (cc)

pub known_at : {X : Type 0} (f : X → List ℕ) (own : List (List ℕ)) (names : List X) (k : ℕ) (name : X) → All (IsKnown own) (map f names) → k < length names → name ≡ get_or names k name → IsKnown own (f name)
known_at f own names k name known within here =
    let at = get_or_from_slice_get (map f names) k (f name) (f name) (mapped_at f names k name within here) in
    subst (IsKnown own) at (known k (f name) (omega (arith, within, length-map names f)))

-- the place of a name that a column has
pub place_known : (seen own : List (List ℕ)) (name : List ℕ) (place : ℕ) → seen ≡ own → IsKnown own name → IsPlaceFor seen name place → IsPlaceOf own name place
place_known seen own name place is known (inl there) = subst (λ (l : List (List ℕ)). IsPlaceOf l name place) is there
place_known seen own name place is known (inr none) = absurd (none.0 known.place (subst (λ (l : List (List ℕ)). IsPlaceOf l name known.place) (sym is) known.there))

zip_push : {X Y : Type 0} (R : X → Y → Type 0) (xs : List X) (ys : List Y) (x : X) (y : Y) → AllZip R xs ys → R x y → AllZip R (xs ++ x ∷ []) (ys ++ y ∷ [])
zip_push R [] [] x y zipped here = (here, tt)
zip_push R [] (b ∷ ys) x y zipped here = absurd zipped
zip_push R (a ∷ xs) [] x y zipped here = absurd zipped
zip_push R (a ∷ xs) (b ∷ ys) x y zipped here = (zipped.0, zip_push R xs ys x y zipped.1 here)

pub zip_long : {X Y : Type 0} (R : X → Y → Type 0) (xs : List X) (ys : List Y) → AllZip R xs ys → length xs ≡ length ys
zip_long R [] [] zipped = refl
zip_long R [] (y ∷ ys) zipped = absurd zipped
zip_long R (x ∷ xs) [] zipped = absurd zipped
zip_long R (x ∷ xs) (y ∷ ys) zipped = ap suc (zip_long R xs ys zipped.1)

-- one item more that goes with what is pushed
pub zipped_more : {X Y U V : Type 0} (R : U → V → Type 0) (f : X → U) (h : Y → V) (xs : List X) (kept next : List Y) (k : ℕ) (x : X) (y : Y) → k < length xs → x ≡ get_or xs k x → R (f x) (h y)
    → AllZip R (map f (take k xs)) (map h kept) → next ≡ kept ++ y ∷ [] → AllZip R (map f (take (k + 1) xs)) (map h next)
zipped_more {X} {Y} {U} {V} R f h xs kept next k x y within here goes before pushed =
    let more : take (k + 1) xs ≡ take k xs ++ x ∷ [] = take_more xs k x within ∙ ap (λ (z : X). take k xs ++ z ∷ []) (sym here) in
    let left = ap (map f) more ∙ map-append f (take k xs) (x ∷ []) in
    let right = ap (map h) pushed ∙ map-append h kept (y ∷ []) in
    let zipped = zip_push R (map f (take k xs)) (map h kept) (f x) (h y) before goes in
    subst (λ (l : List U). AllZip R l (map h next)) (sym left) (subst (λ (r : List V). AllZip R (map f (take k xs) ++ f x ∷ []) r) (sym right) zipped)

-- a column of a table has its number of rows
pub rows_named : (own : TableForm) (name : List ℕ) (column : TypedForm) → IsTable own → IsNamed own name column → length (column_rows column.column) ≡ own.count
rows_named own name column table at =
    sym (ap (λ (c : TypedForm). length (column_rows c.column)) (get_or_from_slice_get own.columns at.place column column at.column_there))
    ∙ table.even at.place column (omega (arith, at.name_there.within, table.named))

pub named_even : (own : TableForm) (names : List (List ℕ)) (columns : List TypedForm) → IsTable own → AllZip (IsNamed own) names columns → AreEven columns own.count
named_even own [] [] table named = All-nil (λ c. length (column_rows c.column) ≡ own.count)
named_even own [] (c ∷ columns) table named = absurd named
named_even own (name ∷ names) [] table named = absurd named
named_even own (name ∷ names) (c ∷ columns) table named =
    All-cons (λ (x : TypedForm). length (column_rows x.column) ≡ own.count) c columns (rows_named own name c table named.0) (named_even own names columns table named.1)

-- the table of columns that are chosen
pub selected_table : {A : Type 0} (own : TableForm) (asked : List (List ℕ)) (copies : List (String A)) (kept : List (TypedColumn A)) (count : ℕ) → map string_bytes copies ≡ asked → own.count ≡ count → IsTable own
    → AreDistinct asked (length asked) → AllZip (IsNamed own) asked (map typed_of kept) → IsTable (table_with (map string_bytes copies) (map typed_of kept) count)
selected_table own asked copies kept count copied counted table distinct named = record {
  named = ap length copied ∙ zip_long (IsNamed own) asked (map typed_of kept) named;
  distinct = subst (λ (l : List (List ℕ)). AreDistinct l (length l)) (sym copied) distinct;
  texts = texts_utf8 copies;
  formats = formats_utf8 kept;
  even = subst (λ (n : ℕ). AreEven (map typed_of kept) n) counted (named_even own asked (map typed_of kept) table named);
  small = omega (arith, counted, table.small);
}

-- what is asked of names that are seen otherwise
pub asked_seen : (own seen asked : List (List ℕ)) → own ≡ seen → AreAsked own asked → AreAsked seen asked
asked_seen own seen asked is names = subst (λ (l : List (List ℕ)). AreAsked l asked) is names

-- what refuses names refuses to choose columns by them
pub by_choice : (own names : List (List ℕ)) (error : TableError) → IsNameFault own names error → IsSelectError own names error
by_choice own names (RepeatedName earlier place) refused = refused
by_choice own names (UnknownName place) refused = refused
by_choice own names (NameCount n m) refused = absurd refused
by_choice own names (RowCount place found wanted) refused = absurd refused
by_choice own names (NewNameCount n m) refused = absurd refused
by_choice own names (RepeatedNewName earlier place) refused = absurd refused
by_choice own names OtherNames refused = absurd refused
by_choice own names (OtherType place) refused = absurd refused
by_choice own names NoKeys refused = absurd refused
by_choice own names (UnsupportedKey place) refused = absurd refused
by_choice own names (RepeatedAnswer earlier place) refused = absurd refused
by_choice own names (UnknownColumn place) refused = absurd refused
by_choice own names (UnsupportedAnswer place) refused = absurd refused
by_choice own names (SumOverflow place group) refused = absurd refused
by_choice own names (Refused error) refused = absurd refused

-- and to rename them
pub by_names : (own names new_names : List (List ℕ)) (error : TableError) → length names ≡ length new_names → IsNameFault own names error → IsRenameError own names new_names error
by_names own names new_names (RepeatedName earlier place) paired refused = (paired, refused)
by_names own names new_names (UnknownName place) paired refused = (paired, refused)
by_names own names new_names (NameCount n m) paired refused = absurd refused
by_names own names new_names (RowCount place found wanted) paired refused = absurd refused
by_names own names new_names (NewNameCount n m) paired refused = absurd refused
by_names own names new_names (RepeatedNewName earlier place) paired refused = absurd refused
by_names own names new_names OtherNames paired refused = absurd refused
by_names own names new_names (OtherType place) paired refused = absurd refused
by_names own names new_names NoKeys paired refused = absurd refused
by_names own names new_names (UnsupportedKey place) paired refused = absurd refused
by_names own names new_names (RepeatedAnswer earlier place) paired refused = absurd refused
by_names own names new_names (UnknownColumn place) paired refused = absurd refused
by_names own names new_names (UnsupportedAnswer place) paired refused = absurd refused
by_names own names new_names (SumOverflow place group) paired refused = absurd refused
by_names own names new_names (Refused error) paired refused = absurd refused

pub by_new_names : (own names new_names made : List (List ℕ)) (error : TableError) → length names ≡ length new_names → AreAsked own names → AllZip (IsRenamedTo names new_names) own made → IsNamingError made error
    → IsRenameError own names new_names error
by_new_names own names new_names made (RepeatedNewName earlier place) paired asked renamed refused = (paired, asked, record { made = made; renamed = renamed; repeated = refused })
by_new_names own names new_names made (Refused error) paired asked renamed refused = (paired, (refused, asked))
by_new_names own names new_names made (RepeatedName earlier place) paired asked renamed refused = absurd refused
by_new_names own names new_names made (UnknownName place) paired asked renamed refused = absurd refused
by_new_names own names new_names made (NameCount n m) paired asked renamed refused = absurd refused
by_new_names own names new_names made (RowCount place found wanted) paired asked renamed refused = absurd refused
by_new_names own names new_names made (NewNameCount n m) paired asked renamed refused = absurd refused
by_new_names own names new_names made OtherNames paired asked renamed refused = absurd refused
by_new_names own names new_names made (OtherType place) paired asked renamed refused = absurd refused
by_new_names own names new_names made NoKeys paired asked renamed refused = absurd refused
by_new_names own names new_names made (UnsupportedKey place) paired asked renamed refused = absurd refused
by_new_names own names new_names made (RepeatedAnswer earlier place) paired asked renamed refused = absurd refused
by_new_names own names new_names made (UnknownColumn place) paired asked renamed refused = absurd refused
by_new_names own names new_names made (UnsupportedAnswer place) paired asked renamed refused = absurd refused
by_new_names own names new_names made (SumOverflow place group) paired asked renamed refused = absurd refused

-- the table under other names
pub named_table : {A : Type 0} (own : TableForm) (names : List (String A)) (kept : List (TypedColumn A)) (count : ℕ) → length names ≡ length own.names → own.count ≡ count → IsTable own → AreDistinct (map string_bytes names) (length names)
    → map typed_of kept ≡ own.columns → IsTable (table_with (map string_bytes names) (map typed_of kept) count)
named_table own names kept count paired counted table distinct same = record {
  named = length-map names string_bytes ∙ paired ∙ table.named ∙ ap length (sym same);
  distinct = subst (λ (n : ℕ). AreDistinct (map string_bytes names) n) (sym (length-map names string_bytes)) distinct;
  texts = texts_utf8 names;
  formats = formats_utf8 kept;
  even = subst (λ (n : ℕ). AreEven (map typed_of kept) n) counted (subst (λ (l : List TypedForm). AreEven l own.count) (sym same) table.even);
  small = omega (arith, counted, table.small);
}

pub distinct_in : {A : Type 0} (lent names : List (String A)) → lent ≡ names → AreDistinct (map string_bytes lent) (length lent) → AreDistinct (map string_bytes names) (length names)
distinct_in {A} lent names is distinct = subst (λ (l : List (String A)). AreDistinct (map string_bytes l) (length l)) is distinct

-- a table that is renamed is seen otherwise
pub renaming_seen : (own table : TableForm) (seen asked new_names made : List (List ℕ)) → seen ≡ own.names → AllZip (IsRenamedTo asked new_names) seen made → table ≡ table_with made own.columns own.count → IsRenaming own asked new_names table
renaming_seen own table seen asked new_names made is renamed named =
    subst (λ (t : TableForm). IsRenaming own asked new_names t) (sym named) (record {
      names = subst (λ (l : List (List ℕ)). AllZip (IsRenamedTo asked new_names) l made) is renamed;
      columns = refl;
      count = refl;
    })

-- where memory was refused for new names
pub short_of_names : {T : Type 0} (result : Result T TableError) (own names new_names : List (List ℕ)) (error : VortexError) → IsErrAnd result (λ given. given ≡ Refused error) → error ≡ OutOfMemory → length names ≡ length new_names
    → AreAsked own names → IfErr result (IsRenameError own names new_names)
short_of_names (Ok value) own names new_names error given short paired asked = absurd given
short_of_names (Err other) own names new_names error given short paired asked = subst (IsRenameError own names new_names) (sym given) (paired, (short, asked))
