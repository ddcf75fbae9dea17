-- Names at their places, and which is the first fault of names and columns.
use Rattle.std.proofs.Common.{◌≡◌, ◌≢◌, ◌∙◌, ◌+◌, ◌^◌, ◌<◌, ℕ, zero, suc, List, [], ◌∷◌, Option, Some, ap, arith, get_or, inl, inr, length, map, refl, subst, sym, take}
use Rattle.std.specs.Prelude.{All, String, slice_get, unwrap_or}
use Rattle.std.specs.Str.{IsUtf8}
use Rattle.std.specs.String.{string_bytes}
use Rattle.std.proofs.lemmas.Bool.{cases_lt}
use Rattle.std.proofs.lemmas.List.{length-map, length-take}
use Rattle.std.proofs.lemmas.List.Elements.{All-cons, All-nil}
use Rattle.std.proofs.lemmas.Option.{get_or_from_slice_get}
use Rattle.std.proofs.lemmas.Str.{IsUtf8-string_bytes}
use Rattle.runend_array.specs.Column.{column_rows}
use Rattle.typed_columns.specs.declared.typed_column.TypedColumn.{TypedColumn}
use Rattle.tables.specs.TableFaults.{IsFirstRepeated, IsFirstUneven}
use Rattle.tables.specs.Tables.{AreDistinct, IsNamed, IsPlaceOf, IsTable, IsUnknown, TableForm, table_with}
use Rattle.typed_columns.specs.Typed.{TypedForm, typed_of}

-- what is read of mapped items
pub mapped_at : {X Z : Type 0} (f : X → Z) (xs : List X) (k : ℕ) (x : X) → k < length xs → x ≡ get_or xs k x → slice_get (map f xs) k ≡ Some (f x)
mapped_at f [] k x within here = absurd (omega (arith, within))
mapped_at {X} f (y ∷ xs) zero x within here = ap (λ (z : X). Some (f z)) (sym here)
mapped_at f (y ∷ xs) (suc k) x within here = mapped_at f xs k x (omega (arith, within)) here

-- an item of the first ones
pub mapped_below : {X Z : Type 0} (f : X → Z) (xs : List X) (n k : ℕ) → k < n → slice_get (map f (take n xs)) k ≡ slice_get (map f xs) k
mapped_below f xs zero k below = absurd (omega (arith, below))
mapped_below f [] (suc n) k below = refl
mapped_below f (x ∷ xs) (suc n) zero below = refl
mapped_below f (x ∷ xs) (suc n) (suc k) below = mapped_below f xs n k (omega (arith, below))

-- one name more that is not the one
pub other_more : (names : List (List ℕ)) (name : List ℕ) (place : ℕ) (other : List ℕ) → slice_get names place ≡ Some other → other ≢ name
    → ((k : ℕ) → k < place → slice_get names k ≢ Some name) → (k : ℕ) → k < place + 1 → slice_get names k ≢ Some name
other_more names name place other there differs before k below same = elim (cases_lt k place) [
  | inl under ↦ before k under same
  | inr past ↦ let at : k ≡ place = omega (arith, past, below) in
      differs (ap (λ (o : Option (List ℕ)). unwrap_or o []) (sym there ∙ ap (slice_get names) (sym at) ∙ same))
]

-- the first column with another number of rows
pub uneven_at : (columns : List TypedForm) (wanted place found : ℕ) (column : TypedForm) → slice_get columns place ≡ Some column → found ≡ length (column_rows column.column) → found ≢ wanted
    → ((k : ℕ) (d : TypedForm) → k < place → length (column_rows (get_or columns k d).column) ≡ wanted) → IsFirstUneven columns wanted place found
uneven_at columns wanted place found column there count differs before = record {
  column = column;
  there = there;
  count = count;
  differs = differs;
  before = λ k other below is. ap (λ (c : TypedForm). length (column_rows c.column)) (sym (get_or_from_slice_get columns k other other is)) ∙ before k other below;
}

-- one column more of this number of rows
pub even_more : (columns : List TypedForm) (wanted place : ℕ) (column : TypedForm) → slice_get columns place ≡ Some column → length (column_rows column.column) ≡ wanted
    → ((k : ℕ) (d : TypedForm) → k < place → length (column_rows (get_or columns k d).column) ≡ wanted) → (k : ℕ) (d : TypedForm) → k < place + 1 → length (column_rows (get_or columns k d).column) ≡ wanted
even_more columns wanted place column there count before k d below = elim (cases_lt k place) [
  | inl under ↦ before k d under
  | inr past ↦ let at : k ≡ place = omega (arith, past, below) in
      ap (λ (i : ℕ). length (column_rows (get_or columns i d).column)) at ∙ ap (λ (c : TypedForm). length (column_rows c.column)) (get_or_from_slice_get columns place column d there) ∙ count
]

-- the first name that an earlier one is equal to
pub repeated_at : {X : Type 0} (f : X → List ℕ) (xs : List X) (place : ℕ) (x : X) (earlier : ℕ) → place < length xs → x ≡ get_or xs place x → IsPlaceOf (map f (take place xs)) (f x) earlier
    → AreDistinct (map f xs) place → IsFirstRepeated (map f xs) earlier place
repeated_at f xs place x earlier within here at distinct =
    let before : earlier < place = omega (arith, at.within, length-map (take place xs) f, length-take place xs) in
    record {
      before = before;
      within = omega (arith, within, length-map xs f);
      equal = sym (mapped_below f xs place earlier before) ∙ at.there ∙ sym (mapped_at f xs place x within here);
      distinct = distinct;
    }

-- one name more that no earlier one is equal to
pub distinct_more : {X : Type 0} (f : X → List ℕ) (xs : List X) (place : ℕ) (x : X) → place < length xs → x ≡ get_or xs place x → IsUnknown (map f (take place xs)) (f x)
    → AreDistinct (map f xs) place → AreDistinct (map f xs) (place + 1)
distinct_more f xs place x within here unknown distinct i j before below same = elim (cases_lt j place) [
  | inl under ↦ distinct i j before under same
  | inr past ↦ let at : j ≡ place = omega (arith, past, below) in
      let under : i < place = omega (arith, before, at) in
      unknown i (record {
        within = omega (arith, under, within, length-map (take place xs) f, length-take place xs);
        there = mapped_below f xs place i under ∙ same ∙ ap (slice_get (map f xs)) at ∙ mapped_at f xs place x within here;
      })
]

-- strings are UTF-8
pub texts_utf8 : {A : Type 0} (names : List (String A)) → All IsUtf8 (map string_bytes names)
texts_utf8 [] = All-nil IsUtf8
texts_utf8 (name ∷ names) = All-cons IsUtf8 (string_bytes name) (map string_bytes names) (IsUtf8-string_bytes name) (texts_utf8 names)

pub formats_utf8 : {A : Type 0} (columns : List (TypedColumn A)) → All (λ c. IsUtf8 c.format) (map typed_of columns)
formats_utf8 [] = All-nil (λ c. IsUtf8 c.format)
formats_utf8 (column ∷ columns) = All-cons (λ c. IsUtf8 c.format) (typed_of column) (map typed_of columns) (IsUtf8-string_bytes column.format) (formats_utf8 columns)

-- the column at the place of a name
pub place_within : {A : Type 0} (names : List (List ℕ)) (columns : List (TypedColumn A)) (count : ℕ) (name : List ℕ) (place : ℕ) → IsTable (table_with names (map typed_of columns) count) → IsPlaceOf names name place
    → place < length columns
place_within names columns count name place table at = omega (arith, at.within, table.named, length-map columns typed_of)

pub named_at : {A : Type 0} (names : List (List ℕ)) (columns : List (TypedColumn A)) (count : ℕ) (own : TableForm) (name : List ℕ) (place : ℕ) (column : TypedColumn A)
    → table_with names (map typed_of columns) count ≡ own → IsTable (table_with names (map typed_of columns) count) → IsPlaceOf names name place → column ≡ get_or columns place column → IsNamed own name (typed_of column)
named_at names columns count own name place column seen table at here =
    subst (λ (t : TableForm). IsNamed t name (typed_of column)) seen (record {
      place = place;
      name_there = at;
      column_there = mapped_at typed_of columns place column (place_within names columns count name place table at) here;
    })

-- the table without columns
pub empty_table : {A : Type 0} (names : List (String A)) (columns : List (TypedColumn A)) (count : ℕ) → names ≡ [] → columns ≡ [] → count < 2 ^ 64 → IsTable (table_with (map string_bytes names) (map typed_of columns) count)
empty_table [] [] count no_names no_columns small = record {
  named = refl;
  distinct = λ i j before below. absurd (omega (arith, below));
  texts = All-nil IsUtf8;
  formats = All-nil (λ c. IsUtf8 c.format);
  even = All-nil (λ c. length (column_rows c.column) ≡ count);
  small = small;
}
empty_table (name ∷ names) columns count no_names no_columns small = cc
empty_table [] (column ∷ columns) count no_names no_columns small = cc
