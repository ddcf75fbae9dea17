-- All columns of a table, chosen by their own names, are the table.
use Rattle.std.proofs.Common.{◌≡◌, ◌∙◌, ◌+◌, ◌<◌, ℕ, zero, suc, List, [], ◌∷◌, Option, Some, ap, arith, inl, inr, length, refl, subst, sym}
use Rattle.std.specs.Prelude.{slice_get, unwrap_or}
use Rattle.std.specs.List.{AllZip}
use Rattle.std.proofs.lemmas.Bool.{cases_lt}
use Rattle.tables.specs.TableFaults.{IsFirstRepeated, IsFirstUnknown, IsSelectError}
use Rattle.tables.specs.Tables.{AreDistinct, IsNamed, IsSelection, IsTable, TableForm, table_with}
use Rattle.tables.specs.declared.fault.TableError.{TableError}
use Rattle.tables.specs.declared.fault.TableError.TheVariants.{Refused, NameCount, RowCount, RepeatedName, UnknownName, NewNameCount, RepeatedNewName, OtherNames, OtherType, NoKeys, UnsupportedKey, UnknownColumn, UnsupportedAnswer, RepeatedAnswer, SumOverflow}
use Rattle.typed_columns.specs.Typed.{TypedForm}
use Rattle.c_tables.specs.TableEnding.{IsMemory}

-- two places of one name are one
pub one_place : (names : List (List ℕ)) (name : List ℕ) (i j : ℕ) → AreDistinct names (length names) → i < length names → j < length names → slice_get names i ≡ Some name → slice_get names j ≡ Some name → i ≡ j
one_place names name i j distinct here there first second = elim (cases_lt i j) [
  | inl below ↦ absurd (distinct i j below there (first ∙ sym second))
  | inr past ↦ elim (cases_lt j i) [
    | inl below ↦ absurd (distinct j i below here (second ∙ sym first))
    | inr other ↦ omega (arith, past, other)
  ]
]

pub some_same : {X : Type 0} (x y : X) → ◌≡◌ {A = Option X} (Some x) (Some y) → x ≡ y
some_same {X} x y same = ap (λ (o : Option X). unwrap_or o x) same

-- the columns from a place on, chosen by the names from there on
module _ (t : TableForm) (table : IsTable t) where
  head_same : (name : List ℕ) (column own : TypedForm) (place : ℕ) → slice_get t.names place ≡ Some name → place < length t.names → slice_get t.columns place ≡ Some own → IsNamed t name column → column ≡ own
  head_same name column own place there within here named =
      let at : named.place ≡ place = one_place t.names name named.place place table.distinct named.name_there.within within named.name_there.there there in
      some_same column own (sym named.column_there ∙ ap (slice_get t.columns) at ∙ here)

  rest_same : (place : ℕ) (names : List (List ℕ)) (columns own : List TypedForm) → place + length names ≡ length t.names → ((k : ℕ) → slice_get names k ≡ slice_get t.names (place + k)) → ((k : ℕ) → slice_get own k ≡ slice_get t.columns (place + k))
      → length names ≡ length own → AllZip (IsNamed t) names columns → columns ≡ own
  rest_same place [] [] [] long at here even named = refl
  rest_same place [] [] (o ∷ own) long at here even named = absurd (omega (arith, even))
  rest_same place [] (c ∷ columns) own long at here even named = absurd named
  rest_same place (n ∷ names) [] own long at here even named = absurd named
  rest_same place (n ∷ names) (c ∷ columns) [] long at here even named = absurd (omega (arith, even))
  rest_same place (n ∷ names) (c ∷ columns) (o ∷ own) long at here even named =
      let first : place + 0 ≡ place = omega arith in
      let there : slice_get t.names place ≡ Some n = ap (slice_get t.names) (sym first) ∙ sym (at 0) in
      let held : slice_get t.columns place ≡ Some o = ap (slice_get t.columns) (sym first) ∙ sym (here 0) in
      let next : (k : ℕ) → place + suc k ≡ place + 1 + k = λ k. omega arith in
      let head : c ≡ o = head_same n c o place there (omega (arith, long)) held named.0 in
      let tail : columns ≡ own = rest_same (place + 1) names columns own (omega (arith, long)) (λ k. at (suc k) ∙ ap (slice_get t.names) (next k)) (λ k. here (suc k) ∙ ap (slice_get t.columns) (next k)) (omega (arith, even)) named.1 in
      (λ i. head i ∷ tail i)

  columns_same : (columns : List TypedForm) → AllZip (IsNamed t) t.names columns → columns ≡ t.columns
  columns_same columns named =
      let first : (k : ℕ) → k ≡ 0 + k = λ k. omega arith in
      rest_same 0 t.names columns t.columns (omega arith) (λ k. ap (slice_get t.names) (first k)) (λ k. ap (slice_get t.columns) (first k)) table.named named

  pub selection_same : (after : TableForm) (asked : List (List ℕ)) → asked ≡ t.names → IsSelection t asked after → after ≡ t
  selection_same after asked same chosen =
      let names : after.names ≡ t.names = chosen.names ∙ same in
      let columns : after.columns ≡ t.columns = columns_same after.columns (subst (λ (l : List (List ℕ)). AllZip (IsNamed t) l after.columns) same chosen.columns) in
      ap (λ (n : List (List ℕ)). table_with n after.columns after.count) names ∙ ap (λ (c : List TypedForm). table_with t.names c after.count) columns ∙ ap (λ (k : ℕ). table_with t.names t.columns k) chosen.count

  never_repeated : (earlier place : ℕ) → ¬ IsFirstRepeated t.names earlier place
  never_repeated earlier place found = table.distinct earlier place found.before found.within found.equal

  -- a name at a place of the list is known
  place_there : (names : List (List ℕ)) (place : ℕ) (name : List ℕ) → slice_get names place ≡ Some name → place < length names
  place_there [] place name there = cc
  place_there (n ∷ names) zero name there = omega arith
  place_there (n ∷ names) (suc place) name there = let below = place_there names place name there in omega (arith, below)

  never_unknown : (place : ℕ) → ¬ IsFirstUnknown t.names t.names place
  never_unknown place found = found.unknown place (record { within = place_there t.names place found.name found.there; there = found.there })

  own_short : (error : TableError) → IsSelectError t.names t.names error → IsMemory error
  own_short (Refused error) refused = ap Refused refused.0
  own_short (RepeatedName earlier place) refused = absurd (never_repeated earlier place refused)
  own_short (UnknownName place) refused = absurd (never_unknown place refused.1)
  own_short (NameCount n m) refused = absurd refused
  own_short (RowCount place found wanted) refused = absurd refused
  own_short (NewNameCount n m) refused = absurd refused
  own_short (RepeatedNewName earlier place) refused = absurd refused
  own_short OtherNames refused = absurd refused
  own_short (OtherType place) refused = absurd refused
  own_short NoKeys refused = absurd refused
  own_short (UnsupportedKey key) refused = absurd refused
  own_short (UnknownColumn answer) refused = absurd refused
  own_short (UnsupportedAnswer answer) refused = absurd refused
  own_short (RepeatedAnswer earlier answer) refused = absurd refused
  own_short (SumOverflow answer group) refused = absurd refused

  -- that is refused only for memory
  pub selection_short : (asked : List (List ℕ)) (error : TableError) → asked ≡ t.names → IsSelectError t.names asked error → IsMemory error
  selection_short asked error same refused = own_short error (subst (λ (l : List (List ℕ)). IsSelectError t.names l error) same refused)
