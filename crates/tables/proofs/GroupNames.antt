-- The names of keys, and after them those of answers.
use Rattle.std.proofs.Common.{◌≡◌, ◌∙◌, ◌+◌, ◌-◌, ◌<◌, ◌≤◌, ◌++◌, ℕ, zero, suc, List, [], ◌∷◌, Some, ap, arith, get_or, inl, inr, length, map, refl, sym, take}
use Rattle.std.specs.Prelude.{slice_get}
use Rattle.std.specs.String.{string_bytes}
use Rattle.std.proofs.lemmas.Bool.{cases_lt}
use Rattle.std.proofs.lemmas.List.{length-append, length-map, length-take}
use Rattle.tables.specs.declared.groups.Asked.{Asked}
use Rattle.tables.specs.Grouping.{AskedForm, asked_of, group_names}
use Rattle.tables.specs.TableFaults.{IsFirstRepeated}
use Rattle.tables.specs.Tables.{AreDistinct, IsPlaceOf, IsUnknown}
use Rattle.tables.proofs.NameLists.{mapped_at, mapped_below}

-- the name of an answer as it is held
abbrev pub name_in : {A : Type 0} → Asked A → List ℕ
name_in asked = string_bytes asked.name

-- an item of the first list, and of the one after it
at_front : {X : Type 0} (xs ys : List X) (k : ℕ) → k < length xs → slice_get (xs ++ ys) k ≡ slice_get xs k
at_front [] ys k within = absurd (omega (arith, within))
at_front (x ∷ xs) ys zero within = refl
at_front (x ∷ xs) ys (suc k) within = at_front xs ys k (omega (arith, within))

at_behind : {X : Type 0} (xs ys : List X) (k i : ℕ) → i ≡ length xs + k → slice_get (xs ++ ys) i ≡ slice_get ys k
at_behind [] ys k i at = let same : i ≡ k = omega (arith, at) in ap (slice_get ys) same
at_behind (x ∷ xs) ys k zero at = absurd (omega (arith, at))
at_behind (x ∷ xs) ys k (suc i) at = at_behind xs ys k i (omega (arith, at))

names_asked : {A : Type 0} (asked : List (Asked A)) → map (λ (a : AskedForm). a.name) (map asked_of asked) ≡ map name_in asked
names_asked [] = refl
names_asked (a ∷ asked) = ap (λ (names : List (List ℕ)). name_in a ∷ names) (names_asked asked)

pub names_long : {A : Type 0} (keys : List (List ℕ)) (asked : List (Asked A)) → length (group_names keys (map asked_of asked)) ≡ length keys + length asked
names_long keys asked =
    length-append keys (map (λ (a : AskedForm). a.name) (map asked_of asked)) ∙ ap (λ (n : ℕ). length keys + n) (length-map (map asked_of asked) (λ (a : AskedForm). a.name) ∙ length-map asked asked_of)

-- the name at the place of a key, and of an answer
key_at : {A : Type 0} (keys : List (List ℕ)) (asked : List (Asked A)) (count k : ℕ) → length keys ≡ count → k < count → slice_get (group_names keys (map asked_of asked)) k ≡ slice_get keys k
key_at keys asked count k long within = at_front keys (map (λ (a : AskedForm). a.name) (map asked_of asked)) k (omega (arith, long, within))

answer_at : {A : Type 0} (keys : List (List ℕ)) (asked : List (Asked A)) (count k : ℕ) → length keys ≡ count → slice_get (group_names keys (map asked_of asked)) (count + k) ≡ slice_get (map name_in asked) k
answer_at keys asked count k long =
    at_behind keys (map (λ (a : AskedForm). a.name) (map asked_of asked)) k (count + k) (omega (arith, long)) ∙ ap (λ (names : List (List ℕ)). slice_get names k) (names_asked asked)

-- keys have names of their own
pub keys_distinct : {A : Type 0} (keys : List (List ℕ)) (asked : List (Asked A)) (count : ℕ) → length keys ≡ count → AreDistinct keys count → AreDistinct (group_names keys (map asked_of asked)) (count + 0)
keys_distinct keys asked count long distinct i j before below same =
    let inside : j < count = omega (arith, below) in
    let first : i < count = omega (arith, before, inside) in
    distinct i j before inside (sym (key_at keys asked count i long first) ∙ same ∙ key_at keys asked count j long inside)

-- an answer whose name a key has
pub repeated_key : {A : Type 0} (keys : List (List ℕ)) (asked : List (Asked A)) (count place : ℕ) (asks : Asked A) (earlier : ℕ) → length keys ≡ count → place < length asked → asks ≡ get_or asked place asks
    → IsPlaceOf keys (name_in asks) earlier → AreDistinct (group_names keys (map asked_of asked)) (count + place) → IsFirstRepeated (group_names keys (map asked_of asked)) earlier (count + place)
repeated_key keys asked count place asks earlier long within here at distinct =
    let inside : earlier < count = omega (arith, at.within, long) in
    record {
      before = omega (arith, inside);
      within = omega (arith, names_long keys asked, within, long);
      equal = key_at keys asked count earlier long inside ∙ at.there ∙ sym (answer_at keys asked count place long ∙ mapped_at name_in asked place asks within here);
      distinct = distinct;
    }

-- or an earlier answer
pub repeated_answer : {A : Type 0} (keys : List (List ℕ)) (asked : List (Asked A)) (count place : ℕ) (asks : Asked A) (earlier : ℕ) → length keys ≡ count → place < length asked → asks ≡ get_or asked place asks
    → IsPlaceOf (map name_in (take place asked)) (name_in asks) earlier → AreDistinct (group_names keys (map asked_of asked)) (count + place)
    → IsFirstRepeated (group_names keys (map asked_of asked)) (count + earlier) (count + place)
repeated_answer keys asked count place asks earlier long within here at distinct =
    let before : earlier < place = omega (arith, at.within, length-map (take place asked) name_in, length-take place asked) in
    record {
      before = omega (arith, before);
      within = omega (arith, names_long keys asked, within, long);
      equal = answer_at keys asked count earlier long ∙ sym (mapped_below name_in asked place earlier before) ∙ at.there ∙ sym (answer_at keys asked count place long ∙ mapped_at name_in asked place asks within here);
      distinct = distinct;
    }

-- one answer more whose name neither has
pub answer_more : {A : Type 0} (keys : List (List ℕ)) (asked : List (Asked A)) (count place : ℕ) (asks : Asked A) → length keys ≡ count → place < length asked → asks ≡ get_or asked place asks
    → IsUnknown keys (name_in asks) → IsUnknown (map name_in (take place asked)) (name_in asks) → AreDistinct (group_names keys (map asked_of asked)) (count + place) → AreDistinct (group_names keys (map asked_of asked)) (count + (place + 1))
answer_more keys asked count place asks long within here no_key no_answer distinct i j before below same = elim (cases_lt j (count + place)) [
  | inl under ↦ distinct i j before under same
  | inr past ↦
      let names = group_names keys (map asked_of asked) in
      let at : j ≡ count + place = omega (arith, past, below) in
      let found : slice_get names i ≡ Some (name_in asks) = same ∙ ap (slice_get names) at ∙ answer_at keys asked count place long ∙ mapped_at name_in asked place asks within here in
      elim (cases_lt i count) [
        | inl front ↦ no_key i (record { within = omega (arith, front, long); there = sym (key_at keys asked count i long front) ∙ found })
        | inr behind ↦
            let k = i - count in
            let under : k < place = omega (arith, behind, before, at) in
            let shifted : count + k ≡ i = omega (arith, behind) in
            no_answer k (record {
              within = omega (arith, under, within, length-map (take place asked) name_in, length-take place asked);
              there = mapped_below name_in asked place k under ∙ sym (answer_at keys asked count k long) ∙ ap (slice_get names) shifted ∙ found;
            })
      ]
]

-- all names, once the answers are at their end
pub names_distinct : {A : Type 0} (keys : List (List ℕ)) (asked : List (Asked A)) (count place : ℕ) → length keys ≡ count → length asked ≤ place → AreDistinct (group_names keys (map asked_of asked)) (count + place)
    → AreDistinct (group_names keys (map asked_of asked)) (length (group_names keys (map asked_of asked)))
names_distinct keys asked count place long all distinct i j before below same = distinct i j before (omega (arith, names_long keys asked, below, long, all)) same
