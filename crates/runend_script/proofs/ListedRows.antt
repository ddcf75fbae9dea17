-- Rows that words mean, one pushed after the other.
use Rattle.std.proofs.Common.{◌≡◌, ℕ, ℤ, ◌<◌, List, [], ◌∷◌, ◌++◌, Bool, true, false, Option, Some, None, length, map, get_or, inl, inr, refl, sym, ap, subst, ◌∙◌, append_assoc}
use Rattle.std.specs.Prelude.{◌⊎◌, All, is_some, replicate, if◌then◌else◌}
use Rattle.std.specs.List.{AllZip}
use Rattle.std.specs.Option.{UnwrapsOrElse}
use Rattle.std.proofs.lemmas.List.{append-nil, length-append, length-map, map-append}
use Rattle.std.proofs.lemmas.List.Elements.{All-get_or}
use Rattle.std.proofs.lemmas.Slice.Zip.{all_zipped_more}
use Rattle.column_base.specs.declared.dtype.Nullability.{Nullability}
use Rattle.column_base.specs.declared.dtype.Nullability.TheVariants.{NonNullable}
use Rattle.column_base.specs.ValidityForm.{ValidityForm, NeverNull, flags}
use Rattle.column_core.specs.Optionals.{optionals}
use Rattle.column_core.proofs.OptionalRows.{optionals-push}
use Rattle.runend_script.specs.declared.command.RowWords.{RowWords}
use Rattle.runend_script.specs.Rows.{IsRowOf, IsRowWord, PushesRows, ReadsValue}

-- a row for each word that was taken comes after the rows before
abbrev pub AreTaken : {S W : Type 0} → (S → ℤ) → (W → List ℕ) → RowWords → Nullability → List W → List (Option ℤ) → List S → List Bool → Type 0
AreTaken number text reading nullability taken before items valid =
    (rows : List (Option ℤ)) × AllZip (IsRowOf reading nullability) (map text taken) rows × (optionals (map number items) valid ≡ before ++ rows)

-- no word was taken
pub none_taken : {S W : Type 0} (number : S → ℤ) (text : W → List ℕ) (reading : RowWords) (nullability : Nullability) (items : List S) (valid : List Bool)
    → AreTaken number text reading nullability [] (optionals (map number items) valid) items valid
none_taken number text reading nullability items valid = ([], tt, sym (append-nil (optionals (map number items) valid)))

-- what is stored of a word's row, and whether it is there
pub stored_row : {S : Type 0} (number : S → ℤ) (default : S → Type 0) (reading : RowWords) (nullability : Nullability) (word : List ℕ) (row : Option S) (flag : Bool) (item : S)
    → ReadsValue number reading nullability word (Some row) → flag ≡ is_some row → UnwrapsOrElse row default item
    → IsRowOf reading nullability word (if flag then Some (number item) else None)
stored_row number default reading nullability word None flag item reads told unwrapped = rw told reads
stored_row number default reading nullability word (Some x) flag item reads told unwrapped = rw (told, unwrapped) reads

-- an item and a flag are pushed
pub pushed_both : {S : Type 0} (items all_items : List S) (item : S) (valid all_valid : List Bool) (flag : Bool) → length items ≡ length valid
    → all_items ≡ items ++ item ∷ [] → all_valid ≡ valid ++ flag ∷ [] → length all_items ≡ length all_valid
pushed_both items all_items item valid all_valid flag paired pushed flagged =
    rw (pushed, flagged, length-append items (item ∷ []), length-append valid (flag ∷ []), paired) refl

-- one more word is taken
pub one_taken : {S W : Type 0} (number : S → ℤ) (text : W → List ℕ) (reading : RowWords) (nullability : Nullability) (taken : List W) (before : List (Option ℤ)) (items all_items : List S) (valid all_valid : List Bool)
    (word : W) (item : S) (flag : Bool) → length items ≡ length valid → AreTaken number text reading nullability taken before items valid
    → IsRowOf reading nullability (text word) (if flag then Some (number item) else None) → all_items ≡ items ++ item ∷ [] → all_valid ≡ valid ++ flag ∷ []
    → AreTaken number text reading nullability (taken ++ word ∷ []) before all_items all_valid
one_taken number text reading nullability taken before items all_items valid all_valid word item flag paired kept is pushed flagged =
    let row : Option ℤ = if flag then Some (number item) else None in
    let pairs : length valid ≡ length (map number items) = sym paired ∙ sym (length-map items number) in
    let longer : optionals (map number (items ++ item ∷ [])) (valid ++ flag ∷ []) ≡ before ++ (kept.0 ++ row ∷ []) =
    rw (map-append number items (item ∷ [])) (optionals-push (map number items) valid (number item) flag pairs ∙ ap (λ xs. xs ++ row ∷ []) kept.2 ∙ append_assoc before kept.0 (row ∷ [])) in (
      kept.0 ++ row ∷ [],
      subst (λ ws. AllZip (IsRowOf reading nullability) ws (kept.0 ++ row ∷ [])) (sym (map-append text taken (word ∷ [])))
          (all_zipped_more (IsRowOf reading nullability) (map text taken) kept.0 (text word) row kept.1 is),
      rw (pushed, flagged) longer,
    )

-- all words are taken
pub all_taken : {S W : Type 0} (number : S → ℤ) (text : W → List ℕ) (reading : RowWords) (nullability : Nullability) (taken : List W) (words : List (List ℕ)) (before : List (Option ℤ)) (items : List S) (valid : List Bool)
    → AreTaken number text reading nullability taken before items valid → map text taken ≡ words → PushesRows reading nullability words before true (optionals (map number items) valid)
all_taken number text reading nullability taken words before items valid kept all = (kept.0, subst (λ ws. AllZip (IsRowOf reading nullability) ws kept.0) all kept.1, kept.2)

-- rows that are appended to none
pub behind_none : (reading : RowWords) (nullability : Nullability) (words : List (List ℕ)) (before after : List (Option ℤ)) → PushesRows reading nullability words before true after → before ≡ []
    → AllZip (IsRowOf reading nullability) words after
behind_none reading nullability words before after pushed none =
    subst (λ xs. AllZip (IsRowOf reading nullability) words xs) (sym (pushed.2 ∙ ap (λ xs. xs ++ pushed.0) none)) pushed.1

-- a word from which no value is read is none of a row
no_row : {S : Type 0} (number : S → ℤ) (reading : RowWords) (nullability : Nullability) (word : List ℕ) → ReadsValue number reading nullability word None → ¬ (IsRowWord reading nullability word)
no_row number reading nullability word none (None, null) = none.0 null
no_row number reading nullability word none (Some z, is) = none.1 z is

-- a word that does not mean a row is one of the words
pub not_each : {S : Type 0} (number : S → ℤ) (reading : RowWords) (nullability : Nullability) (words : List (List ℕ)) (k : ℕ) (word : List ℕ) → (k < length words) × (word ≡ get_or words k word)
    → ReadsValue number reading nullability word None → ¬ (All (IsRowWord reading nullability) words)
not_each number reading nullability words k word found none every =
    no_row number reading nullability word none (subst (λ w. IsRowWord reading nullability w) (sym found.1) (All-get_or (IsRowWord reading nullability) words k word found.0 every))

-- rows of a type without null are all there
pub all_there : (reading : RowWords) (words : List (List ℕ)) (numbers : List ℤ) (valid : List Bool) → length numbers ≡ length valid
    → AllZip (IsRowOf reading NonNullable) words (optionals numbers valid) → optionals numbers (replicate (length numbers) true) ≡ optionals numbers valid
all_there reading words [] valid paired rows = refl
all_there reading words (number ∷ numbers) [] paired rows = cc
all_there reading [] (number ∷ numbers) (flag ∷ valid) paired rows = absurd rows
all_there reading (word ∷ words) (number ∷ numbers) (true ∷ valid) paired rows = ap (λ xs. Some number ∷ xs) (all_there reading words numbers valid (cc) rows.1)
all_there reading (word ∷ words) (number ∷ numbers) (false ∷ valid) paired rows = let null = rows.0.0 in cc

-- flags of rows that are read: those that were pushed, or of a type without null none are needed
pub flagged : {S : Type 0} (number : S → ℤ) (reading : RowWords) (nullability : Nullability) (words : List (List ℕ)) (items : List S) (valid : List Bool) (form : ValidityForm) (shown : List ℤ)
    → length items ≡ length valid → ((nullability ≡ NonNullable) × (form ≡ NeverNull)) ⊎ (flags form (length valid) ≡ valid) → shown ≡ map number items
    → AllZip (IsRowOf reading nullability) words (optionals (map number items) valid)
    → AllZip (IsRowOf reading nullability) words (optionals shown (flags form (length shown)))
flagged number reading nullability words items valid form shown paired (inl never) same rows =
    let pairs : length (map number items) ≡ length valid = length-map items number ∙ paired in
    let typed : AllZip (IsRowOf reading NonNullable) words (optionals (map number items) valid) = subst (λ n. AllZip (IsRowOf reading n) words (optionals (map number items) valid)) never.0 rows in
    rw (same, never.1) (subst (λ found. AllZip (IsRowOf reading nullability) words found) (sym (all_there reading words (map number items) valid pairs typed)) rows)
flagged number reading nullability words items valid form shown paired (inr told) same rows =
    let pairs : length (map number items) ≡ length valid = length-map items number ∙ paired in
    rw (same, pairs, told) rows
