-- Rows of items and flags, to which others are appended.
use Rattle.std.proofs.Common.{◌≡◌, ◌∙◌, ℕ, zero, suc, List, [], ◌∷◌, ◌++◌, Bool, Option, Some, None, length, map, drop, refl, sym, ap, arith}
use Rattle.std.specs.Prelude.{All, if◌then◌else◌, option_map}
use Rattle.std.proofs.lemmas.List.{drop-map, map-append}
use Rattle.std.proofs.lemmas.List.Elements.{All-head, All-tail}
use Rattle.column_core.specs.Optionals.{AreBlankAtNulls, optionals}
use Rattle.column_core.specs.Value.{FlatValue, Single, Value}

-- the rows of items where these flags are true, and null elsewhere
abbrev pub rows_of : {X : Type 0} → (X → FlatValue) → List X → List Bool → List (Option Value)
rows_of value items bits = map (option_map Single) (map (option_map value) (optionals items bits))

-- optional items after others
optionals-append : {X : Type 0} (xs ys : List X) (bs cs : List Bool) → length bs ≡ length xs → optionals (xs ++ ys) (bs ++ cs) ≡ optionals xs bs ++ optionals ys cs
optionals-append [] ys [] cs same = refl
optionals-append [] ys (b ∷ bs) cs same = cc
optionals-append (x ∷ xs) ys [] cs same = cc
optionals-append {X} (x ∷ xs) ys (b ∷ bs) cs same = ap (λ (os : List (Option X)). (if b then Some x else None) ∷ os) (optionals-append xs ys bs cs (omega arith))

-- those from one on
optionals-rest : {X : Type 0} (xs : List X) (bs : List Bool) (k : ℕ) → length bs ≡ length xs → optionals (drop k xs) (drop k bs) ≡ drop k (optionals xs bs)
optionals-rest xs bs zero same = refl
optionals-rest [] [] (suc k) same = refl
optionals-rest [] (b ∷ bs) (suc k) same = cc
optionals-rest (x ∷ xs) [] (suc k) same = cc
optionals-rest (x ∷ xs) (b ∷ bs) (suc k) same = optionals-rest xs bs k (omega arith)

-- so of rows
pub rows_append : {X : Type 0} (value : X → FlatValue) (xs ys : List X) (bs cs : List Bool) (k : ℕ) → length bs ≡ length xs → length cs ≡ length ys
    → rows_of value (xs ++ drop k ys) (bs ++ drop k cs) ≡ rows_of value xs bs ++ drop k (rows_of value ys cs)
rows_append {X} value xs ys bs cs k own others =
    let single : Option FlatValue → Option Value = option_map Single in
    let shown : Option X → Option FlatValue = option_map value in
    ap (λ (os : List (Option X)). map single (map shown os)) (optionals-append xs (drop k ys) bs (drop k cs) own ∙ ap (λ (os : List (Option X)). optionals xs bs ++ os) (optionals-rest ys cs k others))
    ∙ ap (map single) (map-append shown (optionals xs bs) (drop k (optionals ys cs)))
    ∙ map-append single (map shown (optionals xs bs)) (map shown (drop k (optionals ys cs)))
    ∙ ap (λ (os : List (Option Value)). rows_of value xs bs ++ os) (ap (map single) (sym (drop-map shown k (optionals ys cs))) ∙ sym (drop-map single k (map shown (optionals ys cs))))

-- the blank item stays stored where a flag is false
pub blank-append : {X : Type 0} (blank : X) (xs ys : List X) (bs cs : List Bool) → length bs ≡ length xs → AreBlankAtNulls blank xs bs → AreBlankAtNulls blank ys cs → AreBlankAtNulls blank (xs ++ ys) (bs ++ cs)
blank-append blank [] ys [] cs same own others = others
blank-append blank [] ys (b ∷ bs) cs same own others = cc
blank-append blank (x ∷ xs) ys [] cs same own others = cc
blank-append blank (x ∷ xs) ys (b ∷ bs) cs same own others = (own.0, blank-append blank xs ys bs cs (omega arith) own.1 others)

nothing_blank : {X : Type 0} (blank : X) (xs : List X) → AreBlankAtNulls blank xs []
nothing_blank blank [] = tt
nothing_blank blank (x ∷ xs) = tt

pub blank-rest : {X : Type 0} (blank : X) (xs : List X) (bs : List Bool) (k : ℕ) → AreBlankAtNulls blank xs bs → AreBlankAtNulls blank (drop k xs) (drop k bs)
blank-rest blank xs bs zero own = own
blank-rest blank [] bs (suc k) own = tt
blank-rest blank (x ∷ xs) [] (suc k) own = nothing_blank blank (drop k xs)
blank-rest blank (x ∷ xs) (b ∷ bs) (suc k) own = blank-rest blank xs bs k own.1

-- what is made of the blank item is stored there
pub blank-map : {X Y : Type 0} (f : X → Y) (blank : X) (made : Y) (xs : List X) (bs : List Bool) → f blank ≡ made → AreBlankAtNulls blank xs bs → AreBlankAtNulls made (map f xs) bs
blank-map f blank made [] bs same own = tt
blank-map f blank made (x ∷ xs) [] same own = tt
blank-map f blank made (x ∷ xs) (b ∷ bs) same own = (λ null. ap f (own.0 null) ∙ same, blank-map f blank made xs bs same own.1)

-- and the blank item, where nothing else makes that
pub blank-unmap : {X Y : Type 0} (f : X → Y) (blank : X) (made : Y) (xs : List X) (bs : List Bool) → All (λ x. f x ≡ made → x ≡ blank) xs → AreBlankAtNulls made (map f xs) bs → AreBlankAtNulls blank xs bs
blank-unmap f blank made [] bs only own = tt
blank-unmap f blank made (x ∷ xs) [] only own = tt
blank-unmap {X} f blank made (x ∷ xs) (b ∷ bs) only own =
    (λ null. All-head (λ (y : X). f y ≡ made → y ≡ blank) x xs only (own.0 null), blank-unmap f blank made xs bs (All-tail (λ (y : X). f y ≡ made → y ≡ blank) x xs only) own.1)
