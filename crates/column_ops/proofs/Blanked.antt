-- Lemmas on items with another one in place of each null.
use Rattle.std.proofs.Common.{◌≡◌, ◌∙◌, ◌+◌, ◌<◌, ℕ, ℤ, zero, suc, pos, List, [], ◌∷◌, ◌++◌, Bool, true, false, Option, Some, None, length, map, take, replicate, refl, sym, ap}
use Rattle.std.specs.Prelude.{option_map, slice_get, unwrap_or}
use Rattle.std.proofs.lemmas.List.{length-map, map_push}
use Rattle.column_base.specs.ValidityForm.{ValidityForm, NeverNull, flags}
use Rattle.column_core.specs.Optionals.{optionals, AreBlankAtNulls}
use Rattle.column_base.specs.declared.dtype.Nullability.{Nullability}
use Rattle.column_base.specs.declared.dtype.Nullability.TheVariants.{NonNullable}
use Rattle.column_ops.specs.Fill.{fill_rows}
use Rattle.column_ops.specs.Written.{AreStoredAs, IsValidityOf}
use Rattle.column_core.proofs.OptionalRows.{length-optionals, null-at, optionals-at}
use Rattle.column_ops.proofs.Passed.{take_more}

-- each item where its flag is true, and this one elsewhere
abbrev pub items_or : {B : Type 0} → List B → List Bool → B → List B
items_or items bits instead = map (λ row. unwrap_or row instead) (optionals items bits)

-- where all flags are true the items stay
pub items_or-valid : {B : Type 0} (items : List B) (instead : B) → items_or items (replicate (length items) true) instead ≡ items
items_or-valid [] instead = refl
items_or-valid (x ∷ items) instead = ap (λ xs. x ∷ xs) (items_or-valid items instead)

-- where none is true there is only that one
pub items_or-null : {B : Type 0} (items : List B) (instead : B) → items_or items (replicate (length items) false) instead ≡ replicate (length items) instead
items_or-null [] instead = refl
items_or-null (x ∷ items) instead = ap (λ xs. instead ∷ xs) (items_or-null items instead)

-- mapped items, with what that one is mapped to
pub items_or-mapped : {B C : Type 0} (f : B → C) (items : List B) (bits : List Bool) (instead : B) → map f (items_or items bits instead) ≡ items_or (map f items) bits (f instead)
items_or-mapped f [] bits instead = refl
items_or-mapped f (x ∷ items) [] instead = refl
items_or-mapped f (x ∷ items) (true ∷ bits) instead = ap (λ xs. f x ∷ xs) (items_or-mapped f items bits instead)
items_or-mapped f (x ∷ items) (false ∷ bits) instead = ap (λ xs. f instead ∷ xs) (items_or-mapped f items bits instead)

-- all rows are valid where there are as many true flags
pub optionals-valid : {B : Type 0} (items : List B) → optionals items (replicate (length items) true) ≡ map (λ x. Some x) items
optionals-valid [] = refl
optionals-valid (x ∷ items) = ap (λ rows. Some x ∷ rows) (optionals-valid items)

-- nothing is asked of items that are all valid
pub blank-valid : {B : Type 0} (blank : B) (items : List B) (n : ℕ) → AreBlankAtNulls blank items (replicate n true)
blank-valid blank [] n = tt
blank-valid blank (x ∷ items) zero = tt
blank-valid blank (x ∷ items) (suc n) = ((λ wrong. cc), blank-valid blank items n)

map-both : {A B C : Type 0} (g : B → C) (f : A → B) (xs : List A) → map g (map f xs) ≡ map (λ x. g (f x)) xs
map-both g f [] = refl
map-both g f (x ∷ xs) = ap (λ ys. g (f x) ∷ ys) (map-both g f xs)

-- filled items without null are the rows with the value in place of each null
pub AreStoredAs-filled : {B : Type 0} (blank value : B) (rows : List (Option B)) (filled : List B) → filled ≡ map (λ row. unwrap_or row value) rows
    → AreStoredAs blank (fill_rows rows value) NonNullable filled NeverNull
AreStoredAs-filled blank value rows filled same = record {
  shown = optionals-valid filled ∙ ap (map (λ x. Some x)) same ∙ map-both (λ x. Some x) (λ row. unwrap_or row value) rows;
  fits = tt;
  computed = record { blanked = blank-valid blank filled (length filled); normal = tt; some = λ wrong. cc };
  nullability = refl;
}

-- there are as many
pub length-items_or : {B : Type 0} (items : List B) (bits : List Bool) (instead : B) → length bits ≡ length items → length (items_or items bits instead) ≡ length items
length-items_or items bits instead long = length-map (optionals items bits) (λ row. unwrap_or row instead) ∙ length-optionals items bits long

-- under the same flags the rows are the same
optionals-items_or : {B : Type 0} (items : List B) (bits : List Bool) (blank : B) → optionals (items_or items bits blank) bits ≡ optionals items bits
optionals-items_or [] bits blank = refl
optionals-items_or (x ∷ items) [] blank = refl
optionals-items_or (x ∷ items) (true ∷ bits) blank = ap (λ rows. Some x ∷ rows) (optionals-items_or items bits blank)
optionals-items_or (x ∷ items) (false ∷ bits) blank = ap (λ rows. None ∷ rows) (optionals-items_or items bits blank)

-- and the blank one is stored under null
blanked-items_or : {B : Type 0} (items : List B) (bits : List Bool) (blank : B) → AreBlankAtNulls blank (items_or items bits blank) bits
blanked-items_or [] bits blank = tt
blanked-items_or (x ∷ items) [] blank = tt
blanked-items_or (x ∷ items) (true ∷ bits) blank = ((λ wrong. cc), blanked-items_or items bits blank)
blanked-items_or (x ∷ items) (false ∷ bits) blank = ((λ null. refl), blanked-items_or items bits blank)

-- items with the blank one under null, and a validity of their flags, are the rows as a call computes them
pub AreStoredAs-kept : {B : Type 0} (blank : B) (items : List B) (bits : List Bool) (wanted : Nullability) (kept : List B) (count : ℕ) (form : ValidityForm)
    → length bits ≡ length items → count ≡ length items → kept ≡ items_or items bits blank → IsValidityOf bits wanted count form → AreStoredAs blank (optionals items bits) wanted kept form
AreStoredAs-kept blank items bits wanted kept count form long counted same is =
    let sized : length kept ≡ count = ap length same ∙ length-items_or items bits blank long ∙ sym counted in
    let told : flags form (length kept) ≡ bits = ap (flags form) sized ∙ is.shown in
    record {
      shown = ap (optionals kept) told ∙ ap (λ xs. optionals xs bits) same ∙ optionals-items_or items bits blank;
      fits = rw sized is.fits;
      computed = record {
        blanked = rw (told, same) (blanked-items_or items bits blank);
        normal = is.normal;
        some = λ null. rw sized (is.some null);
      };
      nullability = is.nullability;
    }

-- an optional number that is shown by another type, or 0
number-or : {X : Type 0} (number : X → ℤ) (o : Option X) (d : X) → number d ≡ pos 0 → number (unwrap_or o d) ≡ unwrap_or (option_map number o) (pos 0)
number-or number None d zeroth = zeroth
number-or number (Some x) d zeroth = refl

-- one number more that is cast, with 0 for null
pub cast-more : {X : Type 0} (number : X → ℤ) (items more : List X) (rows : List (Option ℤ)) (k : ℕ) (o : Option X) (d x : X) (row : Option ℤ)
    → map number items ≡ map (λ row. unwrap_or row (pos 0)) (take k rows) → more ≡ items ++ x ∷ [] → x ≡ unwrap_or o d → number d ≡ pos 0 → option_map number o ≡ row → slice_get rows k ≡ Some row
    → map number more ≡ map (λ row. unwrap_or row (pos 0)) (take (k + 1) rows)
cast-more number items more rows k o d x row old grown read zeroth same here =
    let shown : number x ≡ unwrap_or row (pos 0) = ap number read ∙ number-or number o d zeroth ∙ ap (λ r. unwrap_or r (pos 0)) same in
    ap (map number) grown ∙ map_push number items x ∙ ap (λ xs. xs ++ number x ∷ []) old ∙ ap (λ n. map (λ row. unwrap_or row (pos 0)) (take k rows) ++ n ∷ []) shown
    ∙ sym (ap (map (λ row. unwrap_or row (pos 0))) (take_more rows k row here) ∙ map_push (λ row. unwrap_or row (pos 0)) (take k rows) row)
