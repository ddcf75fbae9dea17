-- Items as a computed column stores them: a blank one under null.
use Rattle.std.proofs.Common.{◌≡◌, ℕ, zero, suc, ◌<◌, List, [], ◌∷◌, Bool, true, false, Some, None, length, map, replicate, refl, ◌∙◌, ap, arith}
use Rattle.std.specs.Prelude.{unwrap_or}
use Rattle.std.specs.List.{slice_get}
use Rattle.std.specs.Option.{option_map}
use Rattle.std.proofs.lemmas.List.{length-map}
use Rattle.std.proofs.lemmas.Option.{slice_get-map}
use Rattle.column_base.specs.ValidityForm.{ValidityForm, HasLength, flags, flag_at}
use Rattle.column_base.proofs.ValidityRows.{flags-at, length-flags}
use Rattle.column_core.specs.Optionals.{optionals, AreBlankAtNulls}
use Rattle.column_core.proofs.OptionalRows.{length-optionals, optionals-at, null-at}
use Rattle.runend_windows.specs.Encoding.{blanked}

-- items with the blank one under null show what they did
pub optionals-blanked : {B : Type 0} (blank : B) (items : List B) (flags : List Bool) → length flags ≡ length items
    → optionals (blanked blank (optionals items flags)) flags ≡ optionals items flags
optionals-blanked blank [] flags paired = refl
optionals-blanked blank (x ∷ items) [] paired = cc
optionals-blanked blank (x ∷ items) (true ∷ flags) paired = ap (λ rows. Some x ∷ rows) (optionals-blanked blank items flags (omega arith))
optionals-blanked blank (x ∷ items) (false ∷ flags) paired = ap (λ rows. None ∷ rows) (optionals-blanked blank items flags (omega arith))

pub AreBlankAtNulls-blanked : {B : Type 0} (blank : B) (items : List B) (flags : List Bool) → AreBlankAtNulls blank (blanked blank (optionals items flags)) flags
AreBlankAtNulls-blanked blank [] flags = tt
AreBlankAtNulls-blanked blank (x ∷ items) [] = tt
AreBlankAtNulls-blanked blank (x ∷ items) (true ∷ flags) = ((λ (e : true ≡ false). cc), AreBlankAtNulls-blanked blank items flags)
AreBlankAtNulls-blanked blank (x ∷ items) (false ∷ flags) = ((λ _. refl), AreBlankAtNulls-blanked blank items flags)

-- the blank item under null, by index
pub AreBlankAtNulls-at : {B : Type 0} (blank : B) (items : List B) (flags : List Bool) (k : ℕ) (x : B) → AreBlankAtNulls blank items flags → slice_get items k ≡ Some x
    → slice_get flags k ≡ Some false → x ≡ blank
AreBlankAtNulls-at blank [] flags k x blanked here flag = cc
AreBlankAtNulls-at blank (y ∷ items) [] k x blanked here flag = cc
AreBlankAtNulls-at blank (y ∷ items) (b ∷ flags) zero x blanked here flag =
    let null : b ≡ false = cc in
    let none = blanked.0 null in
    cc
AreBlankAtNulls-at blank (y ∷ items) (b ∷ flags) (suc k) x blanked here flag = AreBlankAtNulls-at blank items flags k x blanked.1 here flag

pub AreBlankAtNulls-from_each : {B : Type 0} (blank : B) (items : List B) (flags : List Bool)
    → ((k : ℕ) (x : B) → slice_get items k ≡ Some x → slice_get flags k ≡ Some false → x ≡ blank) → AreBlankAtNulls blank items flags
AreBlankAtNulls-from_each blank [] flags each = tt
AreBlankAtNulls-from_each blank (y ∷ items) [] each = tt
AreBlankAtNulls-from_each blank (y ∷ items) (b ∷ flags) each =
    ((λ null. each 0 y refl (ap Some null)), AreBlankAtNulls-from_each blank items flags (λ k. each (suc k)))

-- as many stored items as rows
pub length-blanked : {B : Type 0} (blank : B) (items : List B) (form : ValidityForm) → HasLength form (length items)
    → length (blanked blank (optionals items (flags form (length items)))) ≡ length items
length-blanked blank items form fits =
    let rows = optionals items (flags form (length items)) in
    let paired = length-flags form (length items) fits in
    length-map rows (λ o. unwrap_or o blank) ∙ length-optionals items (flags form (length items)) paired

-- what is stored in a row, by its flag
pub blanked-valid : {B : Type 0} (blank : B) (items : List B) (form : ValidityForm) (row : ℕ) (x : B) → HasLength form (length items) → slice_get items row ≡ Some x → row < length items
    → flag_at form row ≡ true → slice_get (blanked blank (optionals items (flags form (length items)))) row ≡ Some x
blanked-valid blank items form row x fits here within valid =
    slice_get-map (λ o. unwrap_or o blank) (optionals items (flags form (length items))) row
    ∙ ap (option_map (λ o. unwrap_or o blank)) (optionals-at items (flags form (length items)) row x true here (flags-at form (length items) row fits within ∙ ap Some valid))

pub blanked-null : {B : Type 0} (blank : B) (items : List B) (form : ValidityForm) (row : ℕ) → HasLength form (length items) → row < length items
    → flag_at form row ≡ false → slice_get (blanked blank (optionals items (flags form (length items)))) row ≡ Some blank
blanked-null blank items form row fits within null =
    slice_get-map (λ o. unwrap_or o blank) (optionals items (flags form (length items))) row
    ∙ ap (option_map (λ o. unwrap_or o blank)) (null-at items (flags form (length items)) row within (flags-at form (length items) row fits within ∙ ap Some null))

-- where no row is null, and where each is
pub blanked-none_null : {B : Type 0} (blank : B) (items : List B) (n : ℕ) → n ≡ length items → blanked blank (optionals items (replicate n true)) ≡ items
blanked-none_null blank [] n e = refl
blanked-none_null blank (x ∷ items) zero e = cc
blanked-none_null blank (x ∷ items) (suc n) e = ap (λ rows. x ∷ rows) (blanked-none_null blank items n (omega arith))

pub blanked-all_null : {B : Type 0} (blank : B) (items : List B) → blanked blank (optionals items (replicate (length items) false)) ≡ replicate (length items) blank
blanked-all_null blank [] = refl
blanked-all_null blank (x ∷ items) = ap (λ rows. blank ∷ rows) (blanked-all_null blank items)

-- stored items under a function of items
pub map-blanked : {B C : Type 0} (f : B → C) (blank : B) (items : List B) (flags : List Bool) → map f (blanked blank (optionals items flags)) ≡ blanked (f blank) (optionals (map f items) flags)
map-blanked f blank [] flags = refl
map-blanked f blank (x ∷ items) [] = refl
map-blanked f blank (x ∷ items) (true ∷ flags) = ap (λ rows. f x ∷ rows) (map-blanked f blank items flags)
map-blanked f blank (x ∷ items) (false ∷ flags) = ap (λ rows. f blank ∷ rows) (map-blanked f blank items flags)
