-- Items and their flags, read by index.
use Rattle.std.proofs.Common.{◌≡◌, ◌∙◌, ◌<◌, ◌≤◌, ℕ, zero, suc, ℤ, List, [], ◌∷◌, Bool, true, false, Some, None, length, map, refl, sym, ap, arith}
use Rattle.std.specs.Prelude.{replicate, slice_get, slice_index_or, option_map}
use Rattle.std.proofs.lemmas.List.{get_or-replicate, length-map, length-replicate}
use Rattle.std.proofs.lemmas.Option.{slice_get-get_or, slice_get-map}
use Rattle.column_core.specs.Optionals.{optionals}
use Rattle.column_sums.specs.Reach.{has_number}
use Rattle.column_core.proofs.OptionalRows.{length-optionals-le, null-at, optionals-at}

-- there are no more optional items than flags
pub length-optionals-flags : {B : Type 0} (xs : List B) (flags : List Bool) → length (optionals xs flags) ≤ length flags
length-optionals-flags [] flags = omega arith
length-optionals-flags (x ∷ xs) [] = omega arith
length-optionals-flags (x ∷ xs) (flag ∷ flags) = let rest = length-optionals-flags xs flags in omega arith

-- so an optional number has an item
pub within_items : {S : Type 0} (number : S → ℤ) (items : List S) (flags : List Bool) (k : ℕ) → k < length (optionals (map number items) flags) → k < length items
within_items number items flags k within = omega (arith, length-optionals-le (map number items) flags, length-map items number)

-- and a flag
pub within_flags : {S : Type 0} (number : S → ℤ) (items : List S) (flags : List Bool) (k : ℕ) → k < length (optionals (map number items) flags) → k < length flags
within_flags number items flags k within = omega (arith, length-optionals-flags (map number items) flags)

-- where the flag is true, it is the item's number
pub valid_item : {S : Type 0} (number : S → ℤ) (items : List S) (flags : List Bool) (k : ℕ) (item : S) (n : ℤ) (flag : Bool) → slice_get items k ≡ Some item → n ≡ number item
    → slice_get flags k ≡ Some flag → flag ≡ true → slice_get (optionals (map number items) flags) k ≡ Some (Some n)
valid_item number items flags k item n flag stored same here valid =
    optionals-at (map number items) flags k n true (slice_get-map number items k ∙ ap (option_map number) stored ∙ sym (ap Some same)) (here ∙ ap Some valid)

-- and where it is false, null
pub null_item : {S : Type 0} (number : S → ℤ) (items : List S) (flags : List Bool) (k : ℕ) (flag : Bool) → k < length (optionals (map number items) flags)
    → slice_get flags k ≡ Some flag → flag ≡ false → slice_get (optionals (map number items) flags) k ≡ Some None
null_item number items flags k flag within here null =
    null-at (map number items) flags k (omega (arith, length-optionals-le (map number items) flags)) (here ∙ ap Some null)

-- a number that is shown is that of the item
pub item-stored : {S : Type 0} (number : S → ℤ) (items : List S) (flags : List Bool) (k : ℕ) (n : ℤ) → slice_get (optionals (map number items) flags) k ≡ Some (Some n)
    → option_map (λ (item : S). Some (number item)) (slice_get items k) ≡ Some (Some n)
item-stored number [] flags k n at = absurd (cc)
item-stored number (item ∷ items) [] k n at = absurd (cc)
item-stored number (item ∷ items) (true ∷ flags) zero n at = at
item-stored number (item ∷ items) (false ∷ flags) zero n at = absurd (cc)
item-stored number (item ∷ items) (flag ∷ flags) (suc k) n at = item-stored number items flags k n at

-- there is one where the flag is true
pub has_number-at : {S : Type 0} (number : S → ℤ) (items : List S) (flags : List Bool) (k : ℕ) → k < length (optionals (map number items) flags)
    → has_number (slice_get (optionals (map number items) flags) k) ≡ slice_index_or flags k false
has_number-at number [] flags k within = absurd (omega (arith, within))
has_number-at number (item ∷ items) [] k within = absurd (omega (arith, within))
has_number-at number (item ∷ items) (true ∷ flags) zero within = refl
has_number-at number (item ∷ items) (false ∷ flags) zero within = refl
has_number-at number (item ∷ items) (flag ∷ flags) (suc k) within = has_number-at number items flags k (omega (arith, within))

-- a copy is read as what is copied
pub copy-at : {B : Type 0} (n k : ℕ) (x : B) → k < n → slice_get (replicate n x) k ≡ Some x
copy-at n k x within = slice_get-get_or (replicate n x) k x (omega (arith, within, length-replicate n x)) ∙ ap Some (get_or-replicate n k x x within)

-- items of which none is valid are so many nulls
pub optionals-none : {B : Type 0} (xs : List B) → optionals xs (replicate (length xs) false) ≡ replicate (length xs) None
optionals-none [] = refl
optionals-none (x ∷ xs) = ap (λ os. None ∷ os) (optionals-none xs)
