-- Runs whose bits say which of them show a number: what single runs show, and what is written of them.
use Rattle.std.proofs.Common.{◌≡◌, ◌≢◌, ◌+◌, ◌-◌, ◌<◌, ◌≤◌, ◌++◌, [], ◌∷◌, ℕ, ℤ, pos, List, Bool, true, false, Some, get_or, length, take, drop, map, refl, sym, ◌∙◌, ap, arith}
use Rattle.std.specs.List.{slice_get}
use Rattle.std.specs.Prelude.{replicate}
use Rattle.std.specs.Option.{option_map}
use Rattle.std.proofs.lemmas.List.{length-map, length_push, length-take-le, drop-replicate, drop-drop, get_or-drop, get_or-replicate}
use Rattle.std.proofs.lemmas.Option.{slice_get-get_or, slice_get-map, slice_get_read, same_Some}
use Rattle.column_core.specs.PrimitiveForm.{AreZeroAtNulls, optionals}
use Rattle.column_core.proofs.OptionalRows.{optionals-at, optionals-push, AreZeroAtNulls-push}
use Rattle.runend_windows.proofs.Blanked.{AreBlankAtNulls-at}
use Rattle.runend_windows.proofs.StoredNumbers.{optionals-push_mapped}
use Rattle.runend_encode.proofs.RunReads.{equal-optionals, flags-equal, numbers-equal, optional_of}

-- a run shows the number that is read, or null by its bit
pub marked-read : {S : Type 0} (number : S → ℤ) (items : List S) (marks : List Bool) (run : ℕ) (x : S) (valid : Bool) → run < length items
    → x ≡ get_or items run x → slice_get marks run ≡ Some valid → slice_get (optionals (map number items) marks) run ≡ Some (optional_of valid (number x))
marked-read number items marks run x valid within read flag =
    optionals-at (map number items) marks run (number x) valid
    (slice_get-map number items run ∙ ap (option_map number) (slice_get_read items (length items) run x refl within read)) flag

-- the number of a null is 0
pub marked-blank : {S : Type 0} (number : S → ℤ) (items : List S) (marks : List Bool) (run : ℕ) (x : S) (valid : Bool) → run < length items
    → x ≡ get_or items run x → slice_get marks run ≡ Some valid → AreZeroAtNulls (map number items) marks → valid ≡ false → number x ≡ pos 0
marked-blank number items marks run x valid within read flag zeroed null =
    AreBlankAtNulls-at (pos 0) (map number items) marks run (number x) zeroed
    (slice_get-map number items run ∙ ap (option_map number) (slice_get_read items (length items) run x refl within read)) (flag ∙ ap Some null)

-- runs of other numbers show other values
pub apart-by_number : {S : Type 0} (number : S → ℤ) (items : List S) (marks : List Bool) (j k : ℕ) (x y : S) → j < length items → k < length items → length marks ≡ length items
    → AreZeroAtNulls (map number items) marks → x ≡ get_or items j x → y ≡ get_or items k y → number x ≢ number y
    → slice_get (optionals (map number items) marks) j ≢ slice_get (optionals (map number items) marks) k
apart-by_number number items marks j k x y first second fits zeroed here there differ = λ same.
    let v = get_or marks j false in
    let w = get_or marks k false in
    let left = slice_get-get_or marks j false (omega arith) in
    let right = slice_get-get_or marks k false (omega arith) in
    differ (numbers-equal v w (number x) (number y) (marked-blank number items marks j x v first here left zeroed) (marked-blank number items marks k y w second there right zeroed)
    (same_Some _ _ (sym (marked-read number items marks j x v first here left) ∙ same ∙ marked-read number items marks k y w second there right)))

-- and so do runs of other bits
pub apart-by_flag : {S : Type 0} (number : S → ℤ) (items : List S) (marks : List Bool) (j k : ℕ) (x y : S) (v w : Bool) → j < length items → k < length items
    → x ≡ get_or items j x → y ≡ get_or items k y → slice_get marks j ≡ Some v → slice_get marks k ≡ Some w → v ≢ w
    → slice_get (optionals (map number items) marks) j ≢ slice_get (optionals (map number items) marks) k
apart-by_flag number items marks j k x y v w first second here there left right differ = λ same.
    differ (flags-equal v w (number x) (number y) (same_Some _ _ (sym (marked-read number items marks j x v first here left) ∙ same ∙ marked-read number items marks k y w second there right)))

-- runs of equal numbers and bits show the same
pub alike : {S : Type 0} (number : S → ℤ) (items : List S) (marks : List Bool) (j k : ℕ) (x y : S) (v w : Bool) → j < length items → k < length items
    → x ≡ get_or items j x → y ≡ get_or items k y → slice_get marks j ≡ Some v → slice_get marks k ≡ Some w → v ≡ w → number x ≡ number y
    → slice_get (optionals (map number items) marks) j ≡ slice_get (optionals (map number items) marks) k
alike number items marks j k x y v w first second here there left right same equal =
    marked-read number items marks j x v first here left ∙ ap Some (equal-optionals v w (number x) (number y) same equal) ∙ sym (marked-read number items marks k y w second there right)

-- one more run is written: its number, and its flag in the place after those before it
pub shown-put : {S : Type 0} (number : S → ℤ) (items : List S) (flags written : List Bool) (x : S) (flag : Bool) → length items ≤ length flags
    → take (length items + 1) written ≡ take (length items) flags ++ flag ∷ []
    → optionals (map number (items ++ x ∷ [])) (take (length (items ++ x ∷ [])) written) ≡ optionals (map number items) (take (length items) flags) ++ optional_of flag (number x) ∷ []
shown-put number items flags written x flag within put =
    let long : length (take (length items) flags) ≡ length (map number items) = length-take-le (length items) flags within ∙ sym (length-map items number) in
    rw (length_push items x, put, optionals-push_mapped number items x) (optionals-push (map number items) (take (length items) flags) (number x) flag long)

pub zeroed-put : {S : Type 0} (number : S → ℤ) (items : List S) (flags written : List Bool) (x : S) (flag : Bool) → length items ≤ length flags
    → take (length items + 1) written ≡ take (length items) flags ++ flag ∷ [] → (flag ≡ false → number x ≡ pos 0)
    → AreZeroAtNulls (map number items) (take (length items) flags) → AreZeroAtNulls (map number (items ++ x ∷ [])) (take (length (items ++ x ∷ [])) written)
zeroed-put number items flags written x flag within put blank zeroed =
    let long : length (take (length items) flags) ≡ length (map number items) = length-take-le (length items) flags within ∙ sym (length-map items number) in
    rw (length_push items x, put, optionals-push_mapped number items x) (AreZeroAtNulls-push (map number items) (take (length items) flags) (number x) flag long blank zeroed)

-- after a place from which on all flags are true, they are, and so is the one there
pub rest-more : (flags : List Bool) (place : ℕ) → place < length flags → drop place flags ≡ replicate (length flags - place) true
    → drop (place + 1) flags ≡ replicate (length flags - (place + 1)) true
rest-more flags place within rest =
    let fewer : length flags - place - 1 ≡ length flags - (place + 1) = omega arith in
    sym (drop-drop 1 place flags) ∙ ap (drop 1) rest ∙ drop-replicate 1 (length flags - place) true ∙ ap (λ (n : ℕ). replicate n true) fewer

pub rest-first : (flags : List Bool) (place : ℕ) → place < length flags → drop place flags ≡ replicate (length flags - place) true → get_or flags place false ≡ true
rest-first flags place within rest =
    let here : place + 0 ≡ place = omega arith in
    sym (ap (λ (k : ℕ). get_or flags k false) here) ∙ sym (get_or-drop place flags 0 false) ∙ ap (λ (bits : List Bool). get_or bits 0 false) rest
    ∙ get_or-replicate (length flags - place) 0 true false (omega arith)

positive : (flag : Bool) → (flag ≡ false → ⊥) → flag ≡ true
positive true some = refl
positive false some = absurd (some refl)

-- a run whose number is not 0 shows it
pub marked-nonzero : {S : Type 0} (number : S → ℤ) (items : List S) (marks : List Bool) (run : ℕ) (x : S) → run < length items → length marks ≡ length items
    → x ≡ get_or items run x → AreZeroAtNulls (map number items) marks → number x ≢ pos 0 → slice_get marks run ≡ Some true
marked-nonzero number items marks run x within fits read zeroed some =
    let flag = slice_get-get_or marks run false (omega arith) in
    flag ∙ ap Some (positive (get_or marks run false) (λ null. some (marked-blank number items marks run x (get_or marks run false) within read flag zeroed null)))
