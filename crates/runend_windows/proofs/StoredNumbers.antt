-- Numbers as a computed column stores them: 0 under null.
use Rattle.std.proofs.Common.{◌≡◌, ◌≢◌, ℕ, ℤ, pos, zero, suc, ◌<◌, get_or, List, [], ◌∷◌, ◌++◌, Bool, true, false, not, Option, Some, None, if◌then◌else◌, length, map, replicate, refl, sym, ◌∙◌, ap, arith}
use Rattle.std.specs.Prelude.{unsigned_abs, slice_index}
use Rattle.std.specs.List.{slice_get}
use Rattle.std.specs.Option.{option_map, option_eq, is_some, UnwrapsOrElse}
use Rattle.std.specs.declared.cmp.Ordering.{Ordering}
use Rattle.std.proofs.lemmas.List.{length-map, map-append}
use Rattle.std.proofs.lemmas.Option.{slice_get-map, slice_get_read, get_or_from_slice_get}
use Rattle.column_base.specs.Number.{IsNumbered}
use Rattle.column_base.specs.ValidityForm.{ValidityForm, HasLength, flags, flag_at}
use Rattle.column_base.proofs.ValidityRows.{flags-at}
use Rattle.column_core.specs.PrimitiveForm.{optionals}
use Rattle.column_core.proofs.OptionalRows.{optionals-at, null-at}

-- optional values that compare equal have one number, and others do not
same-from_option_eq : {S : Type 0} (eq : S → S → Bool) (cmp : S → S → Ordering) (is_default : S → Type 0) (number : S → ℤ) → IsNumbered eq cmp is_default number
    → (a b : Option S) → option_eq eq a b ≡ true → option_map number a ≡ option_map number b
same-from_option_eq eq cmp is_default number law None None h = refl
same-from_option_eq eq cmp is_default number law None (Some y) h = cc
same-from_option_eq eq cmp is_default number law (Some x) None h = cc
same-from_option_eq eq cmp is_default number law (Some x) (Some y) h = ap Some ((law.equal x y).0 h)

differ-from_option_eq : {S : Type 0} (eq : S → S → Bool) (cmp : S → S → Ordering) (is_default : S → Type 0) (number : S → ℤ) → IsNumbered eq cmp is_default number
    → (a b : Option S) → option_eq eq a b ≡ false → option_map number b ≢ option_map number a
differ-from_option_eq eq cmp is_default number law None None h e = cc
differ-from_option_eq eq cmp is_default number law None (Some y) h e = cc
differ-from_option_eq eq cmp is_default number law (Some x) None h e = cc
differ-from_option_eq eq cmp is_default number law (Some x) (Some y) h e =
    let same : number x ≡ number y = cc in
    let equal = (law.equal x y).1 same in
    cc

not-true : (b : Bool) → not b ≡ true → b ≡ false
not-true true h = cc
not-true false h = refl

not-false : (b : Bool) → not b ≡ false → b ≡ true
not-false true h = refl
not-false false h = cc

-- what `!=` says of optional values
pub differ-from_ne : {S : Type 0} (eq : S → S → Bool) (cmp : S → S → Ordering) (is_default : S → Type 0) (number : S → ℤ) → IsNumbered eq cmp is_default number
    → (a b : Option S) (r : Bool) → r ≡ not (option_eq eq a b) → r ≡ true → option_map number b ≢ option_map number a
differ-from_ne eq cmp is_default number law a b r e t = differ-from_option_eq eq cmp is_default number law a b (not-true (option_eq eq a b) (sym e ∙ t))

pub same-from_ne : {S : Type 0} (eq : S → S → Bool) (cmp : S → S → Ordering) (is_default : S → Type 0) (number : S → ℤ) → IsNumbered eq cmp is_default number
    → (a b : Option S) (r : Bool) → r ≡ not (option_eq eq a b) → r ≡ false → option_map number a ≡ option_map number b
same-from_ne eq cmp is_default number law a b r e t = same-from_option_eq eq cmp is_default number law a b (not-false (option_eq eq a b) (sym e ∙ t))

-- what an optional value is stored as, with its flag
pub stored-row : {S : Type 0} (number : S → ℤ) (is_default : S → Type 0) (row : Option S) (x : S) (b : Bool) → b ≡ is_some row → UnwrapsOrElse row is_default x
    → (if b then Some (number x) else None) ≡ option_map number row
stored-row number is_default None x b e u = rw e refl
stored-row number is_default (Some y) x b e u = rw e (ap (λ z. Some (number z)) u)

pub stored-zero : {S : Type 0} (eq : S → S → Bool) (cmp : S → S → Ordering) (is_default : S → Type 0) (number : S → ℤ) → IsNumbered eq cmp is_default number
    → (row : Option S) (x : S) (b : Bool) → b ≡ is_some row → UnwrapsOrElse row is_default x → b ≡ false → number x ≡ pos 0
stored-zero eq cmp is_default number law None x b e u f = law.zeroth x u
stored-zero eq cmp is_default number law (Some y) x b e u f = cc

-- numbers and flags that are pushed
pub optionals-push_mapped : {S : Type 0} (number : S → ℤ) (xs : List S) (x : S) → map number (xs ++ x ∷ []) ≡ map number xs ++ number x ∷ []
optionals-push_mapped number xs x = map-append number xs (x ∷ [])

-- copies of a number
pub map-replicate : {S : Type 0} (number : S → ℤ) (n : ℕ) (x : S) → map number (replicate n x) ≡ replicate n (number x)
map-replicate number zero x = refl
map-replicate number (suc n) x = ap (λ (zs : List ℤ). number x ∷ zs) (map-replicate number n x)

pub map-append_copies : {S : Type 0} (number : S → ℤ) (xs : List S) (n : ℕ) (x : S) → map number (xs ++ replicate n x) ≡ map number xs ++ replicate n (number x)
map-append_copies number [] n x = map-replicate number n x
map-append_copies number (y ∷ xs) n x = ap (λ (zs : List ℤ). number y ∷ zs) (map-append_copies number xs n x)

-- ends that are stored as numbers of an unsigned type
pub slice_index-naturals : {S : Type 0} (number : S → ℤ) (natural : S → ℕ) → ((x : S) → number x ≡ pos (natural x)) → (xs : List S) (k : ℕ) (x : S) → slice_get xs k ≡ Some x
    → slice_index (map unsigned_abs (map number xs)) k ≡ natural x
slice_index-naturals number natural law xs k x here =
    get_or_from_slice_get (map unsigned_abs (map number xs)) k (unsigned_abs (number x)) 0
    (slice_get-map unsigned_abs (map number xs) k ∙ ap (option_map unsigned_abs) (slice_get-map number xs k ∙ ap (option_map number) here))
    ∙ ap unsigned_abs (law x)

pub naturals-of_pos : (ends : List ℕ) → map unsigned_abs (map (λ (end : ℕ). pos end) ends) ≡ ends
naturals-of_pos [] = refl
naturals-of_pos (end ∷ ends) = ap (λ (es : List ℕ). end ∷ es) (naturals-of_pos ends)

-- as many ends as stored ones
pub length-naturals : {S : Type 0} (number : S → ℤ) (xs : List S) → length (map unsigned_abs (map number xs)) ≡ length xs
length-naturals number xs = length-map (map number xs) unsigned_abs ∙ length-map xs number

-- the flag of a row, as it is read
pub flags-read : (form : ValidityForm) (n row : ℕ) (flag : Bool) → HasLength form n → row < n → flag ≡ flag_at form row → slice_get (flags form n) row ≡ Some flag
flags-read form n row flag fits within read = flags-at form n row fits within ∙ ap Some (sym read)

-- what a row shows, by its flag
pub optionals-valid : {S : Type 0} (number : S → ℤ) (items : List S) (form : ValidityForm) (row : ℕ) (x : S) → HasLength form (length items) → row < length items
    → x ≡ get_or items row x → flag_at form row ≡ true → slice_get (optionals (map number items) (flags form (length items))) row ≡ Some (Some (number x))
optionals-valid number items form row x fits within read valid =
    let item = slice_get_read items (length items) row x refl within read in
    optionals-at (map number items) (flags form (length items)) row (number x) true
    (slice_get-map number items row ∙ ap (option_map number) item)
    (flags-at form (length items) row fits within ∙ ap Some valid)

pub optionals-null : {S : Type 0} (number : S → ℤ) (items : List S) (form : ValidityForm) (row : ℕ) → HasLength form (length items) → row < length items
    → flag_at form row ≡ false → slice_get (optionals (map number items) (flags form (length items))) row ≡ Some None
optionals-null number items form row fits within null =
    let long = length-map items number in
    null-at (map number items) (flags form (length items)) row (omega arith) (flags-at form (length items) row fits within ∙ ap Some null)
