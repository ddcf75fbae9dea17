-- Rows that are cast, as they are stored.
use Rattle.std.proofs.Common.{◌≡◌, ◌∙◌, ℕ, ◌+◌, ◌<◌, zero, suc, ℤ, List, [], ◌∷◌, ◌++◌, Bool, true, false, Option, Some, None, length, map, take, refl, ap, sym, subst, arith}
use Rattle.std.specs.Prelude.{Contains, MatchOption, option_map, slice_get}
use Rattle.std.specs.List.{AllZip}
use Rattle.std.proofs.lemmas.List.{map-append}
use Rattle.std.proofs.lemmas.Option.{get_or_from_slice_get}
use Rattle.std.proofs.lemmas.Slice.Zip.{AllZip-long, all_zipped_more}
use Rattle.column_base.specs.declared.dtype.PType.{PType}
use Rattle.column_base.specs.Number.{Narrows}
use Rattle.column_base.specs.Types.{HasNumber}
use Rattle.column_base.specs.ValidityForm.{HasLength, ValidityForm, flags}
use Rattle.column_base.proofs.ValidityRows.{length-flags}
use Rattle.column_core.specs.Leaf.{OfNumbers, single_rows}
use Rattle.column_core.specs.Optionals.{optionals}
use Rattle.column_core.specs.PrimitiveForm.{PrimitiveForm, optional_numbers, primitive_with}
use Rattle.column_core.specs.Value.{FlatValue, Number, Single, Value}
use Rattle.column_core.proofs.OptionalRows.{length-optionals}
use Rattle.column_floats.specs.Casts.{Becomes, BecomesNone, IsCastRow, IsStoredFor}
use Rattle.column_floats.proofs.KeyExtremes.{take_more}

-- the rows of stored numbers
abbrev rows_of : List ℤ → List Bool → List (Option Value)
rows_of ns bs = map (option_map (λ (v : FlatValue). Single v)) (map (option_map (λ (n : ℤ). Number n)) (optionals ns bs))

cast_rows : (R : ℤ → ℤ → Type 0) (ns ms : List ℤ) (bs : List Bool) → AllZip (IsStoredFor R) (optionals ns bs) ms → AllZip (IsCastRow R) (rows_of ns bs) (rows_of ms bs)
cast_rows R [] [] bs each = tt
cast_rows R [] (m ∷ ms) bs each = absurd each
cast_rows R (n ∷ ns) [] [] each = tt
cast_rows R (n ∷ ns) [] (b ∷ bs) each = absurd each
cast_rows R (n ∷ ns) (m ∷ ms) [] each = absurd each
cast_rows R (n ∷ ns) (m ∷ ms) (true ∷ bs) each = ((m, refl, each.0), cast_rows R ns ms bs each.1)
cast_rows R (n ∷ ns) (m ∷ ms) (false ∷ bs) each = (refl, cast_rows R ns ms bs each.1)

-- as many are stored as there are rows
pub length-stored : (R : ℤ → ℤ → Type 0) (form : PrimitiveForm) (stored : List ℤ) → HasLength form.validity (length form.numbers) → AllZip (IsStoredFor R) (optional_numbers form) stored → length stored ≡ length form.numbers
length-stored R form stored fits each =
    AllZip-long (IsStoredFor R) (optional_numbers form) stored each
    ∙ length-optionals form.numbers (flags form.validity (length form.numbers)) (length-flags form.validity (length form.numbers) fits)

pub cast_form : (R : ℤ → ℤ → Type 0) (form : PrimitiveForm) (t : PType) (stored : List ℤ) (validity : ValidityForm) → HasLength form.validity (length form.numbers) → validity ≡ form.validity
    → AllZip (IsStoredFor R) (optional_numbers form) stored → AllZip (IsCastRow R) (single_rows (OfNumbers form)) (single_rows (OfNumbers (primitive_with t stored validity)))
cast_form R form t stored validity fits same each =
    subst (λ (bs : List Bool). AllZip (IsCastRow R) (single_rows (OfNumbers form)) (rows_of stored bs))
    (sym (ap (λ (v : ValidityForm). flags v (length stored)) same ∙ ap (λ (n : ℕ). flags form.validity n) (length-stored R form stored fits each)))
    (cast_rows R form.numbers stored (flags form.validity (length form.numbers)) each)

-- one number more is stored
pub stored_more : {K : Type 0} (number : K → ℤ) (R : ℤ → ℤ → Type 0) (xs : List (Option ℤ)) (k : ℕ) (x : Option ℤ) (items : List K) (item : K) → slice_get xs k ≡ Some x → AllZip (IsStoredFor R) (take k xs) (map number items) → IsStoredFor R x (number item)
    → AllZip (IsStoredFor R) (take (k + 1) xs) (map number (items ++ item ∷ []))
stored_more number R xs k x items item at each one =
    subst (λ (ys : List ℤ). AllZip (IsStoredFor R) (take (k + 1) xs) ys) (sym (map-append number items (item ∷ [])))
    (subst (λ (zs : List (Option ℤ)). AllZip (IsStoredFor R) zs (map number items ++ number item ∷ [])) (sym (take_more xs k x at))
    (all_zipped_more (IsStoredFor R) (take k xs) (map number items) x (number item) each one))

-- a row that becomes no number
within_get : {X : Type 0} (xs : List X) (k : ℕ) (x : X) → slice_get xs k ≡ Some x → k < length xs
within_get [] k x e = absurd (cc)
within_get (y ∷ ys) zero x e = omega arith
within_get (y ∷ ys) (suc k) x e = let rest = within_get ys k x e in omega arith

pub refused_at : (R : ℤ → ℤ → Type 0) (xs : List (Option ℤ)) (k : ℕ) (x : Option ℤ) → slice_get xs k ≡ Some x → MatchOption x ⊥ (BecomesNone R) → (n : ℤ) × Contains xs (Some n) × BecomesNone R n
refused_at R xs k None at none = absurd none
refused_at R xs k (Some n) at none = (n, (k, within_get xs k (Some n) at, get_or_from_slice_get xs k (Some n) (Some n) at), none)

-- a number that the type has is a value of it
pub narrowed : {K : Type 0} (number : K → ℤ) (t u : PType) (R : ℤ → ℤ → Type 0) (row : Option ℤ) (n m : ℤ) (r : Option K) → row ≡ Some n → t ≡ u → Becomes t R n m → Narrows number (HasNumber u) m r
    → MatchOption r (MatchOption row ⊥ (BecomesNone (Becomes t R))) (λ item. IsStoredFor (Becomes t R) row (number item))
narrowed number t u R row n m None is same becomes narrows = absurd (narrows (subst (λ (v : PType). HasNumber v m) same becomes.0))
narrowed number t u R row n m (Some item) is same becomes narrows =
    subst (λ (o : Option ℤ). IsStoredFor (Becomes t R) o (number item)) (sym is) (subst (λ (k : ℤ). Becomes t R n k) (sym narrows.1) becomes)
