-- Lemmas on single rows of stored items.
use Rattle.std.proofs.Common.{◌≡◌, ◌∙◌, ◌<◌, ℕ, List, Bool, true, false, Some, None, length, get_or, refl, sym, ap}
use Rattle.std.specs.Prelude.{slice_get}
use Rattle.std.proofs.lemmas.Option.{slice_get_read}
use Rattle.column_base.specs.ValidityForm.{ValidityForm, HasLength, flag_at, flags}
use Rattle.column_base.proofs.ValidityRows.{flags-at}
use Rattle.column_core.specs.Optionals.{optionals}
use Rattle.column_core.proofs.OptionalRows.{optionals-at, null-at}

-- a valid row shows its item
pub row-valid : {T : Type 0} (items : List T) (form : ValidityForm) (row : ℕ) (item : T) (flag : Bool) → HasLength form (length items) → row < length items
    → flag ≡ flag_at form row → flag ≡ true → item ≡ get_or items row item → slice_get (optionals items (flags form (length items))) row ≡ Some (Some item)
row-valid items form row item flag fits within told valid read =
    optionals-at items (flags form (length items)) row item true (slice_get_read items (length items) row item refl within read)
    (flags-at form (length items) row fits within ∙ ap Some (sym told ∙ valid))

-- a null row shows null
pub row-null : {T : Type 0} (items : List T) (form : ValidityForm) (row : ℕ) (flag : Bool) → HasLength form (length items) → row < length items
    → flag ≡ flag_at form row → flag ≡ false → slice_get (optionals items (flags form (length items))) row ≡ Some None
row-null items form row flag fits within told null =
    null-at items (flags form (length items)) row within (flags-at form (length items) row fits within ∙ ap Some (sym told ∙ null))
