-- An index at its place, null where its flag is false.
use Rattle.std.proofs.Common.{◌≡◌, ◌∙◌, ◌<◌, ℕ, ℤ, Bool, Some, None, ap, length, sym}
use Rattle.std.specs.Prelude.{if◌then◌else◌, slice_get}
use Rattle.column_base.specs.ValidityForm.{HasLength, flag_at, flags}
use Rattle.column_base.proofs.ValidityRows.{flags-at}
use Rattle.column_core.specs.PrimitiveForm.{PrimitiveForm, optional_numbers}
use Rattle.column_core.proofs.OptionalRows.{optionals-at}

pub shown_at : (own : PrimitiveForm) (place : ℕ) (index : ℤ) (valid : Bool) → HasLength own.validity (length own.numbers) → place < length own.numbers
    → slice_get own.numbers place ≡ Some index → valid ≡ flag_at own.validity place → slice_get (optional_numbers own) place ≡ Some (if valid then Some index else None)
shown_at own place index valid fits within item is =
    optionals-at own.numbers (flags own.validity (length own.numbers)) place index valid item (flags-at own.validity (length own.numbers) place fits within ∙ ap Some (sym is))
