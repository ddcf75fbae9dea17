-- The form of a validity that is looked at where its bytes lie.
use Rattle.std.specs.Prelude.{◌≡◌, ℕ, ◌+◌, ◌/◌, length}
use Rattle.column_base.specs.ValidityForm.{ValidityForm, NeverNull, NoneNull, AllNull, ByBits}
use Rattle.column_fields.specs.BitBytes.{bits_from}
use Rattle.column_fields.specs.declared.validity_views.ValidityView.{ValidityView}
use Rattle.column_fields.specs.declared.validity_views.ValidityView.TheVariants.{NonNullable, AllValid, AllInvalid, Bits}

-- the form that a view shows for that number of rows
abbrev pub form_in : ℕ → ValidityView → ValidityForm
form_in rows NonNullable = NeverNull
form_in rows AllValid = NoneNull
form_in rows AllInvalid = AllNull
form_in rows (Bits bytes) = ByBits (bits_from rows bytes.now)

-- bits are as many bytes as the bits of that number of rows have
abbrev pub HoldsRows : ℕ → ValidityView → Type 0
HoldsRows rows NonNullable = Unit {0}
HoldsRows rows AllValid = Unit {0}
HoldsRows rows AllInvalid = Unit {0}
HoldsRows rows (Bits bytes) = length bytes.now ≡ (rows + 7) / 8
