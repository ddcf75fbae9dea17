-- The form of a validity.
use Rattle.std.specs.Prelude.{ℕ, Bool, List}
use Rattle.column_base.specs.declared.validity.Validity.{Validity}
use Rattle.column_base.specs.declared.validity.Validity.TheVariants.{NonNullable, AllValid, AllInvalid, Bits}
use Rattle.column_base.specs.ValidityForm.{ValidityForm, NeverNull, NoneNull, AllNull, ByBits, flags}

-- the form, in which memory has no part
abbrev pub form_of : {A : Type 0} → Validity A → ValidityForm
form_of NonNullable = NeverNull
form_of AllValid = NoneNull
form_of AllInvalid = AllNull
form_of (Bits bits) = ByBits bits

-- whether each of n rows is valid
abbrev pub validity_flags : {A : Type 0} → Validity A → ℕ → List Bool
validity_flags validity n = flags (form_of validity) n
