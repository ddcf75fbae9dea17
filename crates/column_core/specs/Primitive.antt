-- The column with two given parts.
use Rattle.column_base.specs.declared.values.PrimitiveValues.{PrimitiveValues}
use Rattle.column_base.specs.declared.validity.Validity.{Validity}
use Rattle.column_base.specs.Numbers.{numbers, ptype_of}
use Rattle.column_base.specs.Validity.{form_of}
use Rattle.column_core.specs.PrimitiveForm.{PrimitiveForm, primitive_with}

-- the form of the column of these numbers under this validity
abbrev pub primitive_of : {A : Type 0} → PrimitiveValues A → Validity A → PrimitiveForm
primitive_of values validity = primitive_with (ptype_of values) (numbers values) (form_of validity)
