-- What a flat column of integers is.
use Rattle.std.specs.Prelude.{ℤ, pos, List, Bool, Option, length, map, option_map}
use Rattle.column_base.specs.declared.dtype.PType.{PType}
use Rattle.column_base.specs.declared.dtype.DType.{DType}
use Rattle.column_base.specs.declared.dtype.DType.TheVariants as column
use Rattle.column_base.specs.ValidityForm.{ValidityForm, flags, nullability_in}
use Rattle.column_core.specs.Value.{FlatValue, Number}
use Rattle.column_core.specs.Optionals.{AreBlankAtNulls}
pub use Rattle.column_core.specs.Optionals.{optionals}

-- the form: the numbers as they are stored, also under null, and which rows are valid
pub record PrimitiveForm : Type 0 where
  pub ptype : PType
  pub numbers : List ℤ
  pub validity : ValidityForm

-- the form with these parts
abbrev pub primitive_with : PType → List ℤ → ValidityForm → PrimitiveForm
primitive_with ptype numbers validity = record { ptype = ptype; numbers = numbers; validity = validity }

-- the flags of the rows: whether each is valid
abbrev pub row_flags : PrimitiveForm → List Bool
row_flags form = flags form.validity (length form.numbers)

-- the optional numbers, row by row
abbrev pub optional_numbers : PrimitiveForm → List (Option ℤ)
optional_numbers form = optionals form.numbers (row_flags form)

-- the rows
abbrev pub primitive_rows : PrimitiveForm → List (Option FlatValue)
primitive_rows form = map (option_map Number) (optional_numbers form)

-- the type
abbrev pub primitive_dtype : PrimitiveForm → DType
primitive_dtype form = column.Primitive form.ptype (nullability_in form.validity)

-- each number whose flag is false is 0
abbrev pub AreZeroAtNulls : List ℤ → List Bool → Type 0
AreZeroAtNulls numbers bits = AreBlankAtNulls (pos 0) numbers bits

-- under null 0 is stored
abbrev pub IsZeroAtNulls : PrimitiveForm → Type 0
IsZeroAtNulls form = AreZeroAtNulls form.numbers (row_flags form)
