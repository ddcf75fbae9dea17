-- What a flat column of decimals is.
use Rattle.std.specs.Prelude.{ℤ, pos, List, Bool, Option, length, map, option_map}
use Rattle.column_base.specs.declared.dtype.DecimalDType.{DecimalDType}
use Rattle.column_base.specs.declared.dtype.DType.{DType}
use Rattle.column_base.specs.declared.dtype.DType.TheVariants as column
use Rattle.column_base.specs.ValidityForm.{ValidityForm, flags, nullability_in}
use Rattle.column_core.specs.Value.{FlatValue, DecimalNumber}
use Rattle.column_core.specs.Optionals.{optionals, AreBlankAtNulls}

-- the form: precision and scale, the integers of the decimals as they are stored, also under null, and which rows
-- are valid
pub record DecimalForm : Type 0 where
  pub decimal : DecimalDType
  pub numbers : List ℤ
  pub validity : ValidityForm

-- the form with these parts
abbrev pub decimal_with : DecimalDType → List ℤ → ValidityForm → DecimalForm
decimal_with decimal numbers validity = record { decimal = decimal; numbers = numbers; validity = validity }

-- the flags of the rows: whether each is valid
abbrev pub decimal_flags : DecimalForm → List Bool
decimal_flags form = flags form.validity (length form.numbers)

-- the optional integers of the decimals, row by row
abbrev pub optional_decimals : DecimalForm → List (Option ℤ)
optional_decimals form = optionals form.numbers (decimal_flags form)

-- the rows
abbrev pub decimal_rows : DecimalForm → List (Option FlatValue)
decimal_rows form = map (option_map DecimalNumber) (optional_decimals form)

-- the type
abbrev pub decimal_dtype_of : DecimalForm → DType
decimal_dtype_of form = column.Decimal form.decimal (nullability_in form.validity)

-- under null 0 is stored
abbrev pub IsDecimalZeroAtNulls : DecimalForm → Type 0
IsDecimalZeroAtNulls form = AreBlankAtNulls (pos 0) form.numbers (decimal_flags form)
