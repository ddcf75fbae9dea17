-- What a flat column of booleans is.
use Rattle.std.specs.Prelude.{List, Bool, false, Option, length, map, option_map}
use Rattle.column_base.specs.declared.dtype.DType.{DType}
use Rattle.column_base.specs.declared.dtype.DType.TheVariants as column
use Rattle.column_base.specs.ValidityForm.{ValidityForm, flags, nullability_in}
use Rattle.column_core.specs.Value.{FlatValue, Truth}
use Rattle.column_core.specs.Optionals.{optionals, AreBlankAtNulls}

-- the form: the bits as they are stored, also under null, and which rows are valid
pub record BoolForm : Type 0 where
  pub bits : List Bool
  pub validity : ValidityForm

-- the form with these parts
abbrev pub bool_with : List Bool → ValidityForm → BoolForm
bool_with bits validity = record { bits = bits; validity = validity }

-- the flags of the rows: whether each is valid
abbrev pub bool_flags : BoolForm → List Bool
bool_flags form = flags form.validity (length form.bits)

-- the optional booleans, row by row
abbrev pub optional_truths : BoolForm → List (Option Bool)
optional_truths form = optionals form.bits (bool_flags form)

-- the rows
abbrev pub bool_rows : BoolForm → List (Option FlatValue)
bool_rows form = map (option_map Truth) (optional_truths form)

-- the type
abbrev pub bool_dtype : BoolForm → DType
bool_dtype form = column.Bool (nullability_in form.validity)

-- under null false is stored
abbrev pub IsFalseAtNulls : BoolForm → Type 0
IsFalseAtNulls form = AreBlankAtNulls false form.bits (bool_flags form)
