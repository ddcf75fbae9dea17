-- What a flat column is, of whatever type.
use Rattle.std.specs.Prelude.{ℕ, List, Option, length, map, option_map}
use Rattle.column_base.specs.declared.dtype.DType.{DType}
use Rattle.column_base.specs.ValidityForm.{ValidityForm}
use Rattle.column_core.specs.Value.{FlatValue, PlainColumn, Single, Value}
use Rattle.column_core.specs.PrimitiveForm.{PrimitiveForm, primitive_rows, primitive_dtype}
use Rattle.column_core.specs.BoolForm.{BoolForm, bool_rows, bool_dtype}
use Rattle.column_core.specs.DecimalForm.{DecimalForm, decimal_rows, decimal_dtype_of}
use Rattle.column_core.specs.VarBinForm.{VarBinForm, varbin_rows, varbin_dtype}

-- the form of a flat column
pub data Leaf : Type 0 where
  OfNumbers : PrimitiveForm → Leaf
  OfTruths : BoolForm → Leaf
  OfDecimals : DecimalForm → Leaf
  OfVarBins : VarBinForm → Leaf

-- the rows
abbrev pub leaf_rows : Leaf → List (Option FlatValue)
leaf_rows (OfNumbers form) = primitive_rows form
leaf_rows (OfTruths form) = bool_rows form
leaf_rows (OfDecimals form) = decimal_rows form
leaf_rows (OfVarBins form) = varbin_rows form

-- the type
abbrev pub leaf_dtype : Leaf → DType
leaf_dtype (OfNumbers form) = primitive_dtype form
leaf_dtype (OfTruths form) = bool_dtype form
leaf_dtype (OfDecimals form) = decimal_dtype_of form
leaf_dtype (OfVarBins form) = varbin_dtype form

-- which rows are valid
abbrev pub leaf_validity : Leaf → ValidityForm
leaf_validity (OfNumbers form) = form.validity
leaf_validity (OfTruths form) = form.validity
leaf_validity (OfDecimals form) = form.validity
leaf_validity (OfVarBins form) = form.validity

-- how many items are stored
abbrev pub leaf_count : Leaf → ℕ
leaf_count (OfNumbers form) = length form.numbers
leaf_count (OfTruths form) = length form.bits
leaf_count (OfDecimals form) = length form.numbers
leaf_count (OfVarBins form) = length form.views

-- the rows, as values
abbrev pub single_rows : Leaf → List (Option Value)
single_rows leaf = map (option_map Single) (leaf_rows leaf)

-- the plain column: its type and its rows
abbrev pub plain_leaf : Leaf → PlainColumn
plain_leaf leaf = record { dtype = leaf_dtype leaf; rows = single_rows leaf }
