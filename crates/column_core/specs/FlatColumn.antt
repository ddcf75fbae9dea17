-- The form of a flat column.
use Rattle.column_core.specs.Leaf.{Leaf, OfNumbers, OfTruths, OfDecimals, OfVarBins}
use Rattle.column_core.specs.declared.flat.FlatColumn.{FlatColumn}
use Rattle.column_core.specs.declared.flat.FlatColumn.TheVariants.{Primitive, Bool, Decimal, VarBinView}

-- the form of a flat column
abbrev pub leaf_of : {A : Type 0} → FlatColumn A → Leaf
leaf_of (Primitive array) = OfNumbers array
leaf_of (Bool array) = OfTruths array
leaf_of (Decimal array) = OfDecimals array
leaf_of (VarBinView array) = OfVarBins array
