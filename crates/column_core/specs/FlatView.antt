-- The form of a flat column that is borrowed.
use Rattle.column_core.specs.Leaf.{Leaf, OfNumbers, OfTruths, OfDecimals, OfVarBins}
use Rattle.column_core.specs.declared.flat_view.FlatView.{FlatView}
use Rattle.column_core.specs.declared.flat_view.FlatView.TheVariants.{Primitive, Bool, Decimal, VarBinView}

-- the form of the column that the view borrows
abbrev pub leaf_in : {A : Type 0} → FlatView A → Leaf
leaf_in (Primitive array) = OfNumbers array.now
leaf_in (Bool array) = OfTruths array.now
leaf_in (Decimal array) = OfDecimals array.now
leaf_in (VarBinView array) = OfVarBins array.now
