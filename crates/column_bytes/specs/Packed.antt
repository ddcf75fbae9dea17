-- Columns whose texts and bytes are packed, as those are that are read.
use Rattle.std.specs.Prelude.{◌≡◌}
use Rattle.column_core.specs.Leaf.{Leaf, OfNumbers, OfTruths, OfDecimals, OfVarBins}
use Rattle.runend_array.specs.Column.{Column, OfLeaf, OfConstant, OfLists, OfRuns}
use Rattle.runend_array.specs.Lists.{lists_with}
use Rattle.column_bytes.specs.Texts.{packed}

abbrev pub packed_leaf : Leaf → Leaf
packed_leaf (OfNumbers form) = OfNumbers form
packed_leaf (OfTruths form) = OfTruths form
packed_leaf (OfDecimals form) = OfDecimals form
packed_leaf (OfVarBins form) = OfVarBins (packed form)

-- the same column, its texts and bytes packed
abbrev pub packed_column : Column → Column
packed_column (OfLeaf leaf) = OfLeaf (packed_leaf leaf)
packed_column (OfConstant constant) = OfConstant constant
packed_column (OfLists lists) = OfLists (lists_with (packed_leaf lists.elements) lists.offsets lists.sizes lists.validity)
packed_column (OfRuns ends_type ends values offset count) = OfRuns ends_type ends (packed_column values) offset count

abbrev pub IsPackedLeaf : Leaf → Type 0
IsPackedLeaf (OfNumbers form) = Unit {0}
IsPackedLeaf (OfTruths form) = Unit {0}
IsPackedLeaf (OfDecimals form) = Unit {0}
IsPackedLeaf (OfVarBins form) = packed form ≡ form

-- its texts and bytes are packed
abbrev pub IsPacked : Column → Type 0
IsPacked (OfLeaf leaf) = IsPackedLeaf leaf
IsPacked (OfConstant constant) = Unit {0}
IsPacked (OfLists lists) = IsPackedLeaf lists.elements
IsPacked (OfRuns ends_type ends values offset count) = IsPacked values
